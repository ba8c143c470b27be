-- What a thread receives from is there, and it may receive from it once it was woken.
use Rattle.std.specs.Prelude.{ℕ, ◌≡◌, ◌||◌, Bool, true, false, cond, not, Option, Some, None, Ok, Err}
use Rattle.std.specs.Option.{IfSome}
use Rattle.std.proofs.Common.{refl, ap, subst}
use Rattle.mcs_types.specs.declared.id.ObjId.{ObjId}
use Rattle.mcs_types.specs.declared.id.Kind.{Kind}
use Rattle.mcs_types.specs.declared.id.Kind.TheVariants as kind
use Rattle.mcs_types.specs.declared.cap.Cap.{Cap}
use Rattle.mcs_types.specs.declared.record.Mode.{Mode}
use Rattle.mcs_types.specs.declared.record.Mode.TheVariants.{Running, Restart, Inactive}
use Rattle.mcs_types.specs.declared.entry.Refusal.TheVariants.{WrongKind, NoRight, AlreadyBound}
use Rattle.mcs_types.specs.Ids.{same_kind}
use Rattle.mcs_book.specs.Logs.{Log, onto}
use Rattle.mcs_book.specs.Checks.{Checked}
use Rattle.mcs_book.specs.Lookup.{capability}
use Rattle.mcs_book.specs.Notifications.{tied_to}
use Rattle.mcs_book.specs.Objects.{is_alive}
use Rattle.mcs_book.specs.Receiving.{bound_elsewhere}
use Rattle.mcs_book.specs.Rights.{may_read}
use Rattle.mcs_book.specs.Sound.{Sound, IsThere}
use Rattle.mcs_book.specs.Table.{wakes}
use Rattle.mcs_book.specs.Threads.{mode_of}
use Rattle.mcs_notify.specs.Waiting.{NoneElseBound}
use Rattle.mcs_notify.proofs.Words.{may_wait-alone}
use Rattle.mcs_state.specs.Checks.{object_named}
use Rattle.mcs_state.specs.Entering.{IsEntering, OpenStand}
use Rattle.mcs_state.proofs.Named.{found-alive, named-there}
use Rattle.mcs_state.proofs.Woken.{woken, woken-there, woken-stand}
use Rattle.mcs_ipc.specs.declared.checks.Replying.{Replying}
use Rattle.mcs_ipc.specs.declared.checks.Source.{Source}
use Rattle.mcs_ipc.specs.declared.checks.Source.TheVariants as source
use Rattle.mcs_ipc.specs.Ready.{IsReceivingFrom}
use Rattle.mcs_ipc.specs.Sources.{reply_found, reply_named, with_reply, waitable, notification_source, source_by, source_over, receivable, second_found, replying, replying_by, replying_over, answerable}
use Rattle.mcs_ipc.proofs.Facts.{woken-reply}

-- what t receives from is there; no other thread is bound to a notification on which it waits
abbrev pub IsSourceThere : Log → ObjId → Source → Type 0
IsSourceThere R t (source.Endpoint at) = IsThere R kind.Endpoint at.endpoint × IfSome at.reply (λ r. IsThere R kind.Reply r)
IsSourceThere R t (source.Notification n) = IsThere R kind.Notification n × NoneElseBound R n t

-- the reply object that t names is there
reply-there : (R : Log) (t : ObjId) (r : Option ℕ) (o : Option ObjId) → Sound R → reply_named R t r ≡ Ok o → IfSome o (λ x. IsThere R kind.Reply x)
reply-there R t None o sound e = let it : None ≡ o = cc in subst (λ (x : Option ObjId). IfSome x (λ y. IsThere R kind.Reply y)) it tt
reply-there R t (Some r) o sound e = go (object_named R t kind.Reply r) refl e
  where
    go : (m : Checked ObjId) → object_named R t kind.Reply r ≡ m → reply_found m ≡ Ok o → IfSome o (λ x. IsThere R kind.Reply x)
    go (Err why) is h = absurd cc
    go (Ok u) is h = let it : Some u ≡ o = cc in subst (λ (x : Option ObjId). IfSome x (λ y. IsThere R kind.Reply y)) it (named-there R t kind.Reply r u sound is)

-- the notification on which t may wait
notification-there : (R : Log) (t : ObjId) (c : Cap) (s : Source) → Sound R → IsThere R kind.Notification c.obj → notification_source R t c ≡ Ok s → IsSourceThere R t s
notification-there R t c s sound there e = go (may_read c) e
  where
    test : (b : Bool) → bound_elsewhere (tied_to R c.obj) t ≡ b → cond b (Err AlreadyBound) (Ok (source.Notification c.obj)) ≡ Ok s → IsSourceThere R t s
    test true is h = absurd cc
    test false is h =
        let it : source.Notification c.obj ≡ s = cc in
        subst (λ (x : Source). IsSourceThere R t x) it (there, may_wait-alone R t c.obj sound (ap (λ b. not b) is))

    go : (may : Bool) → waitable R t (cond may (Ok c) (Err NoRight)) ≡ Ok s → IsSourceThere R t s
    go true h = test (bound_elsewhere (tied_to R c.obj) t) refl h
    go false h = absurd cc

-- what t receives from
pub source-there : (R : Log) (t : ObjId) (a : ℕ) (r : Option ℕ) (s : Source) → Sound R → receivable R t a r ≡ Ok s → IsSourceThere R t s
source-there R t a r s sound e = go (capability R t a) refl e
  where
    endpoint : (c : Cap) → IsThere R kind.Endpoint c.obj → (may : Bool) (m : Checked (Option ObjId)) → reply_named R t r ≡ m → with_reply (cond may (Ok c) (Err NoRight)) m ≡ Ok s → IsSourceThere R t s
    endpoint c there true (Ok o) is h =
        let it : source.Endpoint (record { endpoint = c.obj; reply = o }) ≡ s = cc in
        subst (λ (x : Source). IsSourceThere R t x) it (there, reply-there R t r o sound is)
    endpoint c there true (Err why) is h = absurd cc
    endpoint c there false m is h = absurd cc

    by_kind : (k : Kind) (c : Cap) → c.obj.kind ≡ k → is_alive R c.obj ≡ true → source_by k R t c r ≡ Ok s → IsSourceThere R t s
    by_kind kind.Endpoint c own alive h = endpoint c (own, alive) (may_read c) (reply_named R t r) refl h
    by_kind kind.Notification c own alive h = notification-there R t c s sound (own, alive) h
    by_kind kind.Reply c own alive h = absurd cc
    by_kind kind.CNode c own alive h = absurd cc
    by_kind kind.Thread c own alive h = absurd cc
    by_kind kind.Context c own alive h = absurd cc

    go : (m : Checked Cap) → capability R t a ≡ m → source_over R t r m ≡ Ok s → IsSourceThere R t s
    go (Err why) is h = absurd cc
    go (Ok c) is h = by_kind c.obj.kind c refl (found-alive R t a c sound is) h

-- what t receives from after it has paid a reply object
pub replied-there : (R : Log) (t : ObjId) (a r : ℕ) (at : Replying) → Sound R → answerable R t a r ≡ Ok at → IsSourceThere R t at.source
replied-there R t a r at sound e = go (capability R t a) refl e
  where
    from : (o : ObjId) (m : Checked Source) → ((s : Source) → m ≡ Ok s → IsSourceThere R t s) → replying o m ≡ Ok at → IsSourceThere R t at.source
    from o (Err why) there h = absurd cc
    from o (Ok s) there h = let it : record { reply = o; source = s } ≡ at = cc in subst (λ (x : Replying). IsSourceThere R t x.source) it (there s refl)

    endpoint : (c : Cap) → IsThere R kind.Endpoint c.obj → (may : Bool) (m : Checked ObjId) → object_named R t kind.Reply r ≡ m → replying_by kind.Endpoint R t c (second_found (cond may (Ok c) (Err NoRight)) m) ≡ Ok at → IsSourceThere R t at.source
    endpoint c there true (Ok o) is h =
        let it : record { reply = o; source = source.Endpoint (record { endpoint = c.obj; reply = Some o }) } ≡ at = cc in
        subst (λ (x : Replying). IsSourceThere R t x.source) it (there, named-there R t kind.Reply r o sound is)
    endpoint c there true (Err why) is h = absurd cc
    endpoint c there false m is h = absurd cc

    notification : (c : Cap) → IsThere R kind.Notification c.obj → (may : Bool) (m : Checked ObjId) → replying_by kind.Notification R t c (second_found (cond may (Ok c) (Err NoRight)) m) ≡ Ok at → IsSourceThere R t at.source
    notification c there true (Ok o) h = from o (notification_source R t c) (λ s is. notification-there R t c s sound there is) h
    notification c there true (Err why) h = absurd cc
    notification c there false m h = absurd cc

    by_kind : (k : Kind) (c : Cap) → c.obj.kind ≡ k → is_alive R c.obj ≡ true
        → cond (same_kind k kind.Endpoint || same_kind k kind.Notification) (replying_by k R t c (second_found (cond (may_read c) (Ok c) (Err NoRight)) (object_named R t kind.Reply r))) (Err WrongKind) ≡ Ok at → IsSourceThere R t at.source
    by_kind kind.Endpoint c own alive h = endpoint c (own, alive) (may_read c) (object_named R t kind.Reply r) refl h
    by_kind kind.Notification c own alive h = notification c (own, alive) (may_read c) (object_named R t kind.Reply r) h
    by_kind kind.Reply c own alive h = absurd cc
    by_kind kind.CNode c own alive h = absurd cc
    by_kind kind.Thread c own alive h = absurd cc
    by_kind kind.Context c own alive h = absurd cc

    go : (m : Checked Cap) → capability R t a ≡ m → replying_over R t r m ≡ Ok at → IsSourceThere R t at.source
    go (Err why) is h = absurd cc
    go (Ok c) is h = by_kind c.obj.kind c refl (found-alive R t a c sound is) h

-- no other thread is bound still, when a thread was woken
woken-alone : (R : Log) (t : ObjId) (m : Mode) (n u : ObjId) → NoneElseBound R n u → NoneElseBound (onto (wakes m t R) R) n u
woken-alone R t Running n u alone = alone
woken-alone R t Restart n u alone = alone
woken-alone R t Inactive n u alone = alone

-- who enters may receive, once it was woken
pub woken-receives : (R : Log) (t : ObjId) (s : Source) → IsEntering R t → OpenStand R → IsSourceThere R t s → IsReceivingFrom (onto (wakes (mode_of R t) t R) R) t s
woken-receives R t (source.Endpoint at) enters stand there = record {
  acting = woken R t enters;
  stand = woken-stand R t stand;
  endpoint = woken-there R t (mode_of R t) kind.Endpoint at.endpoint there.0;
  reply = woken-reply R t (mode_of R t) at.reply there.1;
}
woken-receives R t (source.Notification n) enters stand there = record {
  acting = woken R t enters;
  there = woken-there R t (mode_of R t) kind.Notification n there.0;
  alone = woken-alone R t (mode_of R t) n t there.1;
}
