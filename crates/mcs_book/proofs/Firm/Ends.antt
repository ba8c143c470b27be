-- Answers, and the end of an object, keep a log firm.
use Rattle.std.specs.Prelude.{ℕ, true, false, ◌≡◌, ◌≢◌, List, ◌∷◌, ◌++◌, Option, Some, None, refl, unwrap_or, is_some}
use Rattle.std.proofs.Common.{sym, ◌∙◌, ap, inl, inr}
use Rattle.mcs_types.specs.Views.{Content}
use Rattle.mcs_types.specs.declared.id.ObjId.{ObjId}
use Rattle.mcs_types.specs.declared.id.Kind.{Kind}
use Rattle.mcs_types.specs.declared.id.Kind.TheVariants as kind
use Rattle.mcs_types.specs.declared.record.Ending.{Ending}
use Rattle.mcs_types.specs.declared.record.Ending.TheVariants.{Deleted}
use Rattle.mcs_types.specs.declared.record.Mode.{Mode}
use Rattle.mcs_types.specs.declared.record.Mode.TheVariants.{Running, Restart, Inactive}
use Rattle.mcs_types.specs.declared.record.Queue.TheVariants.{Senders, Receivers, Waiters}
use Rattle.mcs_types.specs.declared.record.Rec.{Rec}
use Rattle.mcs_types.specs.declared.record.Rec.TheVariants as rec
use Rattle.mcs_types.specs.Ids.{same}
use Rattle.mcs_book.specs.Logs.{Log, onto, given}
use Rattle.mcs_book.specs.Objects.{closes, is_alive}
use Rattle.mcs_book.specs.Slots.{slot, is_cap_to}
use Rattle.mcs_book.specs.Queues.{queue_of, reply_with, queued_in}
use Rattle.mcs_book.specs.Contexts.{holder_of, context_of, home_of, homed_at}
use Rattle.mcs_book.specs.Replies.{owed_by, receiver_with}
use Rattle.mcs_book.specs.Chains.{topped_by}
use Rattle.mcs_book.specs.Notifications.{bound_of, tied_to}
use Rattle.mcs_book.specs.Pieces.{Piece, ◌then◌, say, with_any}
use Rattle.mcs_book.specs.Taking.{back_to, give_back, pay}
use Rattle.mcs_book.specs.Cancelling.{cancel, cancel_all, untie, untie_from, let_go, unhome, unbind, void_deleted, release, destroy}
use Rattle.mcs_book.specs.Sound.{IsThere, IsIdle, IsReleased, IsUnattended, IsEmptyLine, IsUnbound}
use Rattle.mcs_book.proofs.Queues.Sorted.{In}
use Rattle.mcs_book.proofs.Queues.NoneBeside.{left-queue}
use Rattle.mcs_book.proofs.Threads.HoldingLaws.{holder-one, context_of-holder}
use Rattle.mcs_book.proofs.Threads.UserLaws.{one_user, receiver_with-named, unattended-none}
use Rattle.mcs_book.proofs.SoundLogs.Keeping.{then-next}
use Rattle.mcs_book.proofs.SoundLogs.KeptLaws.{set-split, set-self, set-kept, never-both, same-never, there-next, owed-there, ended-idle, standing-thread, bound-one, home-one}
use Rattle.mcs_book.proofs.Firm.Laws.{Firm, Strict, firm-sound, context-none, tied-bound, tied-none, homed_at-home, homed_at-none, topped-there}
use Rattle.mcs_book.proofs.Firm.Cancel.{IsLeft, cancelled, Outlasts, outlasts-cancel, outlasts-cancel_all, all-cancelled, line-emptied, line-in, in-line, in-left, in-right, in-either}

-- a debt of r to x is ended, x goes on in some mode, and the context of the chain that r topped
-- returns to x
abbrev ending : Log → Rec → ObjId → ObjId → Mode → Piece
ending R e r x mode = say e then say (rec.Turns x mode) then give_back (topped_by R r) x

-- such an ending keeps the log firm
ended : (R : Log) (r x : ObjId) (e : Rec) (mode : Mode) → owed_by R r ≡ Some x → Strict R e → ((d : ObjId) → owed_by (e ∷ R) d ≡ unwrap_or (given (same d r) None) (owed_by R d)) → queue_of (e ∷ R) x ≡ queue_of R x
    → ((o : ObjId) → closes o e ≡ false) → Firm R → Firm (onto (ending R e r x mode R) R)
unfolding ◌then◌ give_back
ended R r x e mode owed strict owes queues closing firm = go (topped_by R r) refl (context_of turned x) refl
  where
    turned : Log
    turned = rec.Turns x mode ∷ e ∷ R

    there : IsThere (e ∷ R) kind.Thread x
    there = there-next R e kind.Thread x ((owed-there R r x (firm-sound R firm) owed).1) (closing x)

    idle : IsIdle (e ∷ R) x
    idle = ended-idle R r x e (firm-sound R firm) owed owes queues

    firm2 : Firm turned
    firm2 = (((there, idle), tt), (strict, firm))

    go : (o : Option ObjId) → topped_by R r ≡ o → (c : Option ObjId) → context_of turned x ≡ c → Firm (onto (back_to x o c) turned)
    go (Some s) top None none = (((there-next R e kind.Context s (topped-there R r s top) (closing s), there, context-none turned x (firm-sound turned firm2) none), tt), firm2)
    go (Some s) top (Some c) is = firm2
    go None top c is = firm2

-- what the records of an ending of a debt to x leave as it is
pub record OutlastsEnding (mode : Mode) (F : Log → Type 0) : Type 0 where
  pub paid : (R : Log) (r x : ObjId) (message : Content) → F R → F (rec.Paid r x message ∷ R)
  pub voided : (R : Log) (r x : ObjId) (how : Ending) → F R → F (rec.Void r x how ∷ R)
  pub turns : (R : Log) (x : ObjId) → F R → F (rec.Turns x mode ∷ R)
  pub holds : (R : Log) (s x : ObjId) → F R → F (rec.Holds s (Some x) ∷ R)

-- it outlasts what comes after the ending
outlasts-ending : (F : Log → Type 0) (mode : Mode) (f : OutlastsEnding mode F) (R : Log) (r x : ObjId) (e : Rec) → F (e ∷ R) → F (onto (ending R e r x mode R) R)
unfolding ◌then◌ give_back
outlasts-ending F mode f R r x e h = go (topped_by R r) (context_of (rec.Turns x mode ∷ e ∷ R) x)
  where
    go : (o c : Option ObjId) → F (onto (back_to x o c) (rec.Turns x mode ∷ e ∷ R))
    go (Some s) None = f.holds _ s x (f.turns _ x h)
    go (Some s) (Some c) = f.turns _ x h
    go None c = f.turns _ x h

-- a caller is answered
pub firm-pay : (r : ObjId) (message : Content) (R : Log) → Firm R → Firm (onto (pay r message R) R)
unfolding pay
firm-pay r message R firm = go (owed_by R r) refl
  where
    go : (o : Option ObjId) → owed_by R r ≡ o → Firm (onto (with_any o (λ x. ending R (rec.Paid r x message) r x Running) R) R)
    go (Some x) is = ended R r x (rec.Paid r x message) Running is (is, tt) (λ d. refl) refl (λ o. refl) firm
    go None is = firm

-- what outlasts an answer
pub outlasts-pay : (F : Log → Type 0) (f : OutlastsEnding Running F) (r : ObjId) (message : Content) (R : Log) → F R → F (onto (pay r message R) R)
unfolding pay
outlasts-pay F f r message R h = go (owed_by R r)
  where
    go : (o : Option ObjId) → F (onto (with_any o (λ x. ending R (rec.Paid r x message) r x Running) R) R)
    go (Some x) = outlasts-ending F Running f R r x (rec.Paid r x message) (f.paid R r x message h)
    go None = h

-- a reply object that is deleted owes no thread any more
firm-void : (r : ObjId) (R : Log) → Firm R → Firm (onto (void_deleted r R) R)
unfolding void_deleted
firm-void r R firm = go (owed_by R r) refl
  where
    go : (o : Option ObjId) → owed_by R r ≡ o → Firm (onto (with_any o (λ x. ending R (rec.Void r x Deleted) r x Inactive) R) R)
    go (Some x) is = ended R r x (rec.Void r x Deleted) Inactive is (is, tt) (λ d. refl) refl (λ o. refl) firm
    go None is = firm

-- what outlasts that
pub outlasts-void : (F : Log → Type 0) (f : OutlastsEnding Inactive F) (r : ObjId) (R : Log) → F R → F (onto (void_deleted r R) R)
unfolding void_deleted
outlasts-void F f r R h = go (owed_by R r)
  where
    go : (o : Option ObjId) → F (onto (with_any o (λ x. ending R (rec.Void r x Deleted) r x Inactive) R) R)
    go (Some x) = outlasts-ending F Inactive f R r x (rec.Void r x Deleted) (f.voided R r x Deleted h)
    go None = h

-- once it is void, a reply object owes no thread
pub void-free : (r : ObjId) (R : Log) → owed_by (onto (void_deleted r R) R) r ≡ None
unfolding void_deleted
void-free r R = go (owed_by R r) refl
  where
    free : OutlastsEnding Inactive (λ R. owed_by R r ≡ None)
    free = record { paid = λ R d x message h. set-kept (same r d) None (owed_by R r) h; voided = λ R d x how h. set-kept (same r d) None (owed_by R r) h; turns = λ R x h. h; holds = λ R s x h. h }

    go : (o : Option ObjId) → owed_by R r ≡ o → owed_by (onto (with_any o (λ x. ending R (rec.Void r x Deleted) r x Inactive) R) R) r ≡ None
    go (Some x) is = outlasts-ending (λ R. owed_by R r ≡ None) Inactive free R r x (rec.Void r x Deleted) (set-self r None (owed_by R r))
    go None is = is

-- no thread is left with o, in a firm log
record IsDone (k : Kind) (o : ObjId) (R : Log) : Type 0 where
  firm : Firm R
  released : IsReleased R k o

-- an endpoint's lines are emptied
endpoint-done : (R : Log) (o : ObjId) → Firm R → IsDone kind.Endpoint o (onto (release R o kind.Endpoint R) R)
endpoint-done R o firm = record {
  firm = (all-cancelled xs Restart R threads_there firm).0;
  released = (
    line-emptied xs Restart (Senders o) R threads_there firm (λ y at. in-left y (queued_in R (Senders o)) (queued_in R (Receivers o)) (line-in R (Senders o) y (firm-sound R firm) at)),
    line-emptied xs Restart (Receivers o) R threads_there firm (λ y at. in-right y (queued_in R (Senders o)) (queued_in R (Receivers o)) (line-in R (Receivers o) y (firm-sound R firm) at)),
  );
}
  where
    xs : List ObjId
    xs = queued_in R (Senders o) ++ queued_in R (Receivers o)

    threads_there : (y : ObjId) → In y xs → IsThere R kind.Thread y
    threads_there y i = in-either y (queued_in R (Senders o)) (queued_in R (Receivers o)) (IsThere R kind.Thread y) (λ j. standing-thread R y (Senders o) (firm-sound R firm) (in-line R (Senders o) y j)) (λ j. standing-thread R y (Receivers o) (firm-sound R firm) (in-line R (Receivers o) y j)) i

-- no thread waits on a notification or is bound to it, and contexts are homed where they were
record IsUnwatched (R : Log) (o : ObjId) (R' : Log) : Type 0 where
  firm : Firm R'
  empty : IsEmptyLine R' (Waiters o)
  unbound : IsUnbound R' o
  homes : (s : ObjId) → home_of R' s ≡ home_of R s

-- a notification's line is emptied, no thread is bound to it, and no context is homed at it
notification-done : (R : Log) (o : ObjId) → Firm R → IsDone kind.Notification o (onto (release R o kind.Notification R) R)
notification-done R o firm = then-next (IsDone kind.Notification o) (cancel_all xs Restart then untie (tied_to R o)) (unhome (homed_at R o)) R (ends (homed_at R o) refl _ (then-next (IsUnwatched R o) (cancel_all xs Restart) (untie (tied_to R o)) R (go (tied_to R o) refl)))
  where
    xs : List ObjId
    xs = queued_in R (Waiters o)

    S : Log
    S = onto (cancel_all xs Restart R) R

    threads_there : (y : ObjId) → In y xs → IsThere R kind.Thread y
    threads_there y i = standing-thread R y (Waiters o) (firm-sound R firm) (in-line R (Waiters o) y i)

    firm1 : Firm S
    firm1 = (all-cancelled xs Restart R threads_there firm).0

    empty : (y : ObjId) → queue_of S y ≢ Some (Waiters o)
    empty = line-emptied xs Restart (Waiters o) R threads_there firm (λ y at. line-in R (Waiters o) y (firm-sound R firm) at)

    binding : (y : ObjId) → bound_of S y ≡ bound_of R y
    binding y = outlasts-cancel_all (λ R'. bound_of R' y ≡ bound_of R y) xs Restart (λ x. record { dropped = λ R m h. h; parts = λ R q h. h; voided = λ R r h. h; turns = λ R h. h }) R refl

    homing : (s : ObjId) → home_of S s ≡ home_of R s
    homing s = outlasts-cancel_all (λ R'. home_of R' s ≡ home_of R s) xs Restart (λ x. record { dropped = λ R m h. h; parts = λ R q h. h; voided = λ R r h. h; turns = λ R h. h }) R refl

    go : (b : Option ObjId) → tied_to R o ≡ b → IsUnwatched R o (onto (untie b S) S)
    go (Some u) is =
        let bound : bound_of S u ≡ Some o = binding u ∙ tied-bound R o u is in
        record {
          firm = ((ap (λ z. is_some z) bound, tt), firm1);
          empty = empty;
          unbound = λ y b. elim (set-split y u None (bound_of S y) (Some o) b) [ inl (who, none) ↦ absurd cc | inr (other, still) ↦ same-never y u (bound-one S y u o (firm-sound S firm1) still bound) other ];
          homes = homing;
        }
    go None is = record { firm = firm1; empty = empty; unbound = λ y b. tied-none R o (firm-sound R firm) is y (sym (binding y) ∙ b); homes = homing }

    ends : (c : Option ObjId) → homed_at R o ≡ c → (R' : Log) → IsUnwatched R o R' → IsDone kind.Notification o (onto (unhome c R') R')
    ends (Some s) is R' h =
        let home : home_of R' s ≡ Some o = h.homes s ∙ homed_at-home R o s is in
        record {
          firm = ((ap (λ z. is_some z) home, tt), h.firm);
          released = (h.empty, h.unbound, λ c k. elim (set-split c s None (home_of R' c) (Some o) k) [ inl (who, none) ↦ absurd cc | inr (other, still) ↦ same-never c s (home-one R' c s o (firm-sound R' h.firm) still home) other ]);
        }
    ends None is R' h = record { firm = h.firm; released = (h.empty, h.unbound, λ c k. homed_at-none R o (firm-sound R firm) is c (sym (h.homes c) ∙ k)) }

-- once the thread that receives with r is cancelled, no thread does
pub unattended-left : (R : Log) (r x e : ObjId) → Firm R → queue_of R x ≡ Some (Receivers e) → reply_with R x ≡ Some r → IsUnattended (onto (cancel x Inactive R) R) r
unattended-left R r x e firm at with y d at' with' =
    let l : IsLeft x (onto (cancel x Inactive R) R) = cancelled x Inactive R (standing-thread R x (Receivers e) (firm-sound R firm) at) firm in
    let F : Log → Type 0 = λ R'. (y d : ObjId) → queue_of R' y ≡ Some (Receivers d) → reply_with R' y ≡ Some r → y ≡ x in
    let alone : F (onto (cancel x Inactive R) R) = outlasts-cancel F x Inactive
    (record { dropped = λ R m h. h; parts = λ R q h y d at' with'. h y d ((left-queue R x y q (Receivers d) at').1) with'; voided = λ R r h. h; turns = λ R h. h }) R
    (λ y d at' with'. one_user R y x d e r (firm-sound R firm) at' with' at with) in
    never-both (queue_of (onto (cancel x Inactive R) R) y) (Receivers d) at' (ap (λ z. queue_of (onto (cancel x Inactive R) R) z) (alone y d at' with') ∙ l.idle.0)

-- no thread receives with a reply object any more, and it owes no thread
reply-done : (R : Log) (o : ObjId) → Firm R → IsDone kind.Reply o (onto (release R o kind.Reply R) R)
reply-done R o firm = then-next (IsDone kind.Reply o) (with_any (receiver_with R o) (λ x. cancel x Inactive)) (void_deleted o) R (ends (go (receiver_with R o) refl))
  where
    S : Log
    S = onto (with_any (receiver_with R o) (λ x. cancel x Inactive) R) R

    go : (u : Option ObjId) → receiver_with R o ≡ u → Firm (onto (with_any u (λ x. cancel x Inactive) R) R) × IsUnattended (onto (with_any u (λ x. cancel x Inactive) R) R) o
    go None is = (firm, unattended-none R o (firm-sound R firm) is)
    go (Some x) is =
        let ((e, at), with) = receiver_with-named R o x is in
        ((cancelled x Inactive R (standing-thread R x (Receivers e) (firm-sound R firm) at) firm).firm, unattended-left R o x e firm at with)

    ends : Firm S × IsUnattended S o → IsDone kind.Reply o (onto (void_deleted o S) S)
    ends h = record {
      firm = firm-void o S h.0;
      released = (void-free o S, outlasts-void (λ R. IsUnattended R o) (record { paid = λ R r x message h. h; voided = λ R r x how h. h; turns = λ R x h. h; holds = λ R s x h. h }) o S h.1);
    }

-- a context that is homed nowhere, and held as it was
record IsUnhomed (R : Log) (o : ObjId) (R' : Log) : Type 0 where
  firm : Firm R'
  homeless : home_of R' o ≡ None
  held : holder_of R' o ≡ holder_of R o

-- a context is homed nowhere, and no thread holds it any more
context-done : (R : Log) (o : ObjId) → Firm R → IsDone kind.Context o (onto (release R o kind.Context R) R)
unfolding unbind
context-done R o firm = then-next (IsDone kind.Context o) (with_any (home_of R o) (λ n. say (rec.Homed o None))) (with_any (holder_of R o) (λ t. say (rec.Holds o None))) R (ends (holder_of R o) refl _ (go (home_of R o) refl))
  where
    go : (h : Option ObjId) → home_of R o ≡ h → IsUnhomed R o (onto (with_any h (λ n. say (rec.Homed o None)) R) R)
    go (Some n) is = record { firm = ((ap (λ z. is_some z) is, tt), firm); homeless = set-self o None (home_of R o); held = refl }
    go None is = record { firm = firm; homeless = is; held = refl }

    ends : (h : Option ObjId) → holder_of R o ≡ h → (R' : Log) → IsUnhomed R o R' → IsDone kind.Context o (onto (with_any h (λ t. say (rec.Holds o None)) R') R')
    ends (Some t) is R' k = record { firm = ((ap (λ z. is_some z) (k.held ∙ is), tt), k.firm); released = (set-self o None (holder_of R' o), k.homeless) }
    ends None is R' k = record { firm = k.firm; released = (k.held ∙ is, k.homeless) }

-- that keeps a log firm
pub firm-unbind : (s : ObjId) (R : Log) → Firm R → Firm (onto (unbind s R) R)
firm-unbind s R firm = (context-done R s firm).firm

-- a thread that is idle and unbound, and holds what it held
record IsUntied (R : Log) (o : ObjId) (R' : Log) : Type 0 where
  firm : Firm R'
  idle : IsIdle R' o
  unbound : bound_of R' o ≡ None
  holders : (s : ObjId) → holder_of R' s ≡ holder_of R s

-- a thread leaves all
thread-done : (R : Log) (o : ObjId) → IsThere R kind.Thread o → Firm R → IsDone kind.Thread o (onto (release R o kind.Thread R) R)
thread-done R o there firm = then-next (IsDone kind.Thread o) (cancel o Inactive then untie_from (bound_of R o) o) (let_go (context_of R o)) R (ends (context_of R o) refl _ untied)
  where
    S : Log
    S = onto (cancel o Inactive R) R

    l : IsLeft o S
    l = cancelled o Inactive R there firm

    binding : bound_of S o ≡ bound_of R o
    binding = outlasts-cancel (λ R'. bound_of R' o ≡ bound_of R o) o Inactive (record { dropped = λ R m h. h; parts = λ R q h. h; voided = λ R r h. h; turns = λ R h. h }) R refl

    holding : (s : ObjId) → holder_of S s ≡ holder_of R s
    holding = outlasts-cancel (λ R'. (s : ObjId) → holder_of R' s ≡ holder_of R s) o Inactive (record { dropped = λ R m h. h; parts = λ R q h. h; voided = λ R r h. h; turns = λ R h. h }) R (λ s. refl)

    go : (b : Option ObjId) → bound_of R o ≡ b → IsUntied R o (onto (untie_from b o S) S)
    go (Some n) is = record { firm = ((ap (λ z. is_some z) (binding ∙ is), tt), l.firm); idle = l.idle; unbound = set-self o None (bound_of S o); holders = holding }
    go None is = record { firm = l.firm; idle = l.idle; unbound = binding ∙ is; holders = holding }

    untied : IsUntied R o (onto ((cancel o Inactive then untie_from (bound_of R o) o) R) R)
    untied = then-next (IsUntied R o) (cancel o Inactive) (untie_from (bound_of R o) o) R (go (bound_of R o) refl)

    ends : (c : Option ObjId) → context_of R o ≡ c → (R' : Log) → IsUntied R o R' → IsDone kind.Thread o (onto (let_go c R') R')
    ends (Some s) is R' h =
        let held : holder_of R' s ≡ Some o = h.holders s ∙ context_of-holder R o s is in
        record {
          firm = ((ap (λ z. is_some z) held, tt), h.firm);
          released = (h.idle, λ c k. elim (set-split c s None (holder_of R' c) (Some o) k) [ inl (who, none) ↦ absurd cc | inr (other, still) ↦ same-never c s (holder-one R' c s o (firm-sound R' h.firm) still held) other ], h.unbound);
        }
    ends None is R' h = record { firm = h.firm; released = (h.idle, λ c k. context-none R o (firm-sound R firm) is c (sym (h.holders c) ∙ k), h.unbound) }

-- what the end of an object does to others keeps the log firm, and no thread is left with it
release-done : (R : Log) (o : ObjId) (k : Kind) → k ≢ kind.CNode → IsThere R k o → Firm R → IsDone k o (onto (release R o k R) R)
release-done R o kind.CNode ne there firm = absurd (ne refl)
release-done R o kind.Endpoint ne there firm = endpoint-done R o firm
release-done R o kind.Notification ne there firm = notification-done R o firm
release-done R o kind.Reply ne there firm = reply-done R o firm
release-done R o kind.Context ne there firm = context-done R o firm
release-done R o kind.Thread ne there firm = thread-done R o there firm

-- o is there, and no slot has a capability to it
pub record IsLast (o : ObjId) (R : Log) : Type 0 where
  pub alive : is_alive R o ≡ true
  pub no_cap : (c : ObjId) (i : ℕ) → is_cap_to o (slot R c i) ≡ false

-- that outlasts a cancellation
last-cancel : (o x : ObjId) (mode : Mode) → Outlasts x mode (IsLast o)
last-cancel o x mode = record {
  dropped = λ R m h. record { alive = h.alive; no_cap = h.no_cap };
  parts = λ R q h. record { alive = h.alive; no_cap = h.no_cap };
  voided = λ R r h. record { alive = h.alive; no_cap = h.no_cap };
  turns = λ R h. record { alive = h.alive; no_cap = h.no_cap };
}

-- and the end of a debt
last-ending : (o : ObjId) → OutlastsEnding Inactive (IsLast o)
last-ending o = record {
  paid = λ R r x message h. record { alive = h.alive; no_cap = h.no_cap };
  voided = λ R r x how h. record { alive = h.alive; no_cap = h.no_cap };
  turns = λ R x h. record { alive = h.alive; no_cap = h.no_cap };
  holds = λ R s x h. record { alive = h.alive; no_cap = h.no_cap };
}

-- and a context that is homed nowhere and held by no thread any more
last-unbind : (o d : ObjId) (R : Log) → IsLast o R → IsLast o (onto (unbind d R) R)
unfolding unbind
last-unbind o d R h = then-next (IsLast o) (with_any (home_of R d) (λ n. say (rec.Homed d None))) (with_any (holder_of R d) (λ t. say (rec.Holds d None))) R (lets (holder_of R d) _ (homes (home_of R d)))
  where
    homes : (u : Option ObjId) → IsLast o (onto (with_any u (λ n. say (rec.Homed d None)) R) R)
    homes (Some n) = record { alive = h.alive; no_cap = h.no_cap }
    homes None = h

    lets : (u : Option ObjId) (R' : Log) → IsLast o R' → IsLast o (onto (with_any u (λ t. say (rec.Holds d None)) R') R')
    lets (Some t) R' k = record { alive = k.alive; no_cap = k.no_cap }
    lets None R' k = k

-- and what the end of an object does to others
pub last-release : (R : Log) (o d : ObjId) (k : Kind) → IsLast o R → IsLast o (onto (release R d k R) R)
last-release R o d kind.CNode h = h
last-release R o d kind.Endpoint h = outlasts-cancel_all (IsLast o) _ Restart (λ x. last-cancel o x Restart) R h
last-release R o d kind.Notification h =
    then-next (IsLast o) (cancel_all (queued_in R (Waiters d)) Restart then untie (tied_to R d)) (unhome (homed_at R d)) R
    (homes (homed_at R d) _ (then-next (IsLast o) (cancel_all (queued_in R (Waiters d)) Restart) (untie (tied_to R d)) R (go (tied_to R d) _ (outlasts-cancel_all (IsLast o) _ Restart (λ x. last-cancel o x Restart) R h))))
  where
    homes : (b : Option ObjId) (R' : Log) → IsLast o R' → IsLast o (onto (unhome b R') R')
    homes (Some s) R' k = record { alive = k.alive; no_cap = k.no_cap }
    homes None R' k = k

    go : (b : Option ObjId) (R' : Log) → IsLast o R' → IsLast o (onto (untie b R') R')
    go (Some u) R' k = record { alive = k.alive; no_cap = k.no_cap }
    go None R' k = k
last-release R o d kind.Reply h = then-next (IsLast o) (with_any (receiver_with R d) (λ x. cancel x Inactive)) (void_deleted d) R (outlasts-void (IsLast o) (last-ending o) d _ (go (receiver_with R d)))
  where
    go : (u : Option ObjId) → IsLast o (onto (with_any u (λ x. cancel x Inactive) R) R)
    go (Some x) = outlasts-cancel (IsLast o) x Inactive (last-cancel o x Inactive) R h
    go None = h
last-release R o d kind.Context h = last-unbind o d R h
last-release R o d kind.Thread h =
    then-next (IsLast o) (cancel d Inactive then untie_from (bound_of R d) d) (let_go (context_of R d)) R
    (lets (context_of R d) _ (then-next (IsLast o) (cancel d Inactive) (untie_from (bound_of R d) d) R (ties (bound_of R d) _ (outlasts-cancel (IsLast o) d Inactive (last-cancel o d Inactive) R h))))
  where
    ties : (b : Option ObjId) (R' : Log) → IsLast o R' → IsLast o (onto (untie_from b d R') R')
    ties (Some u) R' k = record { alive = k.alive; no_cap = k.no_cap }
    ties None R' k = k

    lets : (b : Option ObjId) (R' : Log) → IsLast o R' → IsLast o (onto (let_go b R') R')
    lets (Some u) R' k = record { alive = k.alive; no_cap = k.no_cap }
    lets None R' k = k

-- an object ends, to which no slot has a capability
pub firm-destroy : (o : ObjId) (R : Log) → o.kind ≢ kind.CNode → IsLast o R → Firm R → Firm (onto (destroy o R) R)
unfolding destroy
firm-destroy o R ne last firm =
    let d : IsDone o.kind o (onto (release R o o.kind R) R) = release-done R o o.kind ne (refl, last.alive) firm in
    let l : IsLast o (onto (release R o o.kind R) R) = last-release R o o o.kind last in
    then-next Firm (release R o o.kind) (say (rec.Closed o)) R (((l.alive, d.released, l.no_cap), tt), d.firm)
