-- What each entry sends, takes and answers is whole, where those who are in their queues or are
-- owed an answer are there.
use Rattle.std.specs.Prelude.{ℕ, Bool, true, false, ◌||◌, ◌≡◌, ◌≢◌, is_none, List, ◌∷◌, ◌++◌, Option, Some, None, Ok, Err, refl}
use Rattle.std.proofs.Common.{sym, ◌∙◌, ap, subst}
use Rattle.mcs_types.specs.Views.{Content}
use Rattle.mcs_types.specs.declared.id.ObjId.{ObjId}
use Rattle.mcs_types.specs.declared.id.CoreId.{CoreId}
use Rattle.mcs_types.specs.declared.id.Kind.{Kind}
use Rattle.mcs_types.specs.declared.id.Kind.TheVariants.{CNode, Thread, Endpoint, Notification, Reply, Context}
use Rattle.mcs_types.specs.declared.cap.Cap.{Cap}
use Rattle.mcs_types.specs.declared.cap.Place.{Place}
use Rattle.mcs_types.specs.declared.record.SendMode.TheVariants as how
use Rattle.mcs_types.specs.declared.record.Mode.{Mode}
use Rattle.mcs_types.specs.declared.record.Mode.TheVariants.{Restart}
use Rattle.mcs_types.specs.declared.record.Form.{Form}
use Rattle.mcs_types.specs.declared.record.Form.TheVariants as form
use Rattle.mcs_types.specs.declared.record.Rec.{Rec}
use Rattle.mcs_types.specs.declared.record.Rec.TheVariants as rec
use Rattle.mcs_types.specs.declared.entry.Answer.TheVariants.{Done, Waits}
use Rattle.mcs_types.specs.declared.entry.Step.{Step}
use Rattle.mcs_types.specs.declared.entry.Entry.{Entry}
use Rattle.mcs_types.specs.declared.entry.Entry.TheVariants.{Send, NbSend, Call, Recv, NbRecv, Wait, NbWait, ReplyRecv, Resume, CancelBadged, CopyCap, MintCap, MoveCap, MakeEndpoint, MakeNotification, MakeReply, MakeContext, NbSendRecv, NbSendWait}
use Rattle.mcs_book.specs.Logs.{Log, onto}
use Rattle.mcs_book.specs.Rights.{call_mode}
use Rattle.mcs_book.specs.Lookup.{capability, of_kind}
use Rattle.mcs_book.specs.Cancelling.{cancel, cancel_all}
use Rattle.mcs_book.specs.Sending.{send_over}
use Rattle.mcs_book.specs.Receiving.{reply_receive}
use Rattle.mcs_book.specs.Table.{row, wakes, outcome_of, does}
use Rattle.mcs_book.proofs.SoundLogs.Keeping.{onto-append}
use Rattle.mcs_book.proofs.Books.Checking.{OnPassed, passed-ok, passed-err, passed-after, passed-bind, passed-next}
use Rattle.mcs_book.specs.Binding.{bind_by}
use Rattle.mcs_book.specs.Statuses.{is_ready, status_of}
use Rattle.mcs_types.specs.declared.id.Kind.TheVariants as kind
use Rattle.mcs_book.specs.Objects.{was_made, next_id}
use Rattle.mcs_book.specs.Slots.{SlotName, slot}
use Rattle.mcs_book.specs.Threads.{root_kept, mode_of}
use Rattle.mcs_book.specs.Checks.{Checked, ◌>>=◌, ◌>>◌, need, needed}
use Rattle.mcs_book.specs.Placing.{Places, source_and_dest, senders_with, delete, destroy_last, make}
use Rattle.mcs_book.specs.Pieces.{◌then◌, nothing, say, Outcome, Act, answers, before}
use Rattle.mcs_book.specs.Lookup.{slot_named}
use Rattle.mcs_types.specs.declared.entry.Refusal.TheVariants.{SlotEmpty, SlotFull}
use Rattle.mcs_types.proofs.Ids.{same-self}
use Rattle.mcs_book.proofs.SoundLogs.Closing.{destroy_last-whole}
use Rattle.mcs_book.proofs.Paths.PathLaws.{capability-named}
use Rattle.mcs_book.proofs.SoundLogs.Making.{is_plain, is_quiet, quiet-piece, makes-say, makes-nothing, makes-if, plain-cancel, plain-cancel_all, plain-unbind, quiet-signal, plain-wakes}
use Rattle.mcs_book.proofs.SoundLogs.Safety.{Safe}
use Rattle.mcs_book.proofs.WholeMessages.Records.{MadeOn, each-append, AreWhole, plain-all, Begins, begins-plains, WholeAct, IsSending, sends-whole, queues-whole}
use Rattle.mcs_book.proofs.WholeMessages.Rows.{passed-found, of_kind-found, WholeReceive, receive-over, reply-at, no-reply, found-reply, act-receives, act-quiet, act-pay_receive, act-send_by, first-send_by, act-send_receive}

-- the step of an entry
abbrev pub step_of : CoreId → ObjId → Entry → Step
step_of core t entry = record { core = core; thread = t; entry = entry }

-- a message over the capability at the address of a send
is-send : (R : Log) (core : CoreId) (t : ObjId) (a : ℕ) (held : Cap) (message : Content) → capability R t a ≡ Ok held → IsSending R (step_of core t (Send a message)) held message
is-send R core t a held message e = record { carries = refl; address = a; used = refl; named = capability-named R t a held e }

-- the same of a send that does not block
is-nb_send : (R : Log) (core : CoreId) (t : ObjId) (a : ℕ) (held : Cap) (message : Content) → capability R t a ≡ Ok held → IsSending R (step_of core t (NbSend a message)) held message
is-nb_send R core t a held message e = record { carries = refl; address = a; used = refl; named = capability-named R t a held e }

-- the same of a send before a receive
is-first_send : (R : Log) (core : CoreId) (t : ObjId) (a source r : ℕ) (held : Cap) (message : Content) → capability R t a ≡ Ok held → IsSending R (step_of core t (NbSendRecv a source r message)) held message
is-first_send R core t a source r held message e = record { carries = refl; address = a; used = refl; named = capability-named R t a held e }

-- and before a wait
is-wait_send : (R : Log) (core : CoreId) (t : ObjId) (a source : ℕ) (held : Cap) (message : Content) → capability R t a ≡ Ok held → IsSending R (step_of core t (NbSendWait a source message)) held message
is-wait_send R core t a source held message e = record { carries = refl; address = a; used = refl; named = capability-named R t a held e }

-- the same of a call
is-call : (R : Log) (core : CoreId) (t : ObjId) (a : ℕ) (held : Cap) (message : Content) → of_kind R t Endpoint a ≡ Ok held → IsSending R (step_of core t (Call a message)) held message
is-call R core t a held message e = record { carries = refl; address = a; used = refl; named = capability-named R t a held (of_kind-found R t Endpoint a held e) }

-- an object is made, which is no CNode and no thread
act-make : (R : Log) (s : Step) (k : Kind) (rights : ℕ) (form : Form) (place : Place) → k ≢ kind.CNode → root_kept form ≡ None → ((o : ObjId) → MadeOn s.core (rec.Made o form)) → OnPassed (WholeAct R s) (make R s.thread k rights form place)
unfolding make ◌then◌
act-make R s k rights form place other rootless on =
    passed-bind _ _ _ (λ at. passed-next _ _ _ (passed-next _ _ _ (passed-ok _ _ (record {
      whole = λ S b. (
        (tt, tt, tt, (λ e. absurd (other e), λ root e. let clash : None ≡ Some root = sym rootless ∙ e in absurd cc), on (next_id R k), λ sound. tt),
        ((tt, tt, tt, λ held e. made-last S (next_id R k) form held e, tt, λ sound. tt), tt),
      );
    }))))
  where
    made-last : (S : Log) (o : ObjId) (form : Form) (held : Cap) → Some (record { obj = o; rights = rights; badge = record { 0 = 0 }; guard = record { bits = 0; value = 0 } }) ≡ Some held → was_made (rec.Made o form ∷ S) held.obj ≡ true
    made-last S o form held e = let it : record { obj = o; rights = rights; badge = record { 0 = 0 }; guard = record { bits = 0; value = 0 } } ≡ held = cc in ap (λ (k : Cap). was_made (rec.Made o form ∷ S) k.obj) (sym it) ∙ ap (λ b. b || was_made S o) (same-self o)

-- a capability to an object to which a slot holds one
fill-safe : (R : Log) (t : ObjId) (S : Log) (at : SlotName) (held kept : Cap) (c : ObjId) (i : ℕ) → Begins R t S → slot R c i ≡ Some kept → held.obj ≡ kept.obj → Safe S (rec.Slot at.cnode at.index (Some held))
fill-safe R t S at held kept c i b is objects k e = let it : held ≡ k = cc in ap (λ (k : Cap). was_made S k.obj) (sym it) ∙ ap (λ o. was_made S o) objects ∙ b.held c i kept is

-- a slot gets such a capability
act-fill : (R : Log) (s : Step) (at : SlotName) (held kept : Cap) (c : ObjId) (i : ℕ) → slot R c i ≡ Some kept → held.obj ≡ kept.obj → OnPassed (WholeAct R s) (Ok (answers Done (say (rec.Slot at.cnode at.index (Some held)))))
act-fill R s at held kept c i is objects = passed-ok _ _ (record { whole = λ S b. ((tt, tt, tt, fill-safe R s.thread S at held kept c i b is objects, tt, λ sound. tt), tt) })

-- a slot gets it from another, which is emptied
act-move : (R : Log) (s : Step) (at from : SlotName) (held : Cap) (c : ObjId) (i : ℕ) → slot R c i ≡ Some held
    → OnPassed (WholeAct R s) (Ok (answers Done (say (rec.Slot at.cnode at.index (Some held)) then say (rec.Slot from.cnode from.index None))))
unfolding ◌then◌
act-move R s at from held c i is = passed-ok _ _ (record { whole = λ S b. ((tt, tt, tt, fill-safe R s.thread S at held held c i b is refl, tt, λ sound. tt), ((tt, tt, tt, λ k e. absurd cc, tt, λ sound. tt), tt)) })

-- the source of a copy or a move holds the capability
source-held : (R : Log) (t : ObjId) (source dest : Place) (at : Places) → source_and_dest R t source dest ≡ Ok at → slot R at.source.cnode at.source.index ≡ Some at.cap
unfolding source_and_dest ◌>>=◌ ◌>>◌ need needed
source-held R t source dest at h = first (slot_named R t source) h
  where
    second : (from to : SlotName) (o : Option Cap) → slot R from.cnode from.index ≡ o → (b : Bool)
        → (needed o SlotEmpty >>= (λ held. need b SlotFull >> Ok (record { cap = held; source = from; dest = to }))) ≡ Ok at → slot R at.source.cnode at.source.index ≡ Some at.cap
    second from to (Some held) is true e =
        let it : record { cap = held; source = from; dest = to } ≡ at = cc in
        ap (λ (p : Places). slot R p.source.cnode p.source.index) (sym it) ∙ is ∙ ap (λ (p : Places). Some p.cap) it
    second from to (Some held) is false e = absurd cc
    second from to None is b e = absurd cc

    dest_found : (from : SlotName) (m : Checked SlotName)
        → (m >>= (λ to. needed (slot R from.cnode from.index) SlotEmpty >>= (λ held. need (is_none (slot R to.cnode to.index)) SlotFull >> Ok (record { cap = held; source = from; dest = to })))) ≡ Ok at
        → slot R at.source.cnode at.source.index ≡ Some at.cap
    dest_found from (Ok to) e = second from to (slot R from.cnode from.index) refl (is_none (slot R to.cnode to.index)) e
    dest_found from (Err refusal) e = absurd cc

    first : (m : Checked SlotName)
        → (m >>= (λ from. slot_named R t dest >>= (λ to. needed (slot R from.cnode from.index) SlotEmpty >>= (λ held. need (is_none (slot R to.cnode to.index)) SlotFull >> Ok (record { cap = held; source = from; dest = to }))))) ≡ Ok at
        → slot R at.source.cnode at.source.index ≡ Some at.cap
    first (Ok from) e = dest_found from (slot_named R t dest) e
    first (Err refusal) e = absurd cc

-- a capability is deleted
act-delete : (R : Log) (s : Step) (at : SlotName) (held : Option Cap) → OnPassed (WholeAct R s) (Ok (delete at held))
unfolding delete ◌then◌
act-delete R s at None = act-quiet R s Done nothing (makes-nothing is_quiet)
act-delete R s at (Some held) = passed-ok _ _ (record {
  whole = λ S b.
      let S' : Log = rec.Slot at.cnode at.index None ∷ S in
      ((tt, tt, tt, λ k e. absurd cc, tt, λ sound. tt), destroy_last-whole R (onto (destroy_last held.obj S') S') s Done S' held.obj (λ k e. absurd cc, b.safe));
})

-- one record
act-say : (R : Log) (s : Step) (r : Rec) → is_quiet r ≡ true → OnPassed (WholeAct R s) (Ok (answers Done (say r)))
act-say R s r e = act-quiet R s Done (say r) (makes-say is_quiet r e)

-- a context is bound, by the kind of what it is bound to
act-bind_by : (k : Kind) (R : Log) (s : Step) (c o : ObjId) → OnPassed (WholeAct R s) (bind_by k R c o)
unfolding bind_by
act-bind_by Thread R s c o = passed-next _ _ _ (act-say R s (rec.Holds c (Some o)) refl)
act-bind_by Notification R s c o = passed-next _ _ _ (act-say R s (rec.Homed c (Some o)) refl)
act-bind_by CNode R s c o = passed-err _ _
act-bind_by Endpoint R s c o = passed-err _ _
act-bind_by Reply R s c o = passed-err _ _
act-bind_by Context R s c o = passed-err _ _

-- what each row does, where its checks are passed
whole-row : (R : Log) (core : CoreId) (t : ObjId) (entry : Entry) → OnPassed (WholeAct R (step_of core t entry)) (row R core t entry)
unfolding row send_over reply_receive
whole-row R core t (Send a message) =
    let s : Step = step_of core t (Send a message) in
    passed-found _ _ _ (λ held e. act-send_by held.obj.kind R s held message _ (is-send R core t a held message e) (queues-whole R s held how.Plain message (is-send R core t a held message e)))
whole-row R core t (NbSend a message) =
    let s : Step = step_of core t (NbSend a message) in
    passed-found _ _ _ (λ held e. act-send_by held.obj.kind R s held message _ (is-nb_send R core t a held message e) (record { whole = λ S b. tt }))
whole-row R core t (Call a message) =
    let s : Step = step_of core t (Call a message) in
    passed-found _ _ _ (λ held e.
    let h : IsSending R s held message = is-call R core t a held message e in
    passed-next _ _ _ (passed-ok _ _ (sends-whole R s held (call_mode held) message Waits _ h (queues-whole R s held (call_mode held) message h))))
whole-row R core t (Recv a r) = passed-bind _ _ _ (λ held. act-receives R _ _ (receive-over R (step_of core t (Recv a r)) held _ true (reply-at R t r)))
whole-row R core t (NbRecv a r) = passed-bind _ _ _ (λ held. act-receives R _ _ (receive-over R (step_of core t (NbRecv a r)) held _ false (reply-at R t r)))
whole-row R core t (Wait a) = passed-bind _ _ _ (λ held. act-receives R _ _ (receive-over R (step_of core t (Wait a)) held _ true (no-reply R)))
whole-row R core t (NbWait a) = passed-bind _ _ _ (λ held. act-receives R _ _ (receive-over R (step_of core t (NbWait a)) held _ false (no-reply R)))
whole-row R core t (ReplyRecv a r message) =
    let s : Step = step_of core t (ReplyRecv a r message) in
    passed-bind _ _ _ (λ held. passed-next _ _ _ (passed-next _ _ _ (passed-found _ _ _ (λ o e.
    passed-after (WholeReceive R s) _ _ _ (receive-over R s held (Ok o) true (found-reply R o (reply-at R t r o e))) (λ act k. passed-ok _ _ (act-pay_receive R s o message act refl k))))))
whole-row R core t (Resume x) = passed-bind _ _ _ (λ thread. act-quiet R _ Done _ (quiet-piece _ (makes-if is_plain (is_ready (status_of R thread.obj)) nothing (cancel thread.obj Restart) (makes-nothing is_plain) (plain-cancel thread.obj Restart))))
whole-row R core t (NbSendRecv a source r message) =
    let s : Step = step_of core t (NbSendRecv a source r message) in
    act-send_receive R s _ source _ (passed-found _ _ _ (λ held e. first-send_by held.obj.kind R s held message (is-first_send R core t a source r held message e))) (reply-at R t r)
whole-row R core t (NbSendWait a source message) =
    let s : Step = step_of core t (NbSendWait a source message) in
    act-send_receive R s _ source _ (passed-found _ _ _ (λ held e. first-send_by held.obj.kind R s held message (is-wait_send R core t a source held message e))) (no-reply R)
whole-row R core t (CancelBadged a) =
    passed-bind _ _ _ (λ held. passed-next _ _ _ (act-quiet R _ Done _ (quiet-piece _ (makes-if is_plain _ nothing (cancel_all (senders_with R held.obj held.badge.0) Restart) (makes-nothing is_plain) (plain-cancel_all _ Restart)))))
whole-row R core t (CopyCap source dest rights) = passed-found _ _ _ (λ at e. act-fill R _ at.dest _ at.cap at.source.cnode at.source.index (source-held R t source dest at e) refl)
whole-row R core t (MintCap source dest rights badge) = passed-found _ _ _ (λ at e. passed-next _ _ _ (passed-next _ _ _ (act-fill R _ at.dest _ at.cap at.source.cnode at.source.index (source-held R t source dest at e) refl)))
whole-row R core t (MoveCap source dest) = passed-found _ _ _ (λ at e. act-move R _ at.dest at.source at.cap at.source.cnode at.source.index (source-held R t source dest at e))
whole-row R core t (MakeEndpoint place) = act-make R (step_of core t (MakeEndpoint place)) Endpoint 15 form.Plain place (λ e. absurd cc) refl (λ o c e. absurd cc)
whole-row R core t (MakeNotification place) = act-make R (step_of core t (MakeNotification place)) Notification 15 form.Plain place (λ e. absurd cc) refl (λ o c e. absurd cc)
whole-row R core t (MakeReply place) = act-make R (step_of core t (MakeReply place)) Reply 0 form.Plain place (λ e. absurd cc) refl (λ o c e. absurd cc)
whole-row R core t (MakeContext place) = act-make R (step_of core t (MakeContext place)) Context 0 (form.OnCore core) place (λ e. absurd cc) refl (λ o c e. cc)
whole-row R core t _ = search (passed-bind, passed-next, act-quiet, quiet-signal, quiet-piece, plain-cancel, plain-unbind, act-say, act-bind_by, act-delete) depth 9

-- who is in a queue or is owed is so after the entering thread became Running
begins-wakes : (mode : Mode) (R : Log) (t : ObjId) (S : Log) → Begins R t S → Begins R t (onto (wakes mode t S) S)
begins-wakes mode R t S b = begins-plains R t S (wakes mode t S) ((plain-wakes mode t).passes S) b

-- what each entry does
pub whole-does : (R : Log) (core : CoreId) (t : ObjId) (entry : Entry) → Begins R t R
    → let o : Outcome = does R core t entry in AreWhole R (onto o.records R) (step_of core t entry) o.answer R o.records
unfolding does before OnPassed
whole-does R core t entry b = go (row R core t entry) (whole-row R core t entry)
  where
    go : (m : Checked Act) → OnPassed (WholeAct R (step_of core t entry)) m → let o : Outcome = outcome_of R t m in AreWhole R (onto o.records R) (step_of core t entry) o.answer R o.records
    go (Ok act) k =
        let made : List Rec = wakes (mode_of R t) t R in
        let o : Outcome = act (onto made R) in
        subst (λ after. AreWhole R after (step_of core t entry) o.answer R (made ++ o.records)) (sym (onto-append made o.records R))
        (each-append _ R made o.records (plain-all R (onto o.records (onto made R)) (step_of core t entry) o.answer R made ((plain-wakes (mode_of R t) t).passes R)) (k.whole (onto made R) (begins-wakes (mode_of R t) R t R b)))
    go (Err refusal) k = tt
