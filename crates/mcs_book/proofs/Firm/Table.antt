-- Each entry keeps a log firm.
use Rattle.std.specs.Prelude.{ℕ, ◌<◌, Bool, true, false, cond, not, ◌&&◌, ◌==◌, ◌≡◌, ◌≢◌, ◌∷◌, Option, Some, None, Ok, Err, is_some, is_none, refl, option_and_then, bit_and}
use Rattle.std.proofs.Common.{sym, ◌∙◌, ap, subst}
use Rattle.std.proofs.lemmas.Bool.{eqb-true}
use Rattle.mcs_types.specs.declared.id.ObjId.{ObjId}
use Rattle.mcs_types.specs.declared.id.CoreId.{CoreId}
use Rattle.mcs_types.specs.declared.id.Kind.{Kind}
use Rattle.mcs_types.specs.declared.id.Kind.TheVariants as kind
use Rattle.mcs_types.specs.declared.cap.Cap.{Cap}
use Rattle.mcs_types.specs.declared.record.Form.{Form}
use Rattle.mcs_types.specs.declared.record.Form.TheVariants as form
use Rattle.mcs_types.specs.declared.record.SendMode.TheVariants as how
use Rattle.mcs_types.specs.declared.record.Mode.{Mode}
use Rattle.mcs_types.specs.declared.record.Mode.TheVariants.{Running, Restart, Inactive}
use Rattle.mcs_types.specs.declared.record.Queue.{Queue}
use Rattle.mcs_types.specs.declared.record.Queue.TheVariants.{Senders, Waiters}
use Rattle.mcs_types.specs.declared.record.Status.TheVariants as status
use Rattle.mcs_types.specs.declared.record.Rec.TheVariants as rec
use Rattle.mcs_types.specs.declared.entry.Answer.TheVariants.{Done, Waits}
use Rattle.mcs_types.specs.declared.entry.Entry.{Entry}
use Rattle.mcs_types.specs.declared.entry.Entry.TheVariants.{Send, NbSend, Call, Recv, NbRecv, Wait, NbWait, ReplyRecv, SetPriority, Resume, BindNtfn, UnbindNtfn, BindCtx, UnbindCtx, CancelBadged, CopyCap, MintCap, MoveCap, DeleteCap, MakeEndpoint, MakeNotification, MakeReply, MakeContext, NbSendRecv, NbSendWait}
use Rattle.mcs_types.specs.Ids.{same_kind}
use Rattle.mcs_book.specs.Logs.{Log, onto}
use Rattle.mcs_book.specs.Objects.{was_made, was_closed, is_alive, form_of}
use Rattle.mcs_book.specs.Slots.{SlotName, slot}
use Rattle.mcs_book.specs.Threads.{mode_of}
use Rattle.mcs_book.specs.Queues.{queue_of, first_in, queued_in}
use Rattle.mcs_book.specs.Messages.{open_of}
use Rattle.mcs_book.specs.Contexts.{context_of, homed_at}
use Rattle.mcs_book.specs.Replies.{owing}
use Rattle.mcs_book.specs.Notifications.{bound_of, tied_to}
use Rattle.mcs_book.specs.Binding.{is_loose, bind_by}
use Rattle.mcs_book.specs.Statuses.{status_of, is_ready, status_by, is_on_core, may_enter}
use Rattle.mcs_book.specs.Checks.{Checked, ◌>>=◌}
use Rattle.mcs_book.specs.Rights.{call_mode}
use Rattle.mcs_book.specs.Lookup.{capability, of_kind, slot_named}
use Rattle.mcs_book.specs.Pieces.{Piece, nothing, Act, answers}
use Rattle.mcs_book.specs.Cancelling.{cancel, cancel_all}
use Rattle.mcs_book.specs.Signalling.{signal}
use Rattle.mcs_book.specs.Sending.{letter_over, queues, send_over}
use Rattle.mcs_book.specs.Receiving.{reply_at}
use Rattle.mcs_book.specs.Placing.{source_and_dest, fills, is_last_cnode, has_badge, senders_with}
use Rattle.mcs_book.specs.Table.{row, wakes, outcome_of, does}
use Rattle.mcs_types.specs.Ranges.{InRange}
use Rattle.mcs_book.specs.Sound.{IsThere, IsIdle, IsUnbound, IsEmptyLine}
use Rattle.mcs_types.proofs.Ids.{parts}
use Rattle.mcs_book.proofs.Queues.Sorted.{filter-in}
use Rattle.mcs_book.proofs.Objects.MadeLaws.{alive-made}
use Rattle.mcs_book.proofs.Queues.QueueLaws.{first-none}
use Rattle.mcs_book.proofs.Books.Checking.{OnPassed, passed-ok, passed-err, passed-after, passed-bind, passed-next}
use Rattle.mcs_book.proofs.SoundLogs.Keeping.{then-next}
use Rattle.mcs_book.proofs.Threads.EntersLaws.{IsEntering, enters-ready}
use Rattle.mcs_book.proofs.Messages.SendersOpen.{Idle, idle-steps, Rests}
use Rattle.mcs_book.proofs.SoundLogs.KeptLaws.{set-self, standing-thread}
use Rattle.mcs_book.proofs.Firm.Laws.{Firm, firm-sound, core-small, tied-none, none-is, context-none, owing-none, homed_at-none}
use Rattle.mcs_book.proofs.Firm.Ends.{firm-unbind}
use Rattle.mcs_book.proofs.Firm.Cancel.{cancelled, all-cancelled, in-line}
use Rattle.mcs_book.proofs.Firm.Taking.{firm-signal}
use Rattle.mcs_book.proofs.Firm.Lookup.{passed-need, IsSlotOf, IsHeld, IsHeldOf, capability-held, of_kind-held, slot_named-slot}
use Rattle.mcs_book.proofs.Firm.Acts.{Acting}
use Rattle.mcs_book.proofs.Firm.Messages.{firm-before, firm-queues, firm-sends}
use Rattle.mcs_book.proofs.Firm.Rows.{Woken, woken, slot-emptied, slot-filled, KeepsFirm, KeepsActing, acting-send_by, firm-send_receive, woken-there, woken-slot, woken-held, firm-send_by, none-known, reply-known, firm-receive, firm-reply_receive, IsPlaced, firm-placed, firm-delete, firm-make}

-- one of two pieces
firm-if : (b : Bool) (p q : Piece) (R : Log) → Firm (onto (p R) R) → Firm (onto (q R) R) → Firm (onto (cond b p q R) R)
firm-if true p q R hp hq = hp
firm-if false p q R hp hq = hq

module _ (t : ObjId) (S : Log) (firm : Firm S) where
  -- an act that keeps the log firm
  abbrev Keeps : Act → Type 0
  Keeps = KeepsFirm t S firm

  -- after a capability that an address names
  with-cap : (a : ℕ) (f : Cap → Checked Act) → ((cap : Cap) → IsHeld S cap → OnPassed Keeps (f cap)) → OnPassed Keeps (capability S t a >>= f)
  with-cap a f k = passed-after (IsHeld S) Keeps (capability S t a) f (capability-held S t a firm) k

  -- after one of a kind
  with-kind : (kd : Kind) (a : ℕ) (f : Cap → Checked Act) → ((cap : Cap) → IsHeldOf S kd cap → OnPassed Keeps (f cap)) → OnPassed Keeps (of_kind S t kd a >>= f)
  with-kind kd a f k = passed-after (IsHeldOf S kd) Keeps (of_kind S t kd a) f (of_kind-held S t kd a firm) k

  -- a thread and a notification that are there and free are so after the entering thread woke
  still-free : (x n : ObjId) → IsThere S kind.Thread x → IsThere S kind.Notification n → (is_none (bound_of S x) && is_none (tied_to S n) && is_none (first_in S (Waiters n))) ≡ true → (W : Log) → Woken S W
      → (IsThere W kind.Thread x × IsThere W kind.Notification n × (bound_of W x ≡ None) × IsUnbound W n) × IsEmptyLine W (Waiters n)
  still-free x n there ntfn ok W w =
      let (rest, nobody) = parts _ _ ok in
      let (free, untied) = parts _ _ rest in (
        (woken-there t S firm W kind.Thread x w there, woken-there t S firm W kind.Notification n w ntfn, w.since.bound x ∙ none-is _ free, λ u b. tied-none S n (firm-sound S firm) (none-is _ untied) u (sym (w.since.bound u) ∙ b)),
        λ y at. first-none S (Waiters n) (λ y q stands. let s : IsThere S kind.Thread y = standing-thread S y q (firm-sound S firm) stands in (s.0, alive-made S y s.1)) (none-is _ nobody) y (sym (w.stands y) ∙ at),
      )

  -- a context is given to a thread
  firm-gives : (s x : ObjId) → IsThere S kind.Context s → IsThere S kind.Thread x → (is_loose S s && is_none (context_of S x)) ≡ true → (W : Log) → Woken S W → Acting t W → Firm (rec.Holds s (Some x) ∷ W)
  firm-gives s x there thread ok W w h =
      let (rest, none) = parts _ _ ok in
      (((woken-there t S firm W kind.Context s w there, woken-there t S firm W kind.Thread x w thread, λ c k. context-none S x (firm-sound S firm) (none-is _ none) c (sym (w.holders c) ∙ k)), tt), h.firm)

  -- a context is homed at a notification
  firm-homes : (s n : ObjId) → IsThere S kind.Context s → IsThere S kind.Notification n → (is_loose S s && is_none (homed_at S n)) ≡ true → (W : Log) → Woken S W → Acting t W → Firm (rec.Homed s (Some n) ∷ W)
  firm-homes s n there ntfn ok W w h =
      let (loose, none) = parts _ _ ok in
      let (unheld, unlent) = parts _ _ loose in
      let (held, homeless) = parts _ _ unheld in
      (((woken-there t S firm W kind.Context s w there, woken-there t S firm W kind.Notification n w ntfn, w.homes s ∙ none-is _ homeless, λ c k. homed_at-none S n (firm-sound S firm) (none-is _ none) c (sym (w.homes c) ∙ k)), tt), h.firm)

  -- a context is bound, by the kind of what it is bound to
  firm-bind_by : (k : Kind) (s o : ObjId) → IsThere S kind.Context s → o.kind ≡ k → is_alive S o ≡ true → OnPassed Keeps (bind_by k S s o)
  unfolding bind_by
  firm-bind_by kind.Thread s o there e alive = passed-need Keeps _ _ _ (λ ok. passed-ok Keeps _ (firm-gives s o there (e, alive) ok))
  firm-bind_by kind.Notification s o there e alive = passed-need Keeps _ _ _ (λ ok. passed-ok Keeps _ (firm-homes s o there (e, alive) ok))
  firm-bind_by kind.CNode s o there e alive = passed-err _ _
  firm-bind_by kind.Endpoint s o there e alive = passed-err _ _
  firm-bind_by kind.Reply s o there e alive = passed-err _ _
  firm-bind_by kind.Context s o there e alive = passed-err _ _

  -- the senders of a badge are cancelled
  firm-badged : (e : ObjId) (badge : ℕ) (W : Log) → Woken S W → Acting t W → Firm (onto (cancel_all (senders_with S e badge) Restart W) W)
  firm-badged e badge W w h =
      (all-cancelled (senders_with S e badge) Restart W (λ y i. woken-there t S firm W kind.Thread y w
      (standing-thread S y (Senders e) (firm-sound S firm) (in-line S (Senders e) y ((filter-in (λ x. has_badge badge (open_of S x)) (queued_in S (Senders e)) y i).0)))) h.firm).0

  -- a notification that is held is signalled
  firm-signals : (cap : Cap) → IsHeldOf S kind.Notification cap → Keeps (answers Done (signal cap.obj cap.badge))
  firm-signals cap held W w h = firm-signal cap.obj cap.badge W (woken-there t S firm W kind.Notification cap.obj w held.there) held.small h.firm

  -- a thread that is held is suspended
  firm-suspends : (thread : Cap) → IsHeldOf S kind.Thread thread → Keeps (answers Done (cancel thread.obj Inactive))
  firm-suspends thread held W w h = (cancelled thread.obj Inactive W (woken-there t S firm W kind.Thread thread.obj w held.there) h.firm).firm

  -- what each row does, where its checks are passed
  firm-row : (core : CoreId) (entry : Entry) → InRange entry → core.0 < 16 → OnPassed Keeps (row S core t entry)
  unfolding row send_over
  firm-row core (Send a message) range small = with-cap a _ (λ cap held. firm-send_by t S firm cap.obj.kind cap message _ refl held (λ there W w h. firm-queues t W cap how.Plain message (woken-there t S firm W kind.Endpoint cap.obj w there) h))
  firm-row core (NbSend a message) range small = with-cap a _ (λ cap held. firm-send_by t S firm cap.obj.kind cap message _ refl held (λ there W w h. h.firm))
  firm-row core (Call a message) range small = with-kind kind.Endpoint a _ (λ cap held. passed-next _ _ _ (passed-ok Keeps _ (λ W w h.
      let there : IsThere W kind.Endpoint cap.obj = woken-there t S firm W kind.Endpoint cap.obj w held.there in
      firm-sends t W cap (call_mode cap) message Waits (queues (letter_over t cap (call_mode cap) message)) there h (firm-queues t W cap (call_mode cap) message there h))))
  firm-row core (Recv a r) range small = with-cap a _ (λ cap held. firm-receive t S firm (reply_at S t r) true cap held (reply-known t S firm r))
  firm-row core (NbRecv a r) range small = with-cap a _ (λ cap held. firm-receive t S firm (reply_at S t r) false cap held (reply-known t S firm r))
  firm-row core (Wait a) range small = with-cap a _ (λ cap held. firm-receive t S firm (Ok None) true cap held (none-known t S firm))
  firm-row core (NbWait a) range small = with-cap a _ (λ cap held. firm-receive t S firm (Ok None) false cap held (none-known t S firm))
  firm-row core (ReplyRecv a r message) range small = with-cap a _ (λ cap held. firm-reply_receive t S firm cap r message held)
  firm-row core (SetPriority x authority p) range small = with-kind kind.Thread x _ (λ thread held. passed-bind _ _ _ (λ giver. passed-next _ _ _ (passed-ok Keeps _ (λ W w h. (((woken-there t S firm W kind.Thread thread.obj w held.there, range.2), tt), h.firm)))))
  firm-row core (Resume x) range small = with-kind kind.Thread x _ (λ thread held. passed-ok Keeps _ (λ W w h.
      firm-if (is_ready (status_of S thread.obj)) nothing (cancel thread.obj Restart) W h.firm ((cancelled thread.obj Restart W (woken-there t S firm W kind.Thread thread.obj w held.there) h.firm).firm)))
  firm-row core (BindNtfn x n) range small = with-kind kind.Thread x _ (λ thread held. with-kind kind.Notification n _ (λ cap ntfn. passed-next _ _ _ (passed-need Keeps _ _ _ (λ ok. passed-ok Keeps _ (λ W w h. (still-free thread.obj cap.obj held.there ntfn.there ok W w, h.firm))))))
  firm-row core (UnbindNtfn x) range small = with-kind kind.Thread x _ (λ thread held. passed-need Keeps _ _ _ (λ ok. passed-ok Keeps _ (λ W w h. ((ap (λ o. is_some o) (w.since.bound thread.obj) ∙ ok, tt), h.firm))))
  firm-row core (BindCtx s x) range small = with-kind kind.Context s _ (λ context held. with-cap x _ (λ target held'. firm-bind_by target.obj.kind context.obj target.obj held.there refl held'.alive))
  firm-row core (UnbindCtx s) range small = with-kind kind.Context s _ (λ context held. passed-need Keeps _ _ _ (λ ok. passed-ok Keeps _ (λ W w h. firm-unbind context.obj W h.firm)))
  firm-row core (CancelBadged a) range small = with-kind kind.Endpoint a _ (λ cap held. passed-next _ _ _ (passed-ok Keeps _ (λ W w h.
      firm-if (cap.badge.0 == 0) nothing (cancel_all (senders_with S cap.obj cap.badge.0) Restart) W h.firm (firm-badged cap.obj cap.badge.0 W w h))))
  firm-row core (CopyCap source dest rights) range small = passed-after (IsPlaced t S firm) Keeps (source_and_dest S t source dest) _ (firm-placed t S firm source dest) (λ at is. passed-ok Keeps _ (λ W w h.
      (slot-filled W at.dest.cnode at.dest.index (record at.cap { rights = bit_and at.cap.rights rights }) (woken-slot t S firm W at.dest.cnode at.dest.index w is.dest) (record { alive = w.since.alive at.cap.obj is.held.alive; small = is.held.small }), h.firm)))
  firm-row core (MintCap source dest rights badge) range small = passed-after (IsPlaced t S firm) Keeps (source_and_dest S t source dest) _ (firm-placed t S firm source dest) (λ at is. passed-next _ _ _ (passed-next _ _ _ (passed-ok Keeps _ (λ W w h.
      (slot-filled W at.dest.cnode at.dest.index (record at.cap { rights = bit_and at.cap.rights rights; badge = badge }) (woken-slot t S firm W at.dest.cnode at.dest.index w is.dest) (record { alive = w.since.alive at.cap.obj is.held.alive; small = range.3 }), h.firm)))))
  firm-row core (MoveCap source dest) range small = passed-after (IsPlaced t S firm) Keeps (source_and_dest S t source dest) _ (firm-placed t S firm source dest) (λ at is. passed-ok Keeps _ (λ W w h.
      let from : IsSlotOf W at.source.cnode at.source.index = woken-slot t S firm W at.source.cnode at.source.index w is.source in
      then-next Firm (fills at.dest (Some at.cap)) (fills at.source None) W
      (slot-emptied (rec.Slot at.dest.cnode at.dest.index (Some at.cap) ∷ W) at.source.cnode at.source.index (record { there = from.there; within = from.within }), (slot-filled W at.dest.cnode at.dest.index at.cap (woken-slot t S firm W at.dest.cnode at.dest.index w is.dest) (woken-held t S firm W at.cap w is.held), h.firm))))
  firm-row core (DeleteCap place) range small = passed-after (λ (at : SlotName). IsSlotOf S at.cnode at.index) Keeps (slot_named S t place) _ (slot_named-slot S t place firm) (λ at is. passed-need Keeps (not (is_last_cnode S (slot S at.cnode at.index))) _ _ (λ ok. passed-ok Keeps _ (firm-delete t S firm at is ok)))
  firm-row core (MakeEndpoint place) range small = firm-make t S firm kind.Endpoint 15 form.Plain place (λ e. absurd cc) tt (λ R o. tt)
  firm-row core (MakeNotification place) range small = firm-make t S firm kind.Notification 15 form.Plain place (λ e. absurd cc) tt (λ R o. tt)
  firm-row core (MakeReply place) range small = firm-make t S firm kind.Reply 0 form.Plain place (λ e. absurd cc) tt (λ R o. tt)
  firm-row core (MakeContext place) range small = firm-make t S firm kind.Context 0 (form.OnCore core) place (λ e. absurd cc) small (λ R o. tt)
  firm-row core (NbSendRecv a source r message) range small = firm-send_receive t S firm _ source _ (passed-after (IsHeld S) (KeepsActing t S firm) (capability S t a) _ (capability-held S t a firm) (λ cap held. acting-send_by t S firm cap.obj.kind cap message refl held)) (reply-known t S firm r)
  firm-row core (NbSendWait a source message) range small = firm-send_receive t S firm _ source _ (passed-after (IsHeld S) (KeepsActing t S firm) (capability S t a) _ (capability-held S t a firm) (λ cap held. acting-send_by t S firm cap.obj.kind cap message refl held)) (none-known t S firm)
  firm-row core _ range small = search (with-kind, passed-next, passed-ok, firm-signals, firm-suspends) depth 9

-- who may enter is not inactive
enters-active : (R : Log) (core : CoreId) (t : ObjId) → may_enter R core t ≡ true → mode_of R t ≢ Inactive
unfolding may_enter status_of
enters-active R core t h inactive = go (same_kind t.kind kind.Thread && was_made R t) (was_closed R t) (queue_of R t) (owing R t) (mode_of R t) inactive ((parts _ _ h).0)
  where
    go : (b c : Bool) (q : Option Queue) (o : Option ObjId) (m : Mode) → m ≡ Inactive → is_ready (cond b (Some (cond c status.Closed (status_by q o m))) None) ≡ true → ⊥
    go true false None None Inactive e k = absurd cc
    go true false None None Running e k = absurd cc
    go true false None None Restart e k = absurd cc
    go true false None (Some r) m e k = absurd cc
    go true false (Some q) o m e k = absurd cc
    go true true q o m e k = absurd cc
    go false c q o m e k = absurd cc

-- it enters on one of 16 cores
enters-core : (R : Log) (core : CoreId) (t : ObjId) → Firm R → may_enter R core t ≡ true → core.0 < 16
unfolding may_enter
enters-core R core t firm h = go (context_of R t) ((parts _ _ h).1)
  where
    on : (s : ObjId) (f : Option Form) → form_of R s ≡ f → is_on_core core f ≡ true → core.0 < 16
    on s (Some (form.OnCore c)) is k = let lt : c.0 < 16 = core-small R s c (firm-sound R firm) is in subst (λ (n : ℕ). n < 16) (eqb-true c.0 core.0 k) lt
    on s (Some (form.Slots radix)) is k = absurd cc
    on s (Some (form.Runner maximum root)) is k = absurd cc
    on s (Some form.Plain) is k = absurd cc
    on s None is k = absurd cc

    go : (c : Option ObjId) → is_on_core core (option_and_then (form_of R) c) ≡ true → core.0 < 16
    go None k = absurd cc
    go (Some s) k = on s (form_of R s) refl k

-- the entering thread, once it was woken, acts
pub begins : (R : Log) (core : CoreId) (t : ObjId) → may_enter R core t ≡ true → Rests R → Firm R → Acting t (onto (wakes (mode_of R t) t R) R)
begins R core t enters rests firm = go (mode_of R t) refl
  where
    who : IsEntering R t
    who = enters-ready R core t enters

    there : IsThere R kind.Thread t
    there = (who.thread, who.alive)

    idle : IsIdle R t
    idle = (who.stands_none, owing-none R t (firm-sound R firm) who.owed_none)

    calm : Idle t R
    calm = record { beside = record { ends = rests.calm.ends; made = rests.calm.made; queued = rests.calm.queued; none = rests.calm.none; entering = (who.thread, who.made) }; opened = rests.opened; stands_none = who.stands_none }

    go : (m : Mode) → mode_of R t ≡ m → Acting t (onto (wakes m t R) R)
    go Running is = record { firm = firm; there = there; idle = idle; running = is; calm = calm }
    go Restart is = record { firm = (((there, idle), tt), firm); there = there; idle = idle; running = set-self t Running (mode_of R t); calm = (idle-steps t).aside R (rec.Turns t Running) refl calm }
    go Inactive is = absurd (enters-active R core t enters is)

-- each entry keeps the log firm
pub firm-does : (R : Log) (core : CoreId) (t : ObjId) (entry : Entry) → InRange entry → may_enter R core t ≡ true → Rests R → Firm R → Firm (onto ((does R core t entry).records) R)
unfolding does OnPassed
firm-does R core t entry range enters rests firm = go (row R core t entry) (firm-row t R firm core entry range (enters-core R core t firm enters))
  where
    go : (m : Checked Act) → OnPassed (KeepsFirm t R firm) m → Firm (onto ((outcome_of R t m).records) R)
    go (Ok act) k = firm-before (wakes (mode_of R t) t) act R (k (onto (wakes (mode_of R t) t R) R) (woken R t (mode_of R t)) (begins R core t enters rests firm))
    go (Err refusal) k = firm
