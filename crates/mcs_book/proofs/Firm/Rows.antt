-- Each row of the table keeps a log firm.
use Rattle.std.specs.Prelude.{ℕ, ◌<◌, ◌^◌, Bool, true, false, cond, not, ◌&&◌, ◌==◌, ◌≡◌, ◌≢◌, ◌∷◌, Option, Some, None, Ok, refl}
use Rattle.std.proofs.Common.{sym, ◌∙◌, ap, arith, subst}
use Rattle.std.proofs.lemmas.Bool.{eq-eqb, eqb-true}
use Rattle.mcs_types.specs.Views.{Content}
use Rattle.mcs_types.specs.declared.id.ObjId.{ObjId}
use Rattle.mcs_types.specs.declared.id.Kind.{Kind}
use Rattle.mcs_types.specs.declared.id.Kind.TheVariants as kind
use Rattle.mcs_types.specs.declared.cap.Cap.{Cap}
use Rattle.mcs_types.specs.declared.cap.Place.{Place}
use Rattle.mcs_types.specs.declared.record.Form.{Form}
use Rattle.mcs_types.specs.declared.record.SendMode.TheVariants as how
use Rattle.mcs_types.specs.declared.record.Mode.{Mode}
use Rattle.mcs_types.specs.declared.record.Mode.TheVariants.{Running, Restart, Inactive}
use Rattle.mcs_types.specs.declared.record.Rec.TheVariants as rec
use Rattle.mcs_types.specs.declared.entry.Answer.TheVariants.{Done}
use Rattle.mcs_types.specs.Ids.{same, same_kind}
use Rattle.mcs_book.specs.Logs.{Log, onto}
use Rattle.mcs_book.specs.Objects.{form_of, next_id}
use Rattle.mcs_book.specs.Slots.{SlotName, slot, count_of}
use Rattle.mcs_book.specs.Queues.{queue_of}
use Rattle.mcs_book.specs.Contexts.{holder_of, home_of}
use Rattle.mcs_book.specs.Notifications.{bound_of, tied_to}
use Rattle.mcs_book.specs.Checks.{Checked}
use Rattle.mcs_book.specs.Rights.{is_kind}
use Rattle.mcs_book.specs.Lookup.{radix_kept, capability, slot_named, of_kind}
use Rattle.mcs_book.specs.Pieces.{◌then◌, nothing, say, Act, answers, silently, before}
use Rattle.mcs_book.specs.Taking.{pay}
use Rattle.mcs_book.specs.Cancelling.{destroy}
use Rattle.mcs_book.specs.Sending.{send_by}
use Rattle.mcs_book.specs.Receiving.{receive_by, receive_over, reply_at, reply_receive, may_wait, bound_elsewhere, pay_any, send_receive}
use Rattle.mcs_book.specs.Placing.{Places, source_and_dest, fills, is_last_cnode, destroy_last, delete, make}
use Rattle.mcs_book.specs.Table.{wakes}
use Rattle.mcs_book.specs.Sound.{IsThere, IsFormOf}
use Rattle.mcs_types.proofs.Ids.{same-equal}
use Rattle.mcs_book.proofs.Books.Checking.{OnPassed, passed-ok, passed-err, passed-after, passed-next}
use Rattle.mcs_book.proofs.SoundLogs.Keeping.{then-next}
use Rattle.mcs_book.proofs.SoundLogs.KeptLaws.{set-other, there-next, bound-one, slot-alive}
use Rattle.mcs_book.proofs.Firm.Laws.{Firm, Strict, Also, firm-sound, tied-bound, tied-none}
use Rattle.mcs_book.proofs.Objects.CountLaws.{count-none, last-one, made-there}
use Rattle.mcs_book.proofs.Firm.Ends.{firm-pay, outlasts-pay, firm-destroy}
use Rattle.mcs_book.proofs.Firm.Taking.{firm-signal, outlasts-signal}
use Rattle.mcs_book.proofs.Firm.Lookup.{passed-map, passed-need, passed-needed, IsSlotOf, IsHeld, IsHeldOf, slot-held, capability-held, of_kind-held, slot_named-slot}
use Rattle.mcs_book.proofs.Firm.Acts.{Acting, Since, since-ending, since-send, acting-pay, acting-signal}
use Rattle.mcs_book.proofs.Firm.Messages.{firm-before, firm-receive_on, firm-wait_on, firm-sends, acting-sends, since-sends}

-- the log after the entering thread was woken is, but for its mode, the one on which its entry was
-- checked
pub record Woken (S W : Log) : Type 0 where
  pub since : Since S W
  pub forms : (o : ObjId) → form_of W o ≡ form_of S o
  pub slots : (c : ObjId) (i : ℕ) → slot W c i ≡ slot S c i
  pub counts : (o : ObjId) → count_of W o ≡ count_of S o
  pub stands : (x : ObjId) → queue_of W x ≡ queue_of S x
  pub holders : (s : ObjId) → holder_of W s ≡ holder_of S s
  pub homes : (s : ObjId) → home_of W s ≡ home_of S s
  pub next : (k : Kind) → next_id W k ≡ next_id S k

-- whether it is woken or not
pub woken : (S : Log) (t : ObjId) (mode : Mode) → Woken S (onto (wakes mode t S) S)
woken S t Restart = record { since = record { alive = λ o h. h; bound = λ x. refl }; forms = λ o. refl; slots = λ c i. refl; counts = λ o. refl; stands = λ x. refl; holders = λ s. refl; homes = λ s. refl; next = λ k. refl }
woken S t Running = record { since = record { alive = λ o h. h; bound = λ x. refl }; forms = λ o. refl; slots = λ c i. refl; counts = λ o. refl; stands = λ x. refl; holders = λ s. refl; homes = λ s. refl; next = λ k. refl }
woken S t Inactive = record { since = record { alive = λ o h. h; bound = λ x. refl }; forms = λ o. refl; slots = λ c i. refl; counts = λ o. refl; stands = λ x. refl; holders = λ s. refl; homes = λ s. refl; next = λ k. refl }

-- the first capability to an object that is made
abbrev new_cap : ObjId → ℕ → Cap
new_cap o rights = record { obj = o; rights = rights; badge = record { 0 = 0 }; guard = record { bits = 0; value = 0 } }

-- a slot that is emptied
pub slot-emptied : (R : Log) (c : ObjId) (i : ℕ) → IsSlotOf R c i → Strict R (rec.Slot c i None)
slot-emptied R c i at = ((at.there, at.within, tt), tt)

-- a slot that is filled
pub slot-filled : (R : Log) (c : ObjId) (i : ℕ) (cap : Cap) → IsSlotOf R c i → IsHeld R cap → Strict R (rec.Slot c i (Some cap))
slot-filled R c i cap at held = ((at.there, at.within, held.alive), held.small)

module _ (t : ObjId) (S : Log) (firm : Firm S) where
  -- an act that keeps the log firm after t was woken
  abbrev pub KeepsFirm : Act → Type 0
  KeepsFirm act = (W : Log) → Woken S W → Acting t W → Firm (onto ((act W).records) W)

  -- an act that keeps it firm later too
  abbrev pub KeepsLater : Act → Type 0
  KeepsLater act = (W : Log) → Since S W → Acting t W → Firm (onto ((act W).records) W)

  -- who is there is there after t was woken
  pub woken-there : (W : Log) (k : Kind) (o : ObjId) → Woken S W → IsThere S k o → IsThere W k o
  woken-there W k o w h = (h.0, w.since.alive o h.1)

  -- a slot is a slot
  pub woken-slot : (W : Log) (c : ObjId) (i : ℕ) → Woken S W → IsSlotOf S c i → IsSlotOf W c i
  woken-slot W c i w at = record { there = woken-there W kind.CNode c w at.there; within = subst (λ (f : Option Form). i < 2 ^ radix_kept f) (sym (w.forms c)) at.within }

  -- a capability is held
  pub woken-held : (W : Log) (cap : Cap) → Woken S W → IsHeld S cap → IsHeld W cap
  woken-held W cap w h = record { alive = w.since.alive cap.obj h.alive; small = h.small }

  -- a send, by the kind of its capability
  pub firm-send_by : (k : Kind) (cap : Cap) (message : Content) (alone : Act) → cap.obj.kind ≡ k → IsHeld S cap → (IsThere S kind.Endpoint cap.obj → KeepsFirm alone) → OnPassed KeepsFirm (send_by k how.Plain t cap message alone)
  unfolding send_by
  firm-send_by kind.Endpoint cap message alone e held on = passed-next _ _ _ (passed-ok _ _ (λ W w h. firm-sends t W cap how.Plain message Done alone (woken-there W kind.Endpoint cap.obj w (e, held.alive)) h (on (e, held.alive) W w h)))
  firm-send_by kind.Notification cap message alone e held on = passed-next _ _ _ (passed-ok _ _ (λ W w h. firm-signal cap.obj cap.badge W (woken-there W kind.Notification cap.obj w (e, held.alive)) held.small h.firm))
  firm-send_by kind.Reply cap message alone e held on = passed-ok _ _ (λ W w h. firm-pay cap.obj message W h.firm)
  firm-send_by kind.CNode cap message alone e held on = passed-err _ _
  firm-send_by kind.Thread cap message alone e held on = passed-err _ _
  firm-send_by kind.Context cap message alone e held on = passed-err _ _

  -- an act after which t still acts
  abbrev pub KeepsActing : Act → Type 0
  KeepsActing act = (W : Log) → Woken S W → Acting t W → Acting t (onto ((act W).records) W) × Since S (onto ((act W).records) W)

  -- a send with the sender's context, by the kind of its capability
  pub acting-send_by : (k : Kind) (cap : Cap) (message : Content) → cap.obj.kind ≡ k → IsHeld S cap → OnPassed KeepsActing (send_by k how.Give t cap message (answers Done nothing))
  unfolding send_by
  acting-send_by kind.Endpoint cap message e held = passed-next _ _ _ (passed-ok KeepsActing _ (λ W w h. (acting-sends t W cap message Done Done (woken-there W kind.Endpoint cap.obj w (e, held.alive)) h, since-sends t S W cap message Done Done w.since)))
  acting-send_by kind.Notification cap message e held = passed-next _ _ _ (passed-ok KeepsActing _ (λ W w h. (acting-signal t W cap.obj cap.badge (woken-there W kind.Notification cap.obj w (e, held.alive)) held.small h, outlasts-signal (Since S) (since-send S) cap.obj cap.badge W w.since)))
  acting-send_by kind.Reply cap message e held = passed-ok KeepsActing _ (λ W w h. (acting-pay t W cap.obj message h, outlasts-pay (Since S) (since-ending S) cap.obj message W w.since))
  acting-send_by kind.CNode cap message e held = passed-err _ _
  acting-send_by kind.Thread cap message e held = passed-err _ _
  acting-send_by kind.Context cap message e held = passed-err _ _

  -- who is bound to a notification for which t may wait is t
  alone-bound : (n : ObjId) → not (bound_elsewhere (tied_to S n) t) ≡ true → (u : ObjId) → bound_of S u ≡ Some n → u ≡ t
  alone-bound n ok u bound = go (tied_to S n) refl ok
    where
      go : (o : Option ObjId) → tied_to S n ≡ o → not (bound_elsewhere o t) ≡ true → u ≡ t
      go None is h = absurd (tied-none S n (firm-sound S firm) is u bound)
      go (Some v) is h = bound-one S u v n (firm-sound S firm) bound (tied-bound S n v is) ∙ same-equal v t (twice (same v t) h)
        where
          twice : (b : Bool) → not (not b) ≡ true → b ≡ true
          twice true h = refl
          twice false h = absurd cc

  -- the reply object is there, if one is named
  abbrev IsKnown : Option ObjId → Type 0
  IsKnown r = (d : ObjId) → r ≡ Some d → IsThere S kind.Reply d

  -- no reply object is named
  pub none-known : OnPassed IsKnown (Ok None)
  none-known = passed-ok IsKnown None (λ d is. absurd cc)

  -- the reply object at an address
  pub reply-known : (address : ℕ) → OnPassed IsKnown (reply_at S t address)
  unfolding reply_at
  reply-known address = passed-after (IsHeldOf S kind.Reply) IsKnown (of_kind S t kind.Reply address) _ (of_kind-held S t kind.Reply address firm) (λ cap held. passed-ok IsKnown (Some cap.obj) (λ d is. let it : cap.obj ≡ d = cc in subst (λ (z : ObjId). IsThere S kind.Reply z) it held.there))

  -- a receive, by the kind of its source
  firm-receive_by : (k : Kind) (cap : Cap) (reply : Checked (Option ObjId)) (blocking : Bool) → cap.obj.kind ≡ k → IsHeld S cap → OnPassed IsKnown reply → OnPassed KeepsLater (receive_by k S t cap reply blocking)
  unfolding receive_by may_wait
  firm-receive_by kind.Endpoint cap reply blocking e held known = passed-next _ _ _ (passed-after IsKnown KeepsLater reply _ known (λ r there. passed-ok KeepsLater _ (λ W since h. firm-receive_on t S cap.obj r blocking (e, held.alive) there W since h)))
  firm-receive_by kind.Notification cap reply blocking e held known = passed-next _ _ _ (passed-need KeepsLater (not (bound_elsewhere (tied_to S cap.obj) t)) _ _ (λ ok. passed-ok KeepsLater _ (λ W since h. firm-wait_on t S cap.obj blocking (e, held.alive) (alone-bound cap.obj ok) W since h)))
  firm-receive_by kind.CNode cap reply blocking e held known = passed-err _ _
  firm-receive_by kind.Thread cap reply blocking e held known = passed-err _ _
  firm-receive_by kind.Reply cap reply blocking e held known = passed-err _ _
  firm-receive_by kind.Context cap reply blocking e held known = passed-err _ _

  -- a receive over a capability
  firm-receive_over : (cap : Cap) (reply : Checked (Option ObjId)) (blocking : Bool) → IsHeld S cap → OnPassed IsKnown reply → OnPassed KeepsLater (receive_over S t cap reply blocking)
  unfolding receive_over
  firm-receive_over cap reply blocking held known = firm-receive_by cap.obj.kind cap reply blocking refl held known

  -- a receive keeps the log firm at once too
  pub firm-receive : (reply : Checked (Option ObjId)) (blocking : Bool) (cap : Cap) → IsHeld S cap → OnPassed IsKnown reply → OnPassed KeepsFirm (receive_over S t cap reply blocking)
  firm-receive reply blocking cap held known = passed-map KeepsLater KeepsFirm (receive_over S t cap reply blocking) (λ act k W w h. k W w.since h) (firm-receive_over cap reply blocking held known)

  -- pays, and then receives
  pub firm-reply_receive : (cap : Cap) (address : ℕ) (message : Content) → IsHeld S cap → OnPassed KeepsFirm (reply_receive S t cap address message)
  unfolding reply_receive
  firm-reply_receive cap address message held = passed-next _ _ _ (passed-next _ _ _ (passed-after IsKnown KeepsFirm (reply_at S t address) _ (reply-known address) (λ r known.
      passed-after KeepsLater KeepsFirm (receive_over S t cap (Ok r) true) _ (firm-receive_over cap (Ok r) true held (passed-ok IsKnown r known)) (λ act k. passed-ok KeepsFirm _ (λ W w h. paid r act k W w h)))))
    where
      paid : (r : Option ObjId) (act : Act) → KeepsLater act → KeepsFirm (before (pay_any r message) act)
      paid None act k W w h = firm-before (pay_any None message) act W (k W w.since h)
      paid (Some d) act k W w h = firm-before (pay_any (Some d) message) act W (k (onto (pay d message W) W) (outlasts-pay (Since S) (since-ending S) d message W w.since) (acting-pay t W d message h))

  -- sends, and then receives
  pub firm-send_receive : (sending : Checked Act) (address : ℕ) (reply : Checked (Option ObjId)) → OnPassed KeepsActing sending → OnPassed IsKnown reply → OnPassed KeepsFirm (send_receive S t sending address reply)
  unfolding send_receive
  firm-send_receive sending address reply sends known = passed-after KeepsActing KeepsFirm sending _ sends (λ send k.
      passed-after (IsHeld S) KeepsFirm (capability S t address) _ (capability-held S t address firm) (λ source held.
      passed-after KeepsLater KeepsFirm (receive_over S t source reply true) _ (firm-receive_over source reply true held known) (λ act later. passed-ok KeepsFirm _ (λ W w h.
      let (acts, since) = k W w h in firm-before (silently send) act W (later (onto ((send W).records) W) since acts)))))

  -- what a copy or a move names
  pub record IsPlaced (at : Places) : Type 0 where
    pub held : IsHeld S at.cap
    pub source : IsSlotOf S at.source.cnode at.source.index
    pub dest : IsSlotOf S at.dest.cnode at.dest.index

  -- the two places of a copy or a move
  pub firm-placed : (source dest : Place) → OnPassed IsPlaced (source_and_dest S t source dest)
  unfolding source_and_dest
  firm-placed source dest =
      passed-after (λ (at : SlotName). IsSlotOf S at.cnode at.index) IsPlaced (slot_named S t source) _ (slot_named-slot S t source firm) (λ from a.
      passed-after (λ (at : SlotName). IsSlotOf S at.cnode at.index) IsPlaced (slot_named S t dest) _ (slot_named-slot S t dest firm) (λ to b.
      passed-after (IsHeld S) IsPlaced _ _ (passed-needed (IsHeld S) (slot S from.cnode from.index) _ (λ cap is. slot-held S from.cnode from.index cap firm is)) (λ cap held.
      passed-next _ _ _ (passed-ok IsPlaced _ (record { held = held; source = a; dest = b })))))

  -- the last capability to an object is taken from its slot, and the object ends
  pub firm-delete : (at : SlotName) → IsSlotOf S at.cnode at.index → not (is_last_cnode S (slot S at.cnode at.index)) ≡ true → KeepsFirm (delete at (slot S at.cnode at.index))
  unfolding delete destroy_last
  firm-delete at is ok = go (slot S at.cnode at.index) refl ok
    where
      go : (held : Option Cap) → slot S at.cnode at.index ≡ held → not (is_last_cnode S held) ≡ true → KeepsFirm (delete at held)
      go None e last W w h = h.firm
      go (Some cap) e last W w h = then-next Firm (fills at None) (destroy_last cap.obj) W (ends (count_of After cap.obj == 0) refl)
        where
          After : Log
          After = rec.Slot at.cnode at.index None ∷ W

          firm1 : Firm After
          firm1 = (slot-emptied W at.cnode at.index (woken-slot W at.cnode at.index w is), h.firm)

          held : slot W at.cnode at.index ≡ Some cap
          held = w.slots at.cnode at.index ∙ e

          -- a CNode has another capability
          not_cnode : count_of After cap.obj ≡ 0 → cap.obj.kind ≢ kind.CNode
          not_cnode none k =
              let one : count_of S cap.obj ≡ 1 = sym (w.counts cap.obj) ∙ last-one W at.cnode at.index cap held none in
              let cnode : is_kind kind.CNode cap ≡ true = ap (λ (j : Kind). same_kind j kind.CNode) k in
              let no : false ≡ true = sym (ap (λ b. not (b && (count_of S cap.obj == 1))) cnode ∙ ap (λ b. not b) (eq-eqb (count_of S cap.obj) 1 one)) ∙ last in
              absurd cc

          ends : (b : Bool) → (count_of After cap.obj == 0) ≡ b → Firm (onto (cond b (destroy cap.obj) nothing After) After)
          ends true z =
              let none : count_of After cap.obj ≡ 0 = eqb-true (count_of After cap.obj) 0 z in
              firm-destroy cap.obj After (not_cnode none) (record { alive = slot-alive W at.cnode at.index cap (firm-sound W h.firm) held; no_cap = λ c i. count-none After cap.obj c i none }) firm1
          ends false z = firm1

  -- an object is made, with a capability in a slot
  pub firm-make : (k : Kind) (rights : ℕ) (f : Form) (place : Place) → k ≢ kind.CNode → IsFormOf k f → ((R : Log) (o : ObjId) → Also R (rec.Made o f)) → OnPassed KeepsFirm (make S t k rights f place)
  unfolding make
  firm-make k rights f place ne fits also = passed-after (λ (at : SlotName). IsSlotOf S at.cnode at.index) KeepsFirm (slot_named S t place) _ (slot_named-slot S t place firm) (λ at is.
      passed-next _ _ _ (passed-next _ _ _ (passed-ok KeepsFirm _ (λ W w h.
      subst (λ (o : ObjId). Firm (onto ((say (rec.Made o f) then fills at (Some (new_cap o rights))) W) W)) (w.next k) (made at W (woken-slot W at.cnode at.index w is) h)))))
    where
      made : (at : SlotName) (W : Log) → IsSlotOf W at.cnode at.index → Acting t W → Firm (onto ((say (rec.Made (next_id W k) f) then fills at (Some (new_cap (next_id W k) rights))) W) W)
      made at W is h = then-next Firm (say (rec.Made (next_id W k) f)) (fills at (Some (new_cap (next_id W k) rights))) W (slot-filled After at.cnode at.index (new_cap (next_id W k) rights) slot1 (record { alive = (made-there W k f (firm-sound W h.firm)).1; small = omega arith }), firm1)
        where
          After : Log
          After = rec.Made (next_id W k) f ∷ W

          firm1 : Firm After
          firm1 = (((refl, fits), also W (next_id W k)), h.firm)

          other : at.cnode ≢ next_id W k
          other e = ne (sym (ap (λ (o : ObjId). o.kind) e) ∙ is.there.0)

          slot1 : IsSlotOf After at.cnode at.index
          slot1 = record {
            there = there-next W (rec.Made (next_id W k) f) kind.CNode at.cnode is.there refl;
            within = subst (λ (g : Option Form). at.index < 2 ^ radix_kept g) (sym (set-other at.cnode (next_id W k) (Some f) (form_of W at.cnode) other)) is.within;
          }
