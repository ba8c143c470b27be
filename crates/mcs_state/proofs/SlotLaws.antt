-- The pages of the CNodes follow a record, and the capability space that they are.
use Rattle.std.specs.Prelude.{ℕ, zero, suc, ◌≡◌, ◌<◌, ◌+◌, ◌-◌, ◌^◌, ◌==◌, ◌&&◌, Bool, true, false, cond, List, [], ◌∷◌, ◌++◌, length, Option, Some, None, unwrap_or, slice_get}
use Rattle.std.proofs.Common.{refl, ap, sym, ◌∙◌, subst, arith}
use Rattle.std.proofs.lemmas.Grind.{common_steps}
use Rattle.std.proofs.lemmas.List.{length-append}
use Rattle.mcs_types.specs.declared.id.ObjId.{ObjId}
use Rattle.mcs_types.specs.declared.id.Kind.{Kind}
use Rattle.mcs_types.specs.declared.id.Kind.TheVariants as kind
use Rattle.mcs_types.specs.declared.cap.Cap.{Cap}
use Rattle.mcs_types.specs.declared.record.Form.{Form}
use Rattle.mcs_types.specs.declared.record.Form.TheVariants as form
use Rattle.mcs_types.specs.declared.record.Rec.{Rec}
use Rattle.mcs_types.specs.declared.record.Rec.TheVariants as rec
use Rattle.mcs_types.specs.Ids.{same, same_kind}
use Rattle.mcs_book.specs.Logs.{Log, counted, given}
use Rattle.mcs_book.specs.Objects.{makes_kind, next_id, form_of}
use Rattle.mcs_book.specs.Slots.{slot, is_cap_to}
use Rattle.mcs_book.specs.Lookup.{space_of, radix_kept}
use Rattle.mcs_book.specs.Sound.{Sound, Allowed, IsThere, IsFormOf}
use Rattle.mcs_types.proofs.Ids.{same-equal}
use Rattle.mcs_book.proofs.Objects.CountLaws.{count-filled}
use Rattle.mcs_book.proofs.Objects.MadeLaws.{alive-made, made-serial}
use Rattle.mcs_slots.specs.declared.slots.SlotId.{SlotId}
use Rattle.mcs_slots.specs.Numbers.{number_of}
use Rattle.mcs_slots.specs.Pages.{Page, ArePages, HasSlot, empty_page, page_of, page_at, page_radix, page_slots, radix_of, slot_at}
use Rattle.mcs_slots.specs.Filling.{filled}
use Rattle.mcs_slots.proofs.SlotLaws.{slot_at-filled, radix_of-filled, length-fills, held-filled}
use Rattle.mcs_slots.proofs.AddLaws.{radix-more, slot-more, held-more}
use Rattle.mcs_cspace.specs.Spaces.{slots_space}
use Rattle.mcs_state.specs.Tables.{SlotsAgree}
use Rattle.mcs_state.specs.Following.{SlotsFollow}

-- an object that is no CNode keeps no radix
form-none : (k : Kind) (f : Form) → IsFormOf k f → same_kind k kind.CNode ≡ false → radix_kept (Some f) ≡ 0
form-none kind.CNode (form.Slots radix) h other = absurd cc
form-none kind.Thread (form.Slots radix) h other = absurd h
form-none kind.Endpoint (form.Slots radix) h other = absurd h
form-none kind.Notification (form.Slots radix) h other = absurd h
form-none kind.Reply (form.Slots radix) h other = absurd h
form-none kind.Context (form.Slots radix) h other = absurd h
form-none k form.Plain h other = refl
form-none k (form.OnCore core) h other = refl
form-none k (form.Runner maximum root) h other = refl

-- what is no CNode has no page
no-number : (o : ObjId) → same_kind o.kind kind.CNode ≡ false → number_of o ≡ None
no-number o other = rw other refl

-- an object that is no CNode was made
other-made : (R : Log) (P : List Page) (o : ObjId) (f : Form) → same_kind o.kind kind.CNode ≡ false → IsFormOf o.kind f → SlotsAgree P R → SlotsAgree P (rec.Made o f ∷ R)
other-made R P o f other fits a = record {
  made = a.made ∙ rw other refl;
  radices = λ c. go c (same c o) refl (a.radices c);
  slots = a.slots;
  counts = a.counts;
}
  where
    go : (c : ObjId) (b : Bool) → same c o ≡ b → unwrap_or (radix_of P c) 0 ≡ radix_kept (form_of R c) → unwrap_or (radix_of P c) 0 ≡ radix_kept (unwrap_or (given b (Some f)) (form_of R c))
    go c true is h =
        let at : c ≡ o = same-equal c o is in
        ap (λ (x : ObjId). unwrap_or (radix_of P x) 0) at ∙ ap (λ n. unwrap_or (page_radix (page_of P n)) 0) (no-number o other) ∙ sym (form-none o.kind f fits other)
    go c false is h = h

-- the next CNode has the number of the pages
next-number : (R : Log) (P : List Page) → length P ≡ counted (makes_kind kind.CNode) R → number_of (next_id R kind.CNode) ≡ Some (length P)
next-number R P pages =
    let serial : counted (makes_kind kind.CNode) R + 1 - 1 ≡ length P = omega (arith, pages) in
    let some : (counted (makes_kind kind.CNode) R + 1 == 0) ≡ false = grind (arith, common_steps) in
    rw some (ap (λ n. Some n) serial)

-- a CNode was made
cnode-next : (R : Log) (P : List Page) (radix : ℕ) → SlotsAgree P R → SlotsAgree (P ++ empty_page radix ∷ []) (rec.Made (next_id R kind.CNode) (form.Slots radix) ∷ R)
cnode-next R P radix a = record {
  made = length-append P (empty_page radix ∷ []) ∙ ap (λ n. n + 1) a.made;
  radices = λ c. ap (λ o. unwrap_or o 0) (radix-more P radix c (next_id R kind.CNode) (next-number R P a.made)) ∙ go c (same c (next_id R kind.CNode)) (a.radices c);
  slots = λ c i. slot-more P radix c i ∙ a.slots c i;
  counts = λ o. held-more P radix o ∙ a.counts o;
}
  where
    go : (c : ObjId) (b : Bool) → unwrap_or (radix_of P c) 0 ≡ radix_kept (form_of R c) → unwrap_or (cond b (Some radix) (radix_of P c)) 0 ≡ radix_kept (unwrap_or (given b (Some (form.Slots radix))) (form_of R c))
    go c true h = refl
    go c false h = h

-- two numbers of which the same is left, after as much was taken away
counts_alike : (b c : Bool) (m n k : ℕ) → b ≡ c → m + cond b 1 0 ≡ k → n + cond c 1 0 ≡ k → m ≡ n
counts_alike true true m n k e f h = omega (arith, f, h)
counts_alike false false m n k e f h = omega (arith, f, h)
counts_alike true false m n k e f h = absurd cc
counts_alike false true m n k e f h = absurd cc

-- a slot was filled or emptied
slot-filled : (R : Log) (P : List Page) (at : SlotId) (cap : Option Cap) → ArePages P → HasSlot P at → SlotsAgree P R → SlotsAgree (filled P at cap) (rec.Slot at.cnode at.index cap ∷ R)
slot-filled R P at cap pages has a = record {
  made = length-fills P (at.cnode.serial - 1) at.index cap ∙ a.made;
  radices = λ c. ap (λ o. unwrap_or o 0) (radix_of-filled P at cap c) ∙ a.radices c;
  slots = λ c i. slot_at-filled P at cap c i pages has ∙ go c i (same c at.cnode && (i == at.index)) (a.slots c i);
  counts = λ o. counts_alike (is_cap_to o (slot_at P at.cnode at.index)) (is_cap_to o (slot R at.cnode at.index)) _ _ _ (ap (is_cap_to o) (a.slots at.cnode at.index))
      (held-filled P at cap o pages has ∙ ap (λ n. n + cond (is_cap_to o cap) 1 0) (a.counts o)) (count-filled R at.cnode at.index cap o);
}
  where
    go : (c : ObjId) (i : ℕ) (b : Bool) → slot_at P c i ≡ slot R c i → cond b cap (slot_at P c i) ≡ unwrap_or (given b cap) (slot R c i)
    go c i true h = refl
    go c i false h = h

-- the pages are the capability space of the log
pub space-is : (R : Log) (P : List Page) → SlotsAgree P R → slots_space P ≡ space_of R
space-is R P a = λ i. record { radix = λ c. a.radices c i; slot = λ c j. a.slots c j i }

-- below the last page each number has one
page-below : (S : List Page) (n : ℕ) → n < length S → (p : Page) × (slice_get S n ≡ Some p)
page-below [] n lt = absurd (omega (arith, lt))
page-below (p ∷ S) zero lt = (p, refl)
page-below (p ∷ S) (suc n) lt = page-below S n (omega (arith, lt))

-- a slot of a CNode that is there
pub has-slot : (R : Log) (P : List Page) (at : SlotId) → SlotsAgree P R → Sound R → IsThere R kind.CNode at.cnode → at.index < 2 ^ radix_kept (form_of R at.cnode) → HasSlot P at
has-slot R P at a sound there within =
    let serial = made-serial R at.cnode sound (alive-made R at.cnode there.1) in
    let count : counted (makes_kind at.cnode.kind) R ≡ counted (makes_kind kind.CNode) R = ap (λ k. counted (makes_kind k) R) there.0 in
    let page = page-below P (at.cnode.serial - 1) (omega (arith, serial.0, serial.1, count, a.made)) in
    let some : (at.cnode.serial == 0) ≡ false = (let low = serial.0 in grind (arith, common_steps, low)) in
    let number : number_of at.cnode ≡ Some (at.cnode.serial - 1) = rw (there.0, some) refl in
    let is : page_at P at.cnode ≡ Some page.0 = ap (λ n. page_of P n) number ∙ page.1 in
    let radix : page.0.radix ≡ radix_kept (form_of R at.cnode) = sym (ap (λ o. unwrap_or (page_radix o) 0) is) ∙ a.radices at.cnode in
    let slots : page_slots (page_at P at.cnode) ≡ 2 ^ radix_kept (form_of R at.cnode) = ap (λ o. page_slots o) is ∙ ap (λ r. 2 ^ r) radix in
    omega (arith, within, slots)

-- the form of slots is of a CNode alone
of-cnode : (k : Kind) (radix : ℕ) → IsFormOf k (form.Slots radix) → k ≡ kind.CNode
of-cnode kind.CNode radix h = refl
of-cnode kind.Thread radix h = absurd h
of-cnode kind.Endpoint radix h = absurd h
of-cnode kind.Notification radix h = absurd h
of-cnode kind.Reply radix h = absurd h
of-cnode kind.Context radix h = absurd h

cnode-made : (R : Log) (P : List Page) (o : ObjId) (radix : ℕ) → Allowed R (rec.Made o (form.Slots radix)) → SlotsAgree P R → SlotsAgree (P ++ empty_page radix ∷ []) (rec.Made o (form.Slots radix) ∷ R)
cnode-made R P o radix ok a =
    let it : next_id R kind.CNode ≡ o = ap (λ k. next_id R k) (sym (of-cnode o.kind radix ok.1)) ∙ sym ok.0 in
    subst (λ (x : ObjId). SlotsAgree (P ++ empty_page radix ∷ []) (rec.Made x (form.Slots radix) ∷ R)) it (cnode-next R P radix a)

-- another form is of no CNode
no-cnode : (k : Kind) (f : Form) → IsFormOf k f → ((radix : ℕ) → f ≡ form.Slots radix → ⊥) → same_kind k kind.CNode ≡ false
no-cnode kind.CNode (form.Slots radix) h not_slots = absurd (not_slots radix refl)
no-cnode kind.CNode form.Plain h not_slots = absurd h
no-cnode kind.CNode (form.OnCore core) h not_slots = absurd h
no-cnode kind.CNode (form.Runner maximum root) h not_slots = absurd h
no-cnode kind.Thread f h not_slots = refl
no-cnode kind.Endpoint f h not_slots = refl
no-cnode kind.Notification f h not_slots = refl
no-cnode kind.Reply f h not_slots = refl
no-cnode kind.Context f h not_slots = refl

-- after any record
pub slots-follow : (r : Rec) (R : Log) (P Q : List Page) → Sound R → Allowed R r → SlotsFollow r P Q → SlotsAgree P R → SlotsAgree Q (r ∷ R)
slots-follow (rec.Made o (form.Slots radix)) R P Q sound ok h a = rw h (cnode-made R P o radix ok a)
slots-follow (rec.Made o form.Plain) R P Q sound ok h a = rw h (other-made R P o form.Plain (no-cnode o.kind form.Plain ok.1 (λ radix e. absurd cc)) ok.1 a)
slots-follow (rec.Made o (form.OnCore core)) R P Q sound ok h a = rw h (other-made R P o (form.OnCore core) (no-cnode o.kind (form.OnCore core) ok.1 (λ radix e. absurd cc)) ok.1 a)
slots-follow (rec.Made o (form.Runner maximum root)) R P Q sound ok h a = rw h (other-made R P o (form.Runner maximum root) (no-cnode o.kind (form.Runner maximum root) ok.1 (λ radix e. absurd cc)) ok.1 a)
slots-follow (rec.Slot c i cap) R P Q sound ok h a =
    let at : SlotId = record { cnode = c; index = i } in
    rw h.1 (slot-filled R P at cap h.0 (has-slot R P at a sound ok.0 ok.1) a)
slots-follow _ R P Q sound ok h a = rw h (record { made = a.made; radices = a.radices; slots = a.slots; counts = a.counts })
