-- Counts: of the capabilities to an object, and of the objects that were made.
use Rattle.std.specs.Prelude.{ℕ, ◌+◌, ◌≤◌, Bool, true, false, cond, not, ◌&&◌, ◌||◌, ◌==◌, ◌≡◌, List, [], ◌∷◌, Option, Some, None, refl, unwrap_or}
use Rattle.std.specs.List.{list_any}
use Rattle.std.proofs.Common.{sym, ◌∙◌, ap, inl, inr, arith, subst}
use Rattle.std.proofs.lemmas.Bool.{eqb-true, eq-eqb}
use Rattle.mcs_types.specs.declared.id.ObjId.{ObjId}
use Rattle.mcs_types.specs.declared.id.Kind.{Kind}
use Rattle.mcs_types.specs.declared.cap.Cap.{Cap}
use Rattle.mcs_types.specs.declared.record.Form.{Form}
use Rattle.mcs_types.specs.declared.record.Rec.TheVariants as rec
use Rattle.mcs_types.specs.Ids.{same}
use Rattle.mcs_book.specs.Logs.{Log, given, counted}
use Rattle.mcs_book.specs.Objects.{makes_kind, was_made, was_closed, next_id}
use Rattle.mcs_book.specs.Slots.{SlotName, same_slot, with_slot, written, slot, is_cap_to, count_of}
use Rattle.mcs_book.specs.Sound.{Sound, IsThere}
use Rattle.mcs_types.proofs.Ids.{same-self, same-equal, parts, both}
use Rattle.mcs_book.proofs.Objects.MadeLaws.{made-in, serial-below, alive-made}
use Rattle.mcs_book.proofs.Queues.NoneBeside.{made-more}
use Rattle.mcs_book.proofs.SoundLogs.KeptLaws.{given-split}

-- names of one slot are equal
same_slot-equal : (a b : SlotName) → same_slot a b ≡ true → a ≡ b
same_slot-equal a b h =
    let p : (same a.cnode b.cnode ≡ true) × ((a.index == b.index) ≡ true) = parts _ _ h in
    let c : a.cnode ≡ b.cnode = same-equal a.cnode b.cnode p.0 in
    let n : a.index ≡ b.index = eqb-true a.index b.index p.1 in
    λ i. record { cnode = c i; index = n i }

-- a slot is the same as itself
same_slot-self : (a : SlotName) → same_slot a a ≡ true
same_slot-self a = both _ _ (same-self a.cnode) (eq-eqb a.index a.index refl)

-- being another slot goes both ways
same_slot-flip : (a b : SlotName) → same_slot a b ≡ false → same_slot b a ≡ false
same_slot-flip a b h = go (same_slot b a) refl
  where
    go : (v : Bool) → same_slot b a ≡ v → v ≡ false
    go false e = refl
    go true e = let no : true ≡ false = sym (same_slot-self a) ∙ ap (λ (z : SlotName). same_slot a z) (sym (same_slot-equal b a e)) ∙ h in absurd cc

-- each slot is there once
abbrev Once : List SlotName → Type 0
Once [] = Unit {0}
Once (at ∷ slots) = (list_any (same_slot at) slots ≡ false) × Once slots

-- a slot with which the list is as before, or one longer
once-with : (at : SlotName) (slots : List SlotName) → Once slots → Once (with_slot at slots)
once-with at slots h = go (list_any (same_slot at) slots) refl
  where
    go : (b : Bool) → list_any (same_slot at) slots ≡ b → Once (cond b slots (at ∷ slots))
    go true e = h
    go false e = (e, h)

-- the slots that were written are there once
written-once : (R : Log) → Once (written R)
written-once [] = tt
written-once (rec.Slot c i cap ∷ R) = once-with (record { cnode = c; index = i }) (written R) (written-once R)
written-once (_ ∷ R) = written-once R

-- who is in the list is in it with one more slot
with-more : (at new : SlotName) (slots : List SlotName) → list_any (same_slot at) slots ≡ true → list_any (same_slot at) (with_slot new slots) ≡ true
with-more at new slots h = go (list_any (same_slot new) slots)
  where
    go : (b : Bool) → list_any (same_slot at) (cond b slots (new ∷ slots)) ≡ true
    go true = h
    go false = made-more _ _ h

-- a slot is in a list with it
with-self : (at : SlotName) (slots : List SlotName) → list_any (same_slot at) (with_slot at slots) ≡ true
with-self at slots = go (list_any (same_slot at) slots) refl
  where
    go : (b : Bool) → list_any (same_slot at) slots ≡ b → list_any (same_slot at) (cond b slots (at ∷ slots)) ≡ true
    go true e = e
    go false e = ap (λ b. b || list_any (same_slot at) slots) (same_slot-self at)

-- a slot that holds something was written
slot-written : (R : Log) (at : SlotName) (cap : Cap) → slot R at.cnode at.index ≡ Some cap → list_any (same_slot at) (written R) ≡ true
slot-written [] at cap h = absurd cc
slot-written (rec.Slot c i held ∷ R) at cap h = elim (given-split (same at.cnode c && (at.index == i)) held (slot R at.cnode at.index) (Some cap) h) [
  | inl (is, k) ↦ (let new : SlotName = record { cnode = c; index = i } in let it : at ≡ new = same_slot-equal at (record { cnode = c; index = i }) is in subst (λ (z : SlotName). list_any (same_slot z) (with_slot (record { cnode = c; index = i }) (written R)) ≡ true) (sym it) (with-self (record { cnode = c; index = i }) (written R)))
  | inr (other, k) ↦ with-more at (record { cnode = c; index = i }) (written R) (slot-written R at cap k)
]
slot-written (_ ∷ R) at cap h = slot-written R at cap h

-- one more is not none
not-none : (n : ℕ) → n + 1 ≡ 0 → ⊥
not-none n h = omega (arith, h)

-- where none of a list passes, one in the list does not
counted-none : (p : SlotName → Bool) (slots : List SlotName) (at : SlotName) → list_any (same_slot at) slots ≡ true → counted p slots ≡ 0 → p at ≡ false
counted-none p [] at h k = absurd cc
counted-none p (x ∷ xs) at h k = go (same_slot at x) refl (p x) refl h k (counted-none p xs at)
  where
    go : (b : Bool) → same_slot at x ≡ b → (c : Bool) → p x ≡ c → (b || list_any (same_slot at) xs) ≡ true → cond c (counted p xs + 1) (counted p xs) ≡ 0 → (list_any (same_slot at) xs ≡ true → counted p xs ≡ 0 → p at ≡ false) → p at ≡ false
    go b e true f h k later = absurd (not-none (counted p xs) k)
    go true e false f h k later = ap p (same_slot-equal at x e) ∙ f
    go false e false f h k later = later h k

-- where no capability to o is counted, no slot holds one
pub count-none : (R : Log) (o c : ObjId) (i : ℕ) → count_of R o ≡ 0 → is_cap_to o (slot R c i) ≡ false
count-none R o c i none = go (slot R c i) refl
  where
    go : (held : Option Cap) → slot R c i ≡ held → is_cap_to o held ≡ false
    go None is = refl
    go (Some cap) is = ap (is_cap_to o) (sym is) ∙ counted-none (λ at. is_cap_to o (slot R at.cnode at.index)) (written R) (record { cnode = c; index = i }) (slot-written R (record { cnode = c; index = i }) cap is) none

-- two tests that agree at every other slot
module _ (p q : SlotName → Bool) (at : SlotName) (agree : (b : SlotName) → same_slot at b ≡ false → p b ≡ q b) where
  -- count alike where it is not in the list
  counted-same : (slots : List SlotName) → list_any (same_slot at) slots ≡ false → counted p slots ≡ counted q slots
  counted-same [] h = refl
  counted-same (x ∷ xs) h = go (same_slot at x) refl h (counted-same xs)
    where
      go : (b : Bool) → same_slot at x ≡ b → (b || list_any (same_slot at) xs) ≡ false → (list_any (same_slot at) xs ≡ false → counted p xs ≡ counted q xs) → cond (p x) (counted p xs + 1) (counted p xs) ≡ cond (q x) (counted q xs + 1) (counted q xs)
      go true e h later = absurd cc
      go false e h later = ap (λ n. cond (p x) (n + 1) n) (later h) ∙ ap (λ b. cond b (counted q xs + 1) (counted q xs)) (agree x e)

  -- and differ by that slot where it is in the list
  counted-change : (slots : List SlotName) → Once slots → list_any (same_slot at) slots ≡ true → counted q slots + cond (p at) 1 0 ≡ counted p slots + cond (q at) 1 0
  counted-change [] once h = absurd cc
  counted-change (x ∷ xs) once h = go (same_slot at x) refl h (counted-change xs once.1)
    where
      swapped : (a b : Bool) (n : ℕ) → cond b (n + 1) n + cond a 1 0 ≡ cond a (n + 1) n + cond b 1 0
      swapped true true n = refl
      swapped true false n = omega arith
      swapped false true n = omega arith
      swapped false false n = refl

      either : (a b : Bool) (m n : ℕ) → a ≡ b → n + cond (p at) 1 0 ≡ m + cond (q at) 1 0 → cond b (n + 1) n + cond (p at) 1 0 ≡ cond a (m + 1) m + cond (q at) 1 0
      either true true m n e k = omega (arith, k)
      either false false m n e k = k
      either true false m n e k = absurd cc
      either false true m n e k = absurd cc

      go : (b : Bool) → same_slot at x ≡ b → (b || list_any (same_slot at) xs) ≡ true → (list_any (same_slot at) xs ≡ true → counted q xs + cond (p at) 1 0 ≡ counted p xs + cond (q at) 1 0)
          → cond (q x) (counted q xs + 1) (counted q xs) + cond (p at) 1 0 ≡ cond (p x) (counted p xs + 1) (counted p xs) + cond (q at) 1 0
      go true e h later =
          let it : x ≡ at = sym (same_slot-equal at x e) in
          let gone : list_any (same_slot at) xs ≡ false = ap (λ (z : SlotName). list_any (same_slot z) xs) (sym it) ∙ once.0 in
          ap (λ b. cond b (counted q xs + 1) (counted q xs) + cond (p at) 1 0) (ap q it) ∙ swapped (p at) (q at) (counted q xs)
          ∙ ap (λ n. cond (p at) (n + 1) n + cond (q at) 1 0) (sym (counted-same xs gone)) ∙ ap (λ b. cond b (counted p xs + 1) (counted p xs) + cond (q at) 1 0) (ap p (sym it))
      go false e h later = either (p x) (q x) (counted p xs) (counted q xs) (agree x e) (later h)

-- filling a slot counts what it holds then in place of what it held
pub count-filled : (R : Log) (c : ObjId) (i : ℕ) (cap : Option Cap) (o : ObjId) → count_of (rec.Slot c i cap ∷ R) o + cond (is_cap_to o (slot R c i)) 1 0 ≡ count_of R o + cond (is_cap_to o cap) 1 0
count-filled R c i cap o = go (list_any (same_slot at) (written R)) refl
  where
    at : SlotName
    at = record { cnode = c; index = i }

    p : SlotName → Bool
    p b = is_cap_to o (slot R b.cnode b.index)

    q : SlotName → Bool
    q b = is_cap_to o (slot (rec.Slot c i cap ∷ R) b.cnode b.index)

    here : q at ≡ is_cap_to o cap
    here = ap (λ b. is_cap_to o (unwrap_or (given b cap) (slot R c i))) (same_slot-self at)

    agree : (b : SlotName) → same_slot at b ≡ false → p b ≡ q b
    agree b e = ap (λ v. is_cap_to o (unwrap_or (given v cap) (slot R b.cnode b.index))) (sym (same_slot-flip at b e))

    blank : list_any (same_slot at) (written R) ≡ false → (held : Option Cap) → slot R c i ≡ held → is_cap_to o held ≡ false
    blank e None is = refl
    blank e (Some held) is = let no : true ≡ false = sym (slot-written R at held is) ∙ e in absurd cc

    more : (b : Bool) (n : ℕ) → cond b (n + 1) n + 0 ≡ n + cond b 1 0
    more true n = omega arith
    more false n = refl

    go : (b : Bool) → list_any (same_slot at) (written R) ≡ b → counted q (cond b (written R) (at ∷ written R)) + cond (p at) 1 0 ≡ counted p (written R) + cond (is_cap_to o cap) 1 0
    go true e = counted-change p q at agree (written R) (written-once R) e ∙ ap (λ b. counted p (written R) + cond b 1 0) here
    go false e =
        ap (λ b. cond b (counted q (written R) + 1) (counted q (written R)) + cond (p at) 1 0) here ∙ ap (λ b. cond (is_cap_to o cap) (counted q (written R) + 1) (counted q (written R)) + cond b 1 0) (blank e (slot R c i) refl)
        ∙ more (is_cap_to o cap) (counted q (written R)) ∙ ap (λ n. n + cond (is_cap_to o cap) 1 0) (sym (counted-same p q at agree (written R) e))

-- when the last capability to an object is taken from its slot, there was one
pub last-one : (R : Log) (c : ObjId) (i : ℕ) (cap : Cap) → slot R c i ≡ Some cap → count_of (rec.Slot c i None ∷ R) cap.obj ≡ 0 → count_of R cap.obj ≡ 1
last-one R c i cap held none = only (is_cap_to cap.obj (slot R c i)) (count_of R cap.obj) (count_of (rec.Slot c i None ∷ R) cap.obj) (ap (is_cap_to cap.obj) held ∙ same-self cap.obj) none (count-filled R c i None cap.obj)
  where
    only : (b : Bool) (m n : ℕ) → b ≡ true → n ≡ 0 → n + cond b 1 0 ≡ m + 0 → m ≡ 1
    only true m n e none is = omega (arith, none, is)
    only false m n e none is = absurd cc

-- what was closed was made
pub closed-made : (R : Log) (o : ObjId) → Sound R → was_closed R o ≡ true → was_made R o ≡ true
closed-made [] o sound h = absurd cc
closed-made (rec.Closed d ∷ R) o sound h = go (same o d) refl h (closed-made R o sound.1)
  where
    go : (b : Bool) → same o d ≡ b → (b || was_closed R o) ≡ true → (was_closed R o ≡ true → was_made R o ≡ true) → was_made R o ≡ true
    go true e h later = ap (λ (z : ObjId). was_made R z) (same-equal o d e) ∙ alive-made R d sound.0.0
    go false e h later = later h
closed-made (rec.Made d form ∷ R) o sound h = made-more _ _ (closed-made R o sound.1 h)
closed-made (_ ∷ R) o sound h = closed-made R o sound.1 h

-- the next object of a kind was not made
pub next-unmade : (R : Log) (k : Kind) → Sound R → was_made R (next_id R k) ≡ false
next-unmade R k sound = go (was_made R (next_id R k)) refl
  where
    go : (b : Bool) → was_made R (next_id R k) ≡ b → b ≡ false
    go false e = refl
    go true e = let le : (next_id R k).serial ≤ counted (makes_kind k) R = serial-below R (next_id R k) k sound (made-in R (next_id R k) k refl e) in absurd (omega (arith, le))

-- once it is made, it is there
pub made-there : (R : Log) (k : Kind) (form : Form) → Sound R → IsThere (rec.Made (next_id R k) form ∷ R) k (next_id R k)
made-there R k form sound = (refl, both _ _ (ap (λ b. b || was_made R (next_id R k)) (same-self (next_id R k))) (ap (λ b. not b) (unclosed (was_closed R (next_id R k)) refl)))
  where
    unclosed : (b : Bool) → was_closed R (next_id R k) ≡ b → b ≡ false
    unclosed false e = refl
    unclosed true e = let no : true ≡ false = sym (closed-made R (next_id R k) sound e) ∙ next-unmade R k sound in absurd cc
