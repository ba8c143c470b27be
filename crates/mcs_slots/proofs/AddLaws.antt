-- What one CNode more changes.
use Rattle.std.specs.Prelude.{ℕ, zero, suc, ◌≡◌, ◌≢◌, ◌^◌, ◌==◌, Bool, true, false, cond, List, [], ◌∷◌, ◌++◌, length, Option, Some, None, replicate, slice_get, slice_index_or, ◌+◌, count_by}
use Rattle.std.proofs.Common.{refl, ap, sym, ◌∙◌, inl, inr, arith}
use Rattle.std.proofs.lemmas.Bool.{eqb-true, cases_eq}
use Rattle.std.proofs.lemmas.Grind.{common_steps}
use Rattle.std.proofs.lemmas.List.Sums.{sum_by_push}
use Rattle.mcs_types.specs.declared.id.ObjId.{ObjId}
use Rattle.mcs_types.specs.declared.cap.Cap.{Cap}
use Rattle.mcs_types.specs.Ids.{same}
use Rattle.mcs_book.specs.Slots.{is_cap_to}
use Rattle.mcs_slots.specs.Numbers.{number_of}
use Rattle.mcs_slots.specs.Pages.{Page, empty_page, page_of, page_radix, page_slot, radix_of, slot_at, held}
use Rattle.mcs_slots.proofs.SlotLaws.{same-numbers, other-object}

-- after the last page there is none
page-none : (S : List Page) → slice_get S (length S) ≡ None
page-none [] = refl
page-none (q ∷ qs) = page-none qs

-- a page that is added is there
page-last : (S : List Page) (p : Page) → slice_get (S ++ p ∷ []) (length S) ≡ Some p
page-last [] p = refl
page-last (q ∷ qs) p = page-last qs p

-- each other number has the page that it had
page-other : (S : List Page) (p : Page) (n : ℕ) → n ≢ length S → slice_get (S ++ p ∷ []) n ≡ slice_get S n
page-other [] p zero ne = absurd (ne refl)
page-other [] p (suc n) ne = refl
page-other (q ∷ qs) p zero ne = refl
page-other (q ∷ qs) p (suc n) ne = page-other qs p n (λ e. ne (ap suc e))

-- the page of a number, with one page more
page-more : (S : List Page) (p : Page) (n : ℕ) → slice_get (S ++ p ∷ []) n ≡ cond (n == length S) (Some p) (slice_get S n)
page-more S p n =
    elim (cases_eq n (length S)) [
      | inl e ↦
          let at : (n == length S) ≡ true = grind (arith, common_steps, e) in
          rw at (ap (slice_get (S ++ p ∷ [])) e ∙ page-last S p)
      | inr ne ↦
          let other : (n == length S) ≡ false = grind (arith, common_steps, ne) in
          rw other (page-other S p n ne)
    ]

-- the same is at each index of equal slots, and after them
equal-slot : (n i : ℕ) (x : Option Cap) → slice_index_or (replicate n x) i x ≡ x
equal-slot zero i x = refl
equal-slot (suc n) zero x = refl
equal-slot (suc n) (suc i) x = equal-slot n i x

-- the new CNode has its radix, and each other as it had
pub radix-more : (S : List Page) (r : ℕ) (c d : ObjId) → number_of d ≡ Some (length S) → radix_of (S ++ empty_page r ∷ []) c ≡ cond (same c d) (Some r) (radix_of S c)
radix-more S r c d is = go (number_of c) refl
  where
    at : (b : Bool) (o : Option Page) → page_radix (cond b (Some (empty_page r)) o) ≡ cond b (Some r) (page_radix o)
    at true o = refl
    at false o = refl

    go : (n : Option ℕ) → number_of c ≡ n → page_radix (page_of (S ++ empty_page r ∷ []) n) ≡ cond (same c d) (Some r) (page_radix (page_of S n))
    go None e = rw (other-object c d (length S) e is) refl
    go (Some n) e = rw (same-numbers c d n (length S) e is, page-more S (empty_page r) n) (at (n == length S) (slice_get S n))

-- each slot holds what it held
pub slot-more : (S : List Page) (r : ℕ) (c : ObjId) (i : ℕ) → slot_at (S ++ empty_page r ∷ []) c i ≡ slot_at S c i
slot-more S r c i = go (number_of c)
  where
    at : (n : ℕ) (b : Bool) → (n == length S) ≡ b → page_slot (cond b (Some (empty_page r)) (slice_get S n)) i ≡ page_slot (slice_get S n) i
    at n true e = let none : slice_get S n ≡ None = ap (slice_get S) (eqb-true n (length S) e) ∙ page-none S in equal-slot (2 ^ r) i None ∙ sym (ap (λ o. page_slot o i) none)
    at n false e = refl

    go : (n : Option ℕ) → page_slot (page_of (S ++ empty_page r ∷ []) n) i ≡ page_slot (page_of S n) i
    go None = refl
    go (Some n) = rw (page-more S (empty_page r) n) (at n (n == length S) refl)

-- empty slots hold no capability
empty-held : (o : ObjId) (n : ℕ) → count_by (is_cap_to o) (replicate n None) ≡ 0
empty-held o zero = refl
empty-held o (suc n) = empty-held o n

-- so as many slots hold one to an object as before
pub held-more : (S : List Page) (r : ℕ) (o : ObjId) → held (S ++ empty_page r ∷ []) o ≡ held S o
held-more S r o =
    let more : held (S ++ empty_page r ∷ []) o ≡ held S o + count_by (is_cap_to o) (replicate (2 ^ r) None) = sum_by_push (λ (p : Page). count_by (is_cap_to o) p.caps) S (empty_page r) in
    let none = empty-held o (2 ^ r) in
    omega (arith, more, none)
