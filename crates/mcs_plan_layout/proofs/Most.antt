-- The most bits that slots need, one slot more.
use Rattle.std.proofs.Common.{◌≡◌, ◌+◌, ◌<◌, ◌≤◌, ◌⊎◌, ℕ, List, [], ◌∷◌, ◌++◌, Option, Some, None, length, max, take, get_or, slice_get, inl, inr, sym, ap, ◌∙◌, arith}
use Rattle.std.proofs.lemmas.List.{take_more}
use Rattle.std.proofs.lemmas.List.Sums.{fold-append}
use Rattle.std.proofs.lemmas.Option.{slice_get_cases}
use Rattle.mcs_types.specs.declared.cap.Cap.{Cap}
use Rattle.mcs_plan_source.specs.Naming.{ByName}
use Rattle.mcs_plan_source.specs.Saying.{SaidSpace}
use Rattle.mcs_plan_layout.specs.Layouts.{bits_held, bits_at, most_bits}

module _ (spaces : List SaidSpace) (slots : ByName (Option Cap)) (i : ℕ) (within : i < length slots) where
  with_one : (slot : List ℕ × Option Cap) → slice_get slots i ≡ Some slot → get_or slots i slot ≡ slot
      → most_bits spaces (take (i + 1) slots) ≡ max (bits_at spaces (slice_get slots i)) (most_bits spaces (take i slots))
  with_one slot there is =
      ap (λ ss. most_bits spaces ss) (take_more slots i slot within ∙ ap (λ s. take i slots ++ s ∷ []) is)
      ∙ fold-append (λ (most : ℕ) (s : List ℕ × Option Cap). max (bits_held spaces s.1) most) 0 (take i slots) (slot ∷ [])
      ∙ ap (λ o. max (bits_at spaces o) (most_bits spaces (take i slots))) (sym there)

  pub most_more : most_bits spaces (take (i + 1) slots) ≡ max (bits_at spaces (slice_get slots i)) (most_bits spaces (take i slots))
  most_more = go (slice_get_cases slots i).1
    where
      go : ((x : List ℕ × Option Cap) × (i < length slots) × (slice_get slots i ≡ Some x) × (get_or slots i x ≡ x)) ⊎ ((length slots ≤ i) × (slice_get slots i ≡ None))
          → most_bits spaces (take (i + 1) slots) ≡ max (bits_at spaces (slice_get slots i)) (most_bits spaces (take i slots))
      go (inl h) = with_one h.0 h.2 h.3
      go (inr h) = absurd (omega (arith, h.0, within))
