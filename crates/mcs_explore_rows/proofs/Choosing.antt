-- The numbers of what each core may enter.
use Rattle.std.specs.Prelude.{ℕ, zero, suc, ◌≡◌, List, [], ◌∷◌, slice_get}
use Rattle.std.proofs.Common.{refl}
use Rattle.mcs_turns.specs.declared.position.Pick.{Pick}
use Rattle.mcs_turns.specs.Due.{choices, picks_at}
use Rattle.mcs_explore_rows.specs.Numbers.{list_numbers, option_numbers}
use Rattle.mcs_explore_rows.specs.Rows.{choice_list_numbers, pick_numbers}

-- those of one core, by its picks and its stale picks
pub choices-at : (ps ss : List (List Pick)) (i : ℕ)
    → option_numbers (choice_list_numbers (picks_at ps i)) (slice_get ss i) ≡ option_numbers (list_numbers pick_numbers) (slice_get (choices ps ss) i)
choices-at ps [] i = refl
choices-at [] (s ∷ ss) zero = refl
choices-at [] (s ∷ ss) (suc i) = choices-at [] ss i
choices-at (p ∷ ps) (s ∷ ss) zero = refl
choices-at (p ∷ ps) (s ∷ ss) (suc i) = choices-at ps ss i
