-- One more new seat.
use Rattle.std.proofs.Common.{ℕ, Bool, true, false, ◌≡◌, ◌<◌, nat_lt, List, [], ◌∷◌, ◌++◌, length, length-append, refl, ap, ◌∙◌, arith, slice_index_or}
use Rattle.std.proofs.lemmas.List.{get_or_append_left, get_or_push}
use Rattle.mcs_seats.specs.Seats.{Seat, AreNew}

-- a seat for each core in order, and one for the next
pub new-push : (xs : List Seat) (s : Seat) → AreNew xs → s ≡ record { core = record { 0 = length xs }; calls = [] }
    → AreNew (xs ++ s ∷ [])
new-push xs s new is i d lt = go (nat_lt i (length xs)) refl
  where
    go : (b : Bool) → nat_lt i (length xs) ≡ b
        → slice_index_or (xs ++ s ∷ []) i d ≡ record { core = record { 0 = i }; calls = [] }
    go true e = let below : i < length xs = grind (arith, e) in get_or_append_left xs (s ∷ []) d i below ∙ new i d below
    go false e =
        let whole = length-append xs (s ∷ []) in
        let at : length xs ≡ i = grind (arith, e, lt, whole) in
        get_or_push xs s d i at ∙ (is ∙ ap (λ (n : ℕ). record { core = record { 0 = n }; calls = [] }) at)
