-- Neighbours in a list of places, from the top.
use Rattle.std.specs.Prelude.{ℕ, ◌≡◌, false, Bool, cond, ◌==◌, ◌||◌, List, [], ◌∷◌, Option, Some, None}
use Rattle.mcs_types.specs.Chains.{head_of}

-- whether a place is in a list
abbrev pub has : ℕ → List ℕ → Bool
has u [] = false
has u (x ∷ xs) = (x == u) || has u xs

-- no place twice
abbrev pub Apart : List ℕ → Type 0
Apart [] = Unit {0}
Apart (x ∷ xs) = (has x xs ≡ false) × Apart xs

-- the place below another
abbrev pub below : ℕ → List ℕ → Option ℕ
below u [] = None
below u (x ∷ xs) = cond (x == u) (head_of xs) (below u xs)

-- the place above another, where b is above all
abbrev pub above_from : Option ℕ → ℕ → List ℕ → Option ℕ
above_from b u [] = None
above_from b u (x ∷ xs) = cond (x == u) b (above_from (Some x) u xs)

-- the place above another
abbrev pub above : ℕ → List ℕ → Option ℕ
above u ps = above_from None u ps

-- all that are above a place; all where it is not among them
abbrev pub upper : ℕ → List ℕ → List ℕ
upper p [] = []
upper p (x ∷ xs) = cond (x == p) [] (x ∷ upper p xs)

-- a place and all below it
abbrev pub lower : ℕ → List ℕ → List ℕ
lower p [] = []
lower p (x ∷ xs) = cond (x == p) (x ∷ xs) (lower p xs)
