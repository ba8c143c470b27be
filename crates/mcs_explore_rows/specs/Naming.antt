-- Rows and their numbers (own).
use Rattle.std.specs.Prelude.{ℕ, ◌≡◌, ◌++◌, Bool, List, Some, map, slice_get}

-- interned rows keep their numbers
abbrev pub Keeps : List (List ℕ) → List (List ℕ) → Type 0
Keeps old new = (n : ℕ) (r : List ℕ) → slice_get old n ≡ Some r → slice_get new n ≡ Some r

-- the numbers name these rows, one after another
abbrev pub Names : List (List ℕ) → List ℕ → List (List ℕ) → Type 0
Names met numbers rows = map (slice_get met) numbers ≡ map (λ (r : List ℕ). Some r) rows

-- numbers that named rows name more rows after them, when more were interned
abbrev pub Adds : List (List ℕ) → List ℕ → List (List ℕ) → List ℕ → List (List ℕ) → Type 0
Adds old before new after more = (rows : List (List ℕ)) → Names old before rows → Names new after (rows ++ more)

-- the interned rows, in the order of their numbers; whether equal keys are known to decide the
-- future; and whether keys distinguish the numbers of messages
pub record Known : Type 0 where
  pub met : List (List ℕ)
  pub is_exact : Bool
  pub numbered : Bool
