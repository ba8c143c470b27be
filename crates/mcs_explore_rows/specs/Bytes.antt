-- Numbers in bytes (own). No number's bytes begin with those of another.
use Rattle.std.specs.Prelude.{ℕ, ◌+◌, ◌/◌, ◌%◌, cond, nat_lt, List, [], ◌∷◌, ◌++◌}

-- one byte below 192, two below 63 * 256, and else five
abbrev pub code : ℕ → List ℕ
code n = cond (nat_lt n 192) (n ∷ [])
    (cond (nat_lt n 16128) ((192 + n / 256) ∷ (n % 256) ∷ [])
    (255 ∷ (n / 256 / 256 / 256) ∷ (n / 256 / 256 % 256) ∷ (n / 256 % 256) ∷ (n % 256) ∷ []))

-- each of a list
abbrev pub coded : List ℕ → List ℕ
coded [] = []
coded (n ∷ ns) = code n ++ coded ns
