-- The digest of a row of numbers, by which it is hashed (own).
use Rattle.std.specs.Prelude.{ℕ, ◌+◌, ◌*◌, ◌%◌, ◌^◌, ◌≡◌, IsTrue, List, fold, nat_eq}
use Rattle.std.specs.Hash as fed
use Rattle.std.specs.Cmp.Lexicographic.{pointwise, same_text}
use Rattle.std.proofs.Common.{ap, sym}
use Rattle.mcs_explore_rows.specs.declared.hashed.TheConstants.{FACTOR}

-- a digest, with one number more
abbrev pub mixed : ℕ → ℕ → ℕ
mixed digest number = (digest * FACTOR % 2 ^ 64 + number) % 2 ^ 64

-- that of a row
abbrev pub digest : List ℕ → ℕ
digest row = fold mixed 0 row

-- equal rows have equal ones
pub same-digest : (xs ys : List ℕ) → IsTrue (pointwise nat_eq xs ys) → fed.u64 (digest xs) ≡ fed.u64 (digest ys)
same-digest xs ys same = ap (λ row. fed.u64 (digest row)) (same_text xs ys (sym same))
