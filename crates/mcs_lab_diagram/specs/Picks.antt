-- Which thread each core picks, in each row: of the threads that are ready, it runs.
use Rattle.std.specs.Prelude.{ℕ, ◌≡◌, ◌+◌, List, [], ◌∷◌, ◌++◌, Option, length}
use Rattle.mcs_types.specs.declared.id.ObjId.{ObjId}
use Rattle.mcs_book.specs.Logs.{Log}
use Rattle.mcs_book.specs.Picking.{IsPick}
use Rattle.mcs_book.specs.History.{Line, past}

-- these are the picks of the cores from the number i on, where no thread is passed over
abbrev pub ArePicksFrom : Log → ℕ → List (Option ObjId) → Type 0
ArePicksFrom R i [] = Unit {0}
ArePicksFrom R i (p ∷ ps) = IsPick R (record { 0 = i }) [] p × ArePicksFrom R (i + 1) ps

-- a list with a row more: the picks of the cores below the number n
pub record AddsPicks (R : Log) (n : ℕ) (old new : List (Option ObjId)) : Type 0 where
  pub row : List (Option ObjId)
  pub added : new ≡ old ++ row
  pub count : length row ≡ n
  pub picks : ArePicksFrom R 0 row

-- the rows after the boot and after each of these lines, the newest of which is first, of this many
-- cores
abbrev pub ArePicks : ℕ → Log → List Line → List (Option ObjId) → Type 0
ArePicks cores B [] ps = AddsPicks B cores [] ps
ArePicks cores B (l ∷ ls) ps = (old : List (Option ObjId)) × ArePicks cores B ls old × AddsPicks (past B (l ∷ ls)) cores old ps

-- the rows after all but the last of these lines
abbrev pub ArePicksBefore : ℕ → Log → List Line → List (Option ObjId) → Type 0
ArePicksBefore cores B [] ps = ⊥
ArePicksBefore cores B (l ∷ ls) ps = ArePicks cores B ls ps
