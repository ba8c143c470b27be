-- What the lines of a core are: those of the book in their order, of which none of that core is
-- left out.
use Rattle.std.specs.Prelude.{ℕ, ◌<◌, ◌≡◌, ◌≢◌, ◌⊎◌, List, [], ◌∷◌}
use Rattle.mcs_types.specs.declared.id.CoreId.{CoreId}
use Rattle.mcs_book.specs.Logs.{Log}
use Rattle.mcs_book.specs.History.{Line, Book, of_core}

-- each of a list of lines is of this core
abbrev pub AreOfCore : CoreId → List Line → Type 0
AreOfCore core [] = Unit {0}
AreOfCore core (l ∷ ls) = (l.step.core ≡ core) × AreOfCore core ls

-- each of a list of lines is of another core
abbrev pub AreOfOthers : CoreId → List Line → Type 0
AreOfOthers core [] = Unit {0}
AreOfOthers core (l ∷ ls) = (l.step.core ≢ core) × AreOfOthers core ls

-- two lists, put together with the order of each kept
abbrev pub AreMerged : List Line → List Line → List Line → Type 0
AreMerged [] [] [] = Unit {0}
AreMerged (a ∷ ms) [] (l ∷ ls) = (a ≡ l) × AreMerged ms [] ls
AreMerged [] (b ∷ ns) (l ∷ ls) = (b ≡ l) × AreMerged [] ns ls
AreMerged (a ∷ ms) (b ∷ ns) (l ∷ ls) = ((a ≡ l) × AreMerged ms (b ∷ ns) ls) ⊎ ((b ≡ l) × AreMerged (a ∷ ms) ns ls)
AreMerged _ _ _ = ⊥

-- the lines of a core and those of the others together are the book's lines after the boot, each in
-- its order
pub record HasLinesOf (b : Book) (core : CoreId) : Type 0 where
  pub own : AreOfCore core (of_core b core)
  pub others : List Line
  pub of_others : AreOfOthers core others
  pub merged : AreMerged (of_core b core) others b.lines

-- a line is one of these
abbrev pub IsLineOf : Line → List Line → Type 0
IsLineOf l [] = ⊥
IsLineOf l (k ∷ ls) = (l ≡ k) ⊎ IsLineOf l ls

-- the core of a line is one of the first n
abbrev pub IsOfFirst : ℕ → Log → Line → Type 0
IsOfFirst n R l = l.step.core.0 < n
