-- The scripts that show runs (own).
use Rattle.std.specs.Prelude.{ℕ, zero, suc, ◌++◌, List, [], ◌∷◌, Option, Some, None, codes, length}
use Rattle.mcs_types.specs.declared.id.ObjId.{ObjId}
use Rattle.mcs_book.specs.History.{Book}
use Rattle.mcs_text.specs.Spelling.{name_text}
use Rattle.mcs_lab_check.specs.Naming.{Naming, given_at}
use Rattle.mcs_explore_script.specs.Steps.{script_text}

-- the line that gives an object its name
abbrev pub name_line : ObjId → List ℕ → List ℕ
name_line o name = codes "#@ " ++ name_text o ++ 32 ∷ name ++ 10 ∷ []

-- the line of a name that was given, if it is one
abbrev pub given_text : Option Naming → List ℕ
given_text None = []
given_text (Some g) = name_line g.object g.name

-- the lines of the names that objects have, among the first n that were given
abbrev pub names_below : List Naming → ℕ → List ℕ
names_below names zero = []
names_below names (suc n) = names_below names n ++ given_text (given_at names n)

-- the lines of all
abbrev pub names_text : List Naming → List ℕ
names_text names = names_below names (length names)

-- a comment, names, and the boot and the steps of a book
abbrev pub run_text : List ℕ → List Naming → Book → List ℕ
run_text comment names book = comment ++ names_text names ++ script_text book
