-- What the rows of a command hold of what was said, and what one more use of an argument does.
use Rattle.std.proofs.Common.{refl, sym, subst, ap, ◌≡◌, ◌∙◌, ◌||◌, ◌&&◌, codes, ℕ, Bool, true, false, List, [], ◌∷◌, ◌++◌, cond, append-nil}
use Rattle.std.specs.Prelude.{Option, Some, None, find, option_map}
use Rattle.std.specs.Str.{bytes_eq}
use Rattle.clap.specs.Kinds.{value_kinds}
use Rattle.clap.specs.ValueTests.{accepts}
use Rattle.clap.specs.Walk.{Row, Rule, Text, at_row, has_row, more_values, reading_by, used, with_values, without}
use Rattle.clap.specs.Faults.{repeat_fault, use_fault}
use Rattle.clap.specs.declared.error.kind.ErrorKind.TheVariants as kind
use Rattle.clap.specs.declared.parser.matches.ValueSource.TheVariants.{CommandLine}
use Rattle.mcs_command_line.specs.Asked.{Choice, IsCoreCount, Writes, explained, of_file, on_cores}
use Rattle.mcs_command_line.specs.declared.choice.Task.{Task}
use Rattle.mcs_command_line.specs.declared.choice.Task.TheVariants.{Replay, Run}
use Rattle.mcs_command_line.proofs.Refusals.{not_none, or_else-first, or_else-next}
use Rattle.mcs_command_line.proofs.Texts.{SaysCount, cores_parser, count_of}
use Rattle.mcs_command_line.proofs.Turns.{cores, explain, file}

-- ---- rows in general

abbrev pub row_at : Text → List Row → Option Row
row_at id rows = find (λ r. bytes_eq r.id id) rows

pub no_row : (id : Text) (rows : List Row) → has_row id rows ≡ false → row_at id rows ≡ None
no_row id [] e = refl
no_row id (r ∷ rest) e = go (bytes_eq r.id id) (no_row id rest) e
  where
    go : (b : Bool) → (has_row id rest ≡ false → row_at id rest ≡ None) → (b || has_row id rest) ≡ false
        → cond b (Some r) (row_at id rest) ≡ None
    go true more e = cc
    go false more e = more e

pub none_has : (id : Text) (rows : List Row) → row_at id rows ≡ None → has_row id rows ≡ false
none_has id [] e = refl
none_has id (r ∷ rest) e = go (bytes_eq r.id id) (none_has id rest) e
  where
    go : (b : Bool) → (row_at id rest ≡ None → has_row id rest ≡ false) → cond b (Some r) (row_at id rest) ≡ None
        → (b || has_row id rest) ≡ false
    go true more e = cc
    go false more e = more e

-- one more row
pub other_row : (id : Text) (rows : List Row) (new : Row) → bytes_eq new.id id ≡ false → row_at id (rows ++ new ∷ []) ≡ row_at id rows
other_row id [] new e = rw e refl
other_row id (r ∷ rest) new e = ap (λ o. cond (bytes_eq r.id id) (Some r) o) (other_row id rest new e)

pub new_row : (id : Text) (rows : List Row) (new : Row) → bytes_eq new.id id ≡ true → row_at id rows ≡ None
    → row_at id (rows ++ new ∷ []) ≡ Some new
new_row id [] new e none = rw e refl
new_row id (r ∷ rest) new e none = go (bytes_eq r.id id) (new_row id rest new e) none
  where
    go : (b : Bool) → (row_at id rest ≡ None → row_at id (rest ++ new ∷ []) ≡ Some new) → cond b (Some r) (row_at id rest) ≡ None
        → cond b (Some r) (row_at id (rest ++ new ∷ [])) ≡ Some new
    go true more e = cc
    go false more e = more e

-- a change of a row that is not there adds what is missing
pub unchanged : (id : Text) (change : Row → List Row) (missing rows : List Row) → row_at id rows ≡ None
    → at_row id change missing rows ≡ rows ++ missing
unchanged id change missing [] none = refl
unchanged id change missing (r ∷ rest) none = go (bytes_eq r.id id) (unchanged id change missing rest) none
  where
    go : (b : Bool) → (row_at id rest ≡ None → at_row id change missing rest ≡ rest ++ missing)
        → cond b (Some r) (row_at id rest) ≡ None
        → cond b (change r ++ rest) (r ∷ at_row id change missing rest) ≡ r ∷ (rest ++ missing)
    go true more e = cc
    go false more e = ap (λ rows. r ∷ rows) (more e)

-- ---- the rows of the arguments

abbrev pub row_of : Rule → List Text → Row
row_of a values = record { id = a.id; values = values; count = None; source = Some CommandLine; reading = reading_by a }

abbrev pub cores_row : Text → Row
cores_row text = row_of cores (text ∷ [])

abbrev pub file_row : Text → Row
file_row name = row_of file (name ∷ [])

abbrev pub explain_row : Row
explain_row = row_of explain (codes "true" ∷ [])

-- a first use adds a row
first_use : (a : Rule) (values : List Text) (rows : List Row) → row_at a.id rows ≡ None
    → with_values a.id (reading_by a) CommandLine values (without a.id rows) ≡ rows ++ row_of a values ∷ []
first_use a values rows none =
    let same : without a.id rows ≡ rows = unchanged a.id (λ _. []) [] rows none ∙ append-nil rows in
    ap (with_values a.id (reading_by a) CommandLine values) same
    ∙ unchanged a.id (more_values CommandLine values) (row_of a values ∷ []) rows none

pub cores_used : (text : Text) (rows : List Row) → row_at (codes "cores") rows ≡ None
    → used cores (text ∷ []) rows ≡ rows ++ cores_row text ∷ []
cores_used text rows none = first_use cores (text ∷ []) rows none

pub file_used : (name : Text) (rows : List Row) → row_at (codes "file") rows ≡ None
    → used file (name ∷ []) rows ≡ rows ++ file_row name ∷ []
file_used name rows none = first_use file (name ∷ []) rows none

pub explain_used : (rows : List Row) → row_at (codes "explain") rows ≡ None → used explain [] rows ≡ rows ++ explain_row ∷ []
explain_used rows none = first_use explain (codes "true" ∷ []) rows none

-- ---- what the rows hold

-- the rows hold this number of cores
abbrev pub HoldsTask : List Row → Task → Type 0
HoldsTask rows (Run (Some n)) = (text : Text) × (row_at (codes "cores") rows ≡ Some (cores_row text)) × Writes text n × IsCoreCount n
HoldsTask rows _ = row_at (codes "cores") rows ≡ None

abbrev pub flag_row : Bool → Option Row
flag_row true = Some explain_row
flag_row false = None

-- the rows hold what was said
pub record Holds (rows : List Row) (c : Choice) : Type 0 where
  pub task : HoldsTask rows c.task
  pub file : row_at (codes "file") rows ≡ option_map file_row c.file
  pub explain : row_at (codes "explain") rows ≡ flag_row c.explain

-- another row leaves the cores as they are
task_kept : (rows : List Row) (new : Row) (t : Task) → bytes_eq new.id (codes "cores") ≡ false → HoldsTask rows t
    → HoldsTask (rows ++ new ∷ []) t
task_kept rows new (Run (Some n)) e h = (h.0, other_row (codes "cores") rows new e ∙ h.1, h.2, h.3)
task_kept rows new (Run None) e h = other_row (codes "cores") rows new e ∙ h
task_kept rows new Replay e h = other_row (codes "cores") rows new e ∙ h

-- nothing is said of the cores where the task says nothing
pub no_cores : (rows : List Row) (t : Task) → t ≡ Run None → HoldsTask rows t → row_at (codes "cores") rows ≡ None
no_cores rows t is h = subst (HoldsTask rows) is h

pub holds_cores : (rows : List Row) (c : Choice) (text : Text) (n : ℕ) → Holds rows c → c.task ≡ Run None → Writes text n
    → IsCoreCount n → Holds (used cores (text ∷ []) rows) (on_cores n c)
holds_cores rows c text n h is writes count =
    let none = no_cores rows c.task is h.task in
    subst (λ rs. Holds rs (on_cores n c)) (sym (cores_used text rows none)) (record {
      task = (text, new_row (codes "cores") rows (cores_row text) refl none, writes, count);
      file = other_row (codes "file") rows (cores_row text) refl ∙ h.file;
      explain = other_row (codes "explain") rows (cores_row text) refl ∙ h.explain;
    })

pub holds_file : (rows : List Row) (c : Choice) (name : Text) → Holds rows c → c.file ≡ None
    → Holds (used file (name ∷ []) rows) (of_file name c)
holds_file rows c name h is =
    let none : row_at (codes "file") rows ≡ None = h.file ∙ ap (option_map file_row) is in
    subst (λ rs. Holds rs (of_file name c)) (sym (file_used name rows none)) (record {
      task = task_kept rows (file_row name) c.task refl h.task;
      file = new_row (codes "file") rows (file_row name) refl none;
      explain = other_row (codes "explain") rows (file_row name) refl ∙ h.explain;
    })

pub holds_explain : (rows : List Row) (c : Choice) → Holds rows c → c.explain ≡ false → Holds (used explain [] rows) (explained c)
holds_explain rows c h is =
    let none : row_at (codes "explain") rows ≡ None = h.explain ∙ ap flag_row is in
    subst (λ rs. Holds rs (explained c)) (sym (explain_used rows none)) (record {
      task = task_kept rows explain_row c.task refl h.task;
      file = other_row (codes "file") rows explain_row refl ∙ h.file;
      explain = new_row (codes "explain") rows explain_row refl none;
    })

-- ---- when a use fails

unrepeated : (id : Text) (rows : List Row) → repeat_fault false id rows ≡ [] → row_at id rows ≡ None
unrepeated id rows e = no_row id rows (go (has_row id rows) e)
  where
    go : (b : Bool) → cond (b && true) (kind.ArgumentConflict ∷ []) [] ≡ [] → b ≡ false
    go true e = absurd (not_none _ _ e)
    go false e = refl

-- a value that is not refused is a number of cores
counted : (text : Text) → value_kinds false cores_parser text ≡ [] → SaysCount text
counted text e = go (accepts false cores_parser text) refl e
  where
    go : (b : Bool) → accepts false cores_parser text ≡ b → cond b [] (kind.ValueValidation ∷ []) ≡ []
        → SaysCount text
    go true is e = count_of text is
    go false is e = absurd (not_none _ _ e)

pub cores_pass : (text : Text) (rows : List Row) → use_fault false cores (text ∷ []) rows ≡ []
    → (row_at (codes "cores") rows ≡ None) × SaysCount text
cores_pass text rows e = (
  unrepeated (codes "cores") rows (or_else-first (repeat_fault false (codes "cores") rows) _ e),
  counted text (or_else-first (value_kinds false cores_parser text) []
      (or_else-next (repeat_fault false (codes "cores") rows) _ e)),
)

pub explain_pass : (rows : List Row) → use_fault false explain [] rows ≡ [] → row_at (codes "explain") rows ≡ None
explain_pass rows e = unrepeated (codes "explain") rows (or_else-first (repeat_fault false (codes "explain") rows) _ e)

-- and when it does not
pub cores_taken : (text : Text) (rows : List Row) → row_at (codes "cores") rows ≡ None → accepts false cores_parser text ≡ true
    → use_fault false cores (text ∷ []) rows ≡ []
cores_taken text rows none accepted = rw (none_has (codes "cores") rows none, accepted) refl

pub file_taken : (name : Text) (rows : List Row) → row_at (codes "file") rows ≡ None → use_fault false file (name ∷ []) rows ≡ []
file_taken name rows none = rw (none_has (codes "file") rows none) refl

pub explain_taken : (rows : List Row) → row_at (codes "explain") rows ≡ None → use_fault false explain [] rows ≡ []
explain_taken rows none = rw (none_has (codes "explain") rows none) refl

-- what is said once more is refused
pub task_open : (rows : List Row) (t : Task) → (t ≡ Replay → ⊥) → row_at (codes "cores") rows ≡ None → HoldsTask rows t → t ≡ Run None
task_open rows Replay run none h = absurd (run refl)
task_open rows (Run None) run none h = refl
task_open rows (Run (Some n)) run none h = let both : Some (cores_row h.0) ≡ None = sym h.1 ∙ none in cc

pub explain_open : (b : Bool) (rows : List Row) → row_at (codes "explain") rows ≡ None → row_at (codes "explain") rows ≡ flag_row b
    → b ≡ false
explain_open true rows none is = let both : Some explain_row ≡ None = sym is ∙ none in cc
explain_open false rows none is = refl
