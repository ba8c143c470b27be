-- What a parse finds of the words that say something.
use Rattle.std.proofs.Common.{refl, sym, subst, ap, true≢false, ◌≡◌, ◌∙◌, ◌||◌, arith, slice_index, codes, ℕ, Bool, true, false, List, [], ◌∷◌, ◌++◌, cond}
use Rattle.std.specs.Prelude.{Option, Some, None, fold, option_and_then, option_map, slice_get}
use Rattle.std.specs.Str.{bytes_eq}
use Rattle.clap.specs.Kinds.{or_else}
use Rattle.clap.specs.Simple.{entered, names_of, subcommand_of}
use Rattle.clap.specs.Walk.{Held, Row, Rule, Text, default_rows, finished, has_row, is_empty, more_values, one_of, reading_by, row_text, settled, walked, with_default}
use Rattle.clap.specs.Faults.{default_fault, defaults_fault, fault_of, given_default_fault, settle_fault, walk_fault}
use Rattle.clap.specs.declared.parser.matches.ValueSource.TheVariants.{DefaultValue}
use Rattle.clap.proofs.FaultLemmas.{past as passed}
use Rattle.clap.proofs.WalkLemmas.{walk_stopped}
use Rattle.mcs_command_line.specs.Asked.{Asks, Choice, IsChosen, IsTask, ReadsCores, ReadsFlag, Says, command, counts, ends, ends_with, explains, meant, named, names, nothing_said}
use Rattle.mcs_command_line.specs.CommandLine.{mcssim_line}
use Rattle.mcs_command_line.specs.declared.choice.Task.{Task}
use Rattle.mcs_command_line.specs.declared.choice.Task.TheVariants.{Replay, Run}
use Rattle.mcs_command_line.proofs.Leaves.{end_fault, fault_from, last_fault, line, rules, shape}
use Rattle.mcs_command_line.proofs.Line.{command_fault, holds_nothing, start}
use Rattle.mcs_command_line.proofs.Rows.{Holds, HoldsTask, explain_row, file_row, flag_row, none_has, other_row, row_at, unchanged, new_row}
use Rattle.mcs_command_line.proofs.Taken.{Ends, taken}
use Rattle.mcs_command_line.proofs.Texts.{no_minus, same_without_minus}
use Rattle.mcs_command_line.proofs.Told.{runs_task}
use Rattle.mcs_command_line.proofs.Turns.{cores, explain, file, help}

-- ---- nothing is left to fail after the words

-- an argument with no default, and one whose default is a value of it
no_default : (a : Rule) (rows : List Row) → is_empty a.defaults ≡ true → default_fault rows a ≡ []
no_default a rows none = go (has_row a.id rows) (is_empty a.defaults) none
  where
    go : (b e : Bool) → e ≡ true → cond (b || e) [] (given_default_fault a a.defaults) ≡ []
    go true e is = refl
    go false e is = rw is refl

good_default : (a : Rule) (rows : List Row) → given_default_fault a a.defaults ≡ [] → default_fault rows a ≡ []
good_default a rows good = go (has_row a.id rows || is_empty a.defaults)
  where
    go : (b : Bool) → cond b [] (given_default_fault a a.defaults) ≡ []
    go true = refl
    go false = good

more_defaults : (rows : List Row) (a : Rule) (rest : List Rule) → default_fault rows a ≡ []
    → ((rs : List Row) → defaults_fault rs rest ≡ []) → defaults_fault rows (a ∷ rest) ≡ []
unfolding defaults_fault
more_defaults rows a rest passes more =
    passed (default_fault rows a) (defaults_fault (with_default rows a) rest) passes ∙ more (with_default rows a)

no_defaults : (rows : List Row) → defaults_fault rows [] ≡ []
unfolding defaults_fault
no_defaults rows = refl

shared_defaults : (rows : List Row) → defaults_fault rows (rules false) ≡ []
shared_defaults rows = more_defaults rows explain (file ∷ help ∷ []) (good_default explain rows refl)
    (λ one. more_defaults one file (help ∷ []) (no_default file one refl)
    (λ two. more_defaults two help [] (no_default help two refl) no_defaults))

all_defaults : (is_run : Bool) (rows : List Row) → defaults_fault rows (rules is_run) ≡ []
all_defaults true rows = more_defaults rows cores (rules false) (no_default cores rows refl) shared_defaults
all_defaults false rows = shared_defaults rows

last_passes : (is_run : Bool) (h : Held) → last_fault (shape is_run) h ≡ []
last_passes true h = passed (defaults_fault (settled (rules true) h).rows (rules true)) _ (all_defaults true (settled (rules true) h).rows)
last_passes false h = passed (defaults_fault (settled (rules false) h).rows (rules false)) _ (all_defaults false (settled (rules false) h).rows)

end_passes : (is_run : Bool) (h : Held) → settle_fault (rules is_run) false h ≡ [] → end_fault (shape is_run) h ≡ []
end_passes true h settles = passed (settle_fault (rules true) false h) (last_fault (shape true) h) settles ∙ last_passes true h
end_passes false h settles = passed (settle_fault (rules false) false h) (last_fault (shape false) h) settles ∙ last_passes false h

-- ---- the rows at the end

kept_rows : (a : Rule) (rows : List Row) → a.defaults ≡ [] → with_default rows a ≡ rows
kept_rows a rows none = go (has_row a.id rows)
  where
    go : (b : Bool) → cond b rows (default_rows a.id (reading_by a) a.defaults rows) ≡ rows
    go true = refl
    go false = rw none refl

finished_is : (is_run : Bool) (h : Held) → finished (rules is_run) h ≡ with_default (settled (rules is_run) h).rows explain
finished_is true h =
    let rows = (settled (rules true) h).rows in
    kept_rows help (with_default (with_default (with_default rows cores) explain) file) refl
    ∙ kept_rows file (with_default (with_default rows cores) explain) refl
    ∙ ap (λ rs. with_default rs explain) (kept_rows cores rows refl)
finished_is false h =
    let rows = (settled (rules false) h).rows in
    kept_rows help (with_default (with_default rows explain) file) refl ∙ kept_rows file (with_default rows explain) refl

abbrev default_row : Row
default_row = record {
  id = codes "explain";
  values = codes "false" ∷ [];
  count = None;
  source = Some DefaultValue;
  reading = reading_by explain;
}

some_has : (id : Text) (rows : List Row) (r : Row) → row_at id rows ≡ Some r → has_row id rows ≡ true
some_has id [] r e = cc
some_has id (x ∷ rest) r e = go (bytes_eq x.id id) (some_has id rest r) e
  where
    go : (b : Bool) → (row_at id rest ≡ Some r → has_row id rest ≡ true) → cond b (Some x) (row_at id rest) ≡ Some r
        → (b || has_row id rest) ≡ true
    go true more e = refl
    go false more e = more e

-- the rows of a flag that was said, and of one that was not
last_rows : (b : Bool) (rows : List Row) → List Row
last_rows true rows = rows
last_rows false rows = rows ++ default_row ∷ []

defaulted : (b : Bool) (rows : List Row) → row_at (codes "explain") rows ≡ flag_row b → with_default rows explain ≡ last_rows b rows
unfolding last_rows
defaulted true rows is = rw (some_has (codes "explain") rows explain_row is) refl
defaulted false rows is = rw (none_has (codes "explain") rows is)
    (unchanged (codes "explain") (more_values DefaultValue (codes "false" ∷ [])) (default_row ∷ []) rows is)

abbrev last_flag : Bool → Row
last_flag true = explain_row
last_flag false = default_row

other_last : (b : Bool) (rows : List Row) (id : Text) → bytes_eq (codes "explain") id ≡ false
    → row_at id (last_rows b rows) ≡ row_at id rows
unfolding last_rows
other_last true rows id other = refl
other_last false rows id other = other_row id rows default_row other

flag_last : (b : Bool) (rows : List Row) → row_at (codes "explain") rows ≡ flag_row b
    → row_at (codes "explain") (last_rows b rows) ≡ Some (last_flag b)
unfolding last_rows
flag_last true rows is = is
flag_last false rows is = new_row (codes "explain") rows default_row refl is

-- ---- what is read of them

-- the number that is read is the one that the words say
read_number : (rows : List Row) (n : Option ℕ) (read : Option ℕ) → HoldsTask rows (Run n)
    → ReadsCores (one_of (codes "cores") rows) read → read ≡ n
read_number rows None read holds reads = subst (λ o. ReadsCores (option_and_then row_text o) read) holds reads
read_number rows (Some n) read holds reads = go read (subst (λ text. ReadsCores (Some text) read)
    (same_without_minus holds.0 (no_minus holds.0 n holds.2))
    (subst (λ o. ReadsCores (option_and_then row_text o) read) holds.1 reads))
  where
    go : (r : Option ℕ) → ReadsCores (Some holds.0) r → r ≡ Some n
    go (Some v) h = ap Some (h.1 ∙ holds.2.1)
    go None h = let small = holds.3.1 in absurd (h.1 (holds.2.0, omega arith))

read_flag : (b flag : Bool) → ReadsFlag (row_text (last_flag b)) flag → flag ≡ b
read_flag true flag reads = reads.1 refl
read_flag false flag reads = reads.2 refl

-- one command is not the other
other_command : codes "replay" ≡ codes "run" → ⊥
other_command e =
    let second : slice_index (codes "replay") 1 ≡ slice_index (codes "run") 1 = ap (λ (t : Text). slice_index t 1) e in
    absurd (omega arith)

read_task : (is_run : Bool) (rows : List Row) (said read : Task) → runs_task said ≡ is_run → HoldsTask rows said
    → IsTask (command is_run) rows read → read ≡ said
read_task true rows (Run n) (Run read) runs holds is = ap Run (read_number rows n read holds is.1)
read_task true rows (Run n) Replay runs holds is = absurd (is refl)
read_task true rows Replay read runs holds is = absurd (true≢false (sym runs))
read_task false rows Replay (Run read) runs holds is = absurd (other_command is.0)
read_task false rows Replay Replay runs holds is = refl
read_task false rows (Run n) read runs holds is = absurd (true≢false runs)

-- what is said keeps the command
said_runs : {c : Choice} {words : List Text} {said : Choice} → Says c words said → runs_task said.task ≡ runs_task c.task
said_runs (ends end) = refl
said_runs (ends_with name are none) = refl
said_runs (names name rest are is none more) = said_runs more
said_runs (explains rest are unsaid more) = said_runs more
said_runs (counts text rest n give writes count task more) = said_runs more ∙ sym (ap runs_task task)

same_task : (rows after : List Row) (t : Task) → row_at (codes "cores") after ≡ row_at (codes "cores") rows → HoldsTask rows t
    → HoldsTask after t
same_task rows after (Run (Some n)) same h = (h.0, same ∙ h.1, h.2, h.3)
same_task rows after (Run None) same h = same ∙ h
same_task rows after Replay same h = same ∙ h

first_file : (f : Option Text) → option_and_then (λ (r : Row). slice_get r.values 0) (option_map file_row f) ≡ f
first_file None = refl
first_file (Some name) = refl

-- a choice by the rows at the end is what was said
found_said : (is_run : Bool) (rows : List Row) (said read : Choice) → runs_task said.task ≡ is_run → Holds rows said
    → IsChosen (Some (command is_run, with_default rows explain)) read → read ≡ meant said
found_said is_run rows said read runs holds is =
    let after = last_rows said.explain rows in
    let chosen = subst (λ rs. IsChosen (Some (command is_run, rs)) read) (defaulted said.explain rows holds.explain) is in
    let cores_same = other_last said.explain rows (codes "cores") refl in
    let task = read_task is_run after said.task read.task runs (same_task rows after said.task cores_same holds.task) chosen.0 in
    let file_is = other_last said.explain rows (codes "file") refl ∙ holds.file in
    let file_read = chosen.1 ∙ ap named (ap (option_and_then (λ (r : Row). slice_get r.values 0)) file_is ∙ first_file said.file) in
    let flag_is = flag_last said.explain rows holds.explain in
    let flag = read_flag said.explain read.explain
    (subst (λ o. ReadsFlag (option_and_then row_text o) read.explain) flag_is chosen.2) in
    λ i. record { task = task i; file = file_read i; explain = flag i }

-- ---- the words that ask for something

-- the words after a command, which say something
said_ends : (is_run : Bool) (rest : List Text) (said : Choice) → Says (nothing_said is_run) rest said → Ends is_run start rest said
said_ends true rest said says = taken says true [] None refl refl (holds_nothing true)
said_ends false rest said says = taken says false [] None refl refl (holds_nothing false)

nothing_fails : (is_run : Bool) (rest : List Text) (said : Choice) → Ends is_run start rest said
    → fault_from (shape is_run) start rest ≡ []
nothing_fails is_run rest said end =
    passed (walk_fault (shape is_run) [] start rest) (end_fault (shape is_run) (fold (walked (rules is_run) []) start rest).held) end.0
    ∙ end_passes is_run (fold (walked (rules is_run) []) start rest).held end.1

-- words that ask for something are not refused
pub no_fault : (words : List Text) (choice : Choice) → Asks words choice → fault_of mcssim_line words ≡ []
no_fault words choice asked =
    let is_run = asked.0 in
    let rest = asked.1 in
    let name = asked.3.0 in
    ap (fault_of mcssim_line) asked.3.1 ∙ command_fault is_run name rest
    ∙ ap (λ k. or_else k []) (nothing_fails is_run rest asked.2 (said_ends is_run rest asked.2 asked.4))

-- what a parse finds where the words name a command, and these follow
abbrev found_at : Bool → List Text → Option (Text × List Row)
found_at is_run rest = Some (command is_run, finished (rules is_run) (fold (walked (rules is_run) []) start rest).held)

command_found : (is_run : Bool) (name : Text) (rest : List Text)
    → subcommand_of mcssim_line (name ∷ command is_run ∷ rest) ≡ found_at is_run rest
unfolding walked
command_found true name rest =
    ap (λ w. entered line w.stopped) (sym (walk_stopped line.top.rules (names_of line) start (codes "run") [] rest))
command_found false name rest =
    ap (λ w. entered line w.stopped) (sym (walk_stopped line.top.rules (names_of line) start (codes "replay") [] rest))

said_start : (is_run : Bool) → runs_task (nothing_said is_run).task ≡ is_run
said_start true = refl
said_start false = refl

-- a choice by what was found is the one that the words ask for
pub chosen : (words : List Text) (choice read : Choice) → Asks words choice
    → IsChosen (subcommand_of mcssim_line words) read → read ≡ choice
chosen words choice read asked is =
    let is_run = asked.0 in
    let rest = asked.1 in
    let said = asked.2 in
    let end = (fold (walked (rules is_run) []) start rest).held in
    let found = subst (λ o. IsChosen o read) (ap (subcommand_of mcssim_line) asked.3.1 ∙ command_found is_run asked.3.0 rest) is in
    let rows = subst (λ rs. IsChosen (Some (command is_run, rs)) read) (finished_is is_run end) found in
    found_said is_run (settled (rules is_run) end).rows said read (said_runs asked.4 ∙ said_start is_run)
    (said_ends is_run rest said asked.4).2 rows ∙ sym asked.5
