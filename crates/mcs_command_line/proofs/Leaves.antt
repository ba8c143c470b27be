-- The words after a command: how the faults of one word and of those after it compose.
use Rattle.std.proofs.Common.{◌≡◌, ℕ, Bool, true, false, List, [], ◌∷◌}
use Rattle.std.specs.Prelude.{Option, Some, None, fold}
use Rattle.std.specs.List.{slice_index_or}
use Rattle.clap.specs.Kinds.{Kinds, or_else}
use Rattle.clap.specs.Simple.{App, Shape, built}
use Rattle.clap.specs.Walk.{Held, Rule, Text, Waiting, Walk, finished, settled, walked}
use Rattle.clap.specs.Faults.{check_fault, defaults_fault, settle_fault, turn_fault, walk_fault}
use Rattle.mcs_command_line.specs.CommandLine.{mcssim_line}
use Rattle.mcs_command_line.proofs.Refusals.{or_else-both}

-- the command line with what a parse adds to it, and its two commands: `run` is the one at true
abbrev pub line : App
line = built mcssim_line

abbrev pub shape : Bool → Shape
shape true = slice_index_or line.subs 1 line.top
shape false = slice_index_or line.subs 0 line.top

abbrev pub rules : Bool → List Rule
rules is_run = (shape is_run).rules

-- the place of the next word alone, by the file that was named
abbrev pub place : Option Text → ℕ
place None = 1
place (Some name) = 2

-- between two words, before any `--` and after one
abbrev pub standing : Held → Waiting → Option Text → Bool → Walk
standing h waiting file trails =
    record { held = h; waiting = waiting; position = place file; is_trailing = trails; stopped = None }

abbrev pub between : Held → Waiting → Option Text → Walk
between h waiting file = standing h waiting file false

abbrev pub ended : Held → Waiting → Option Text → Walk
ended h waiting file = standing h waiting file true

-- what fails at the end of the words
abbrev pub last_fault : Shape → Held → Kinds
last_fault s h = or_else (defaults_fault (settled s.rules h).rows s.rules) (check_fault s (finished s.rules h) false)

abbrev pub end_fault : Shape → Held → Kinds
end_fault s h = or_else (settle_fault s.rules s.args_override_self h) (last_fault s h)

-- what fails from there on
abbrev pub fault_from : Shape → Walk → List Text → Kinds
fault_from s w words = or_else (walk_fault s [] w words) (end_fault s (fold (walked s.rules []) w words).held)

pub fault_from-nil : (s : Shape) (w : Walk) → fault_from s w [] ≡ [] → end_fault s w.held ≡ []
unfolding walk_fault
fault_from-nil s w e = e

-- where nothing fails, the next word does not, and what follows does not
pub fault_from-cons : (s : Shape) (w : Walk) (word : Text) (rest : List Text) → fault_from s w (word ∷ rest) ≡ []
    → (turn_fault s [] w word ≡ []) × (fault_from s (walked s.rules [] w word) rest ≡ [])
unfolding walk_fault
fault_from-cons s w word rest e =
    let after = walked s.rules [] w word in
    or_else-both (turn_fault s [] w word) (walk_fault s [] after rest) (end_fault s (fold (walked s.rules []) after rest).held) e
