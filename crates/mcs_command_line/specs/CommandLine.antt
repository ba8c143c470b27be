-- The command line: the program's name, and then one of its commands.
use Rattle.std.specs.Prelude.{◌≡◌, ℕ, true, false, List, [], ◌∷◌, Some, map, codes, decimal, pos}
use Rattle.std.specs.Borrow.{Bor}
use Rattle.clap.specs.declared.builder.action.ArgAction.TheVariants.{SetTrue}
use Rattle.clap.specs.declared.error.Error.{Error}
use Rattle.clap.specs.declared.error.kind.ErrorKind.TheVariants as kind
use Rattle.clap.specs.declared.builder.value_parser.ValueParser.TheVariants as value
use Rattle.clap.specs.Words.{App, HasKind, Rule, kind_of, new_app, new_rule, with_rule, with_subcommand}
use Rattle.clap.specs.declared.builder.Command.{Command}
use Rattle.clap.specs.declared.builder.Command.TheViews.{out-Command}
use Rattle.mcs_types.specs.Limits.{core_limit}

-- the option that says how many cores there are, from 1 on
abbrev pub cores_option : Rule
cores_option = record (new_rule (codes "cores")) {
  long = Some (codes "cores");
  value_names = 1;
  parser = Some (value.Signed (pos 1) (pos core_limit));
}

-- the option to explain a fault
abbrev pub explain_option : Rule
explain_option = record (new_rule (codes "explain")) { long = Some (codes "explain"); action = Some SetTrue }

-- the file that is read: a word alone
abbrev pub file_argument : Rule
file_argument = record (new_rule (codes "file")) { value_names = 1 }

-- the command that takes the steps of a script one after the other
abbrev pub replay_line : App
replay_line = with_rule (with_rule (new_app (codes "replay")) explain_option) file_argument

-- the command that runs the users of a script
abbrev pub run_line : App
run_line = with_rule (with_rule (with_rule (new_app (codes "run")) cores_option) explain_option) file_argument

-- a command line that has to name a command
abbrev pub with_command_required : App → App
with_command_required a = record a { top = record a.top { subcommand_required = true } }

-- a command line with an option for its version
abbrev pub with_version : App → App
with_version a = record a { top = record a.top { has_version = true } }

-- the command line of the program
abbrev pub mcssim_line : App
mcssim_line = with_subcommand (with_subcommand (with_command_required (with_version (new_app (codes "mcssim"))))
    replay_line.top) run_line.top

-- the words are the program's name and this one
abbrev pub AsksFor : List (Bor (List ℕ)) → List ℕ → Type 0
AsksFor words word = (name : List ℕ) × (map (λ w. w.now) words ≡ name ∷ word ∷ [])

-- the words are the program's name and `run --cores` with this number in decimal
abbrev pub AsksForCores : List (Bor (List ℕ)) → ℕ → Type 0
AsksForCores words n = (name : List ℕ) × (map (λ w. w.now) words ≡ name ∷ codes "run" ∷ codes "--cores" ∷ decimal n ∷ [])

-- the words are the program's name, `replay` and this one
abbrev pub AsksForFile : List (Bor (List ℕ)) → List ℕ → Type 0
AsksForFile words file = (name : List ℕ) × (map (λ w. w.now) words ≡ name ∷ codes "replay" ∷ file ∷ [])

-- no argument of the command is one of its subcommands' too
abbrev pub IsLocal : Command → Type 0
IsLocal c = (out-Command c).has_globals ≡ false

-- memory was refused
abbrev pub IsMemory : Error → Type 0
IsMemory e = kind_of e ≡ kind.OutOfMemory

-- the version, or memory was refused
abbrev pub IsVersion : Error → Type 0
IsVersion e = HasKind (kind.DisplayVersion ∷ []) e
