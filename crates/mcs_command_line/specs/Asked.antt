-- What the words of a command line ask for.
use Rattle.std.specs.Prelude.{◌≡◌, ◌≢◌, ◌⊎◌, ◌≤◌, ℕ, Bool, true, false, List, [], ◌∷◌, ◌++◌, ⊤, Option, Some, None, Result}
use Rattle.std.specs.Prelude.{MatchResult, codes, if◌then◌else◌, option_map}
use Rattle.std.specs.Str.{bytes_eq, chars}
use Rattle.std.specs.Str.Parse.{IsNumeral, ParsesUnsigned, digits_value, starts_with_minus, without_leading_plus}
use Rattle.clap.specs.declared.error.Error.{Error}
use Rattle.std.specs.declared.num.ParseIntError.{ParseIntError}
use Rattle.clap.specs.Words.{ReadsOne, Row, Text, first_of, one_of}
use Rattle.mcs_types.specs.Limits.{core_limit}
use Rattle.mcs_command_line.specs.CommandLine.{IsMemory}
use Rattle.mcs_command_line.specs.declared.choice.Options.{Options}
use Rattle.mcs_command_line.specs.declared.choice.Task.{Task}
use Rattle.mcs_command_line.specs.declared.choice.Task.TheVariants.{Replay, Run}

-- ---- what is asked for

-- what is done, the file that is read, and whether a fault is explained
pub record Choice : Type 0 where
  pub task : Task
  pub file : Option Text
  pub explain : Bool

abbrev pub choice_of : Options → Choice
choice_of o = record { task = o.task; file = option_map (λ f. f.now) o.file; explain = o.explain }

-- a command alone
abbrev pub replays : Choice
replays = record { task = Replay; file = None; explain = false }

abbrev pub runs : Option ℕ → Choice
runs cores = record { task = Run cores; file = None; explain = false }

-- the same with this said
abbrev pub on_cores : ℕ → Choice → Choice
on_cores n c = record c { task = Run (Some n) }

abbrev pub of_file : Text → Choice → Choice
of_file name c = record c { file = Some name }

abbrev pub explained : Choice → Choice
explained c = record c { explain = true }

-- the file that a word names, if there is one: `-` is the standard input
abbrev pub named : Option Text → Option Text
named None = None
named (Some word) = if bytes_eq word (codes "-") then None else Some word

-- what is meant by what the words say
abbrev pub meant : Choice → Choice
meant c = record c { file = named c.file }

-- ---- the words

-- no word follows, or only the one that says that no option follows
abbrev pub IsEnd : List Text → Type 0
IsEnd rest = (rest ≡ []) ⊎ (rest ≡ codes "--" ∷ [])

-- a machine may have this many cores
abbrev pub IsCoreCount : ℕ → Type 0
IsCoreCount n = (1 ≤ n) × (n ≤ core_limit)

-- the text is n in decimal, perhaps after a plus sign or zeros
abbrev pub Writes : Text → ℕ → Type 0
Writes text n = IsNumeral 10 (without_leading_plus text) × (digits_value 10 (without_leading_plus text) ≡ n)

-- the words begin with the option `--cores` and its text, as two words or as one
abbrev pub GivesCores : List Text → Text → List Text → Type 0
GivesCores words text rest = (words ≡ codes "--cores" ∷ text ∷ rest) ⊎ (words ≡ (codes "--cores=" ++ text) ∷ rest)

-- a word that is no option begins with no hyphen, or no character follows that
abbrev pub IsFile : Text → Type 0
IsFile word = (starts_with_minus word ≡ false) ⊎ ((rest : Text) × (word ≡ 45 ∷ rest) × (chars rest ≡ []))

-- the words say this, after what was said before them: each thing at most once, in any order
pub data Says : Choice → List Text → Choice → Type 0 where
  ends : {c : Choice} {words : List Text} → IsEnd words → Says c words c
  ends_with : {c : Choice} {words : List Text} (name : Text) → words ≡ codes "--" ∷ name ∷ [] → c.file ≡ None
      → Says c words (of_file name c)
  names : {c said : Choice} {words : List Text} (name : Text) (rest : List Text) → words ≡ name ∷ rest → IsFile name
      → c.file ≡ None → Says (of_file name c) rest said → Says c words said
  explains : {c said : Choice} {words : List Text} (rest : List Text) → words ≡ codes "--explain" ∷ rest
      → c.explain ≡ false → Says (explained c) rest said → Says c words said
  counts : {c said : Choice} {words : List Text} (text : Text) (rest : List Text) (n : ℕ) → GivesCores words text rest
      → Writes text n → IsCoreCount n → c.task ≡ Run None → Says (on_cores n c) rest said → Says c words said

-- the words are the program's name, this command and the rest
abbrev pub Names : List Text → Text → List Text → Type 0
Names words command rest = (name : Text) × (words ≡ name ∷ command ∷ rest)

-- the two commands, with nothing said yet
abbrev pub command : Bool → Text
command true = codes "run"
command false = codes "replay"

abbrev pub nothing_said : Bool → Choice
nothing_said true = runs None
nothing_said false = replays

-- the words ask for this
abbrev pub Asks : List Text → Choice → Type 0
Asks words choice = (is_run : Bool) × (rest : List Text) × (said : Choice) × Names words (command is_run) rest
    × Says (nothing_said is_run) rest said × (choice ≡ meant said)

-- ---- what a parse found

-- the value of the option `--cores` reads as this number, and if there is no value there is no
-- number
abbrev pub ReadsCores : Option Text → Option ℕ → Type 0
ReadsCores None cores = cores ≡ None
ReadsCores (Some text) cores = ReadsOne {T = ℕ} {E = ParseIntError} (ParsesUnsigned 8 10) text cores

-- the command and the values that a parse found are those of this task
abbrev pub IsTask : Text → List Row → Task → Type 0
IsTask name rows Replay = name ≢ codes "run"
IsTask name rows (Run cores) = (name ≡ codes "run") × ReadsCores (one_of (codes "cores") rows) cores

-- the value of a flag
abbrev pub ReadsFlag : Option Text → Bool → Type 0
ReadsFlag value flag = (value ≡ None → flag ≡ false) × (value ≡ Some (codes "true") → flag ≡ true)
    × (value ≡ Some (codes "false") → flag ≡ false)

-- what a parse found is this choice
abbrev pub IsChosen : Option (Text × List Row) → Choice → Type 0
IsChosen None choice = choice ≡ replays
IsChosen (Some found) choice = IsTask found.0 found.1 choice.task
    × (choice.file ≡ named (first_of (codes "file") found.1))
    × ReadsFlag (one_of (codes "explain") found.1) choice.explain

-- this is asked for, or memory was refused
abbrev pub Gives : Choice → Result Options Error → Type 0
Gives choice result = MatchResult result (λ given. choice_of given ≡ choice) IsMemory

-- a number of cores is one that a machine may have
abbrev pub IsChoice : Task → Type 0
IsChoice (Run (Some n)) = IsCoreCount n
IsChoice _ = ⊤
