-- What a script says: its boot and the items after it, up to the first faulty line. The items are
-- steps, or entries of users.
use Rattle.std.specs.Prelude.{◌≡◌, ℕ, ◌+◌, Bool, true, List, [], ◌∷◌, ◌++◌, length, Option, Some, None, Result, Ok, Err, nat_lt, not, ◌==◌, ◌||◌, if◌then◌else◌}
use Rattle.mcs_types.specs.declared.id.Kind.TheVariants as kind
use Rattle.mcs_types.specs.declared.entry.Step.{Step}
use Rattle.mcs_types.specs.declared.boot.BootFault.{BootFault}
use Rattle.mcs_types.specs.declared.boot.BootFault.TheVariants as why
use Rattle.mcs_book.specs.Logs.{counted}
use Rattle.mcs_book.specs.Objects.{makes_kind}
use Rattle.mcs_book.specs.Boots.{Boot, boot_log}
use Rattle.mcs_text.specs.declared.fault.LineFault.{LineFault}
use Rattle.mcs_text.specs.declared.fault.LineFault.TheVariants as fault
use Rattle.mcs_text.specs.declared.key.Key.{Key}
use Rattle.mcs_text.specs.declared.key.Key.TheVariants as k
use Rattle.mcs_text.specs.declared.boot.RawBootLine.{RawBootLine}
use Rattle.mcs_text.specs.declared.boot.RawBootLine.TheVariants as raw
use Rattle.mcs_text.specs.Keys.{boot_key}
use Rattle.mcs_text.specs.declared.steps.UserEntry.{UserEntry}
use Rattle.mcs_text.specs.Reading.{◌>>=◌, lines_of, words_of, step_of, user_of}
use Rattle.mcs_text.specs.BootLines.{raw_line}
use Rattle.mcs_phases.specs.declared.script.ScriptFault.{ScriptFault}
use Rattle.mcs_phases.specs.declared.script.ScriptFault.TheVariants as not_taken
use Rattle.mcs_phases.specs.BootLines.{line_fault, cores_of, fitted, with_line}

-- the fault of a boot that refuses a line
abbrev pub script_fault_of : BootFault → ScriptFault
script_fault_of why.OutOfMemory = not_taken.OutOfMemory
script_fault_of f = not_taken.Line (line_fault f)

-- what a reader of lines returned, seen by view, is what reading gives, where memory was there
abbrev pub Reads : {X Y : Type 0} → (X → Y) → Result X ScriptFault → Result Y LineFault → Type 0
Reads view (Ok x) read = read ≡ Ok (view x)
Reads view (Err (not_taken.Line e)) read = read ≡ Err e
Reads view (Err not_taken.OutOfMemory) read = Unit {0}

-- how a script is read: the number of cores that it has to say, where that is given, and the item
-- that a line after the boot spells, where this many cores and threads are there
pub record Grammar (T : Type 0) : Type 0 where
  pub cores : Option ℕ
  pub item : ℕ → ℕ → List ℕ → Result T LineFault

-- the boot, once the number of cores was said, and the items in order
pub record Script (T : Type 0) : Type 0 where
  pub boot : Option Boot
  pub items : List T

-- a script of no line
abbrev pub no_script : {T : Type 0} → Script T
no_script = record { boot = None; items = [] }

-- the number of cores, where it is the one that was asked for
abbrev pub asked_cores : Option ℕ → ℕ → Result ℕ LineFault
asked_cores None n = Ok n
asked_cores (Some asked) n = if n == asked then Ok n else Err fault.Number

-- the boot of a first line
abbrev pub boot_in : Option ℕ → RawBootLine → Result Boot LineFault
boot_in asked (raw.Cores n) = cores_of n >>= λ cores. asked_cores asked cores >>= λ cores. Ok (record { cores = cores; lines = [] })
boot_in asked _ = Err fault.Form

-- the boot that a first line begins: the words after its first, by its key
unfoldable pub first_boot : Option ℕ → Option Key → List (List ℕ) → Result Boot LineFault
first_boot asked (Some k.Cores) ws = raw_line k.Cores ws >>= boot_in asked
first_boot asked _ ws = Err fault.NoCores

-- how many threads a boot makes
abbrev pub threads_of : Boot → ℕ
threads_of b = counted (makes_kind kind.Thread) (boot_log b.lines)

-- a boot with the line that these words spell after the key
unfoldable pub next_boot : Boot → Key → List (List ℕ) → Result Boot LineFault
next_boot b key ws = do
  spelled ← raw_line key ws
  line ← fitted (boot_log b.lines) spelled
  with_line b line

-- the items with the one that a line spells
unfoldable pub next_items : {T : Type 0} → (ℕ → ℕ → List ℕ → Result T LineFault) → Boot → List T → List ℕ → Result (List T) LineFault
next_items item b xs line = do
  x ← item b.cores (threads_of b) line
  Ok (xs ++ x ∷ [])

-- a line after the first: of the boot, where no item was read, or an item
unfoldable pub later_line : {T : Type 0} → (ℕ → ℕ → List ℕ → Result T LineFault) → Boot → List T → List ℕ → Option Key → List (List ℕ) → Result (Script T) LineFault
later_line item b [] line (Some key) ws = next_boot b key ws >>= λ more. Ok (record { boot = Some more; items = [] })
later_line item b (x ∷ xs) line (Some key) ws = Err fault.LateBoot
later_line item b xs line None ws = next_items item b xs line >>= λ more. Ok (record { boot = Some b; items = more })

-- a line by its first word and the others
unfoldable pub by_boot : {T : Type 0} → Grammar T → Option Boot → List T → List ℕ → Option Key → List (List ℕ) → Result (Script T) LineFault
by_boot grammar None xs line key ws = first_boot grammar.cores key ws >>= λ b. Ok (record { boot = Some b; items = xs })
by_boot grammar (Some b) xs line key ws = later_line grammar.item b xs line key ws

-- a line that is not skipped
unfoldable pub spelled : {T : Type 0} → Grammar T → Script T → List ℕ → List (List ℕ) → Result (Script T) LineFault
spelled grammar s line [] = Err fault.Form
spelled grammar s line (w ∷ ws) = by_boot grammar s.boot s.items line (boot_key w) ws

-- whether a line is skipped: it is empty, or begins with #, = or +
abbrev pub is_skipped : List ℕ → Bool
is_skipped [] = true
is_skipped (b ∷ bs) = (b == 35) || (b == 61) || (b == 43)

-- whether a line of this number says something: it is one that may be there, and is not skipped
abbrev pub says_something : ℕ → List ℕ → Result Bool LineFault
says_something number line = if nat_lt 2000000 number then Err fault.ManyLines
    else (if nat_lt 4096 (length line) then Err fault.LongLine else Ok (not (is_skipped line)))

-- a script with the line of this number
unfoldable pub read_line : {T : Type 0} → Grammar T → Script T → ℕ → List ℕ → Result (Script T) LineFault
read_line grammar s number line = says_something number line >>= λ says. if says then spelled grammar s line (words_of line) else Ok s

-- the end of a script is in the line after the last
abbrev pub ending : {T : Type 0} → Script T → ℕ → Option Boot → Script T × Option (ℕ × LineFault)
ending s number None = (s, Some (number, fault.NoCores))
ending s number (Some b) = (s, None)

-- the script of the lines from this number on, and the first fault with its line
unfoldable pub script_from : {T : Type 0} → Grammar T → Script T → ℕ → List (List ℕ) → Script T × Option (ℕ × LineFault)
script_from grammar s number [] = ending s number s.boot
script_from grammar s number (line ∷ lines) = elim (read_line grammar s number line) [
  | Ok t ↦ script_from grammar t (number + 1) lines
  | Err e ↦ (s, Some (number, e))
]

-- what a text says: its boot and its items, or those before the first faulty line, with that line's
-- number and its fault
unfoldable pub script_of : {T : Type 0} → Grammar T → List ℕ → Script T × Option (ℕ × LineFault)
script_of grammar text = script_from grammar no_script 1 (lines_of text)

-- scripts whose items are steps
abbrev pub of_steps : Grammar Step
of_steps = record { cores = None; item = step_of }

-- scripts whose items are entries of users, on this many cores where that is asked for
abbrev pub of_users : Option ℕ → Grammar UserEntry
of_users asked = record { cores = asked; item = λ cores threads line. user_of threads line }

-- what a text says whose items are steps
abbrev pub steps : List ℕ → Script Step × Option (ℕ × LineFault)
steps text = script_of of_steps text

-- what a text says whose items are entries of users, where that many cores are asked for
abbrev pub users : Option ℕ → List ℕ → Script UserEntry × Option (ℕ × LineFault)
users asked text = script_of (of_users asked) text
