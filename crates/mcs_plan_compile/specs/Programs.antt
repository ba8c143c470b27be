-- The lines of a program of a plan: `program NAME {`, statements, and `}` (own).
use Rattle.std.specs.Prelude.{◌+◌, ◌-◌, ◌&&◌, ◌==◌, ℕ, Bool, false, cond, List, [], ◌∷◌, Some, None, Ok, Err, codes, bytes_eq, drop, is_some, length, map, nat_lt, slice_get}
use Rattle.mcs_types.specs.declared.id.ObjId.{ObjId}
use Rattle.mcs_types.specs.declared.id.Kind.TheVariants as kind
use Rattle.mcs_explore_programs.specs.declared.program.TheConstants.{DEPTH}
use Rattle.mcs_plan_source.specs.Objects.{named_as}
use Rattle.mcs_plan_source.specs.Refusals.{Read, ◌>>=◌, ◌>>◌, limit, need, unclosed}
use Rattle.mcs_plan_source.specs.Words.{after_word, end_of, word_then}
use Rattle.mcs_plan_layout.specs.Laid.{LaidPlan}
use Rattle.mcs_plan_compile.specs.declared.compiler.Entries.{Entries}
use Rattle.mcs_plan_compile.specs.declared.compiler.Entries.TheVariants as entries
use Rattle.mcs_plan_compile.specs.Fields.{fields_of}
use Rattle.mcs_plan_compile.specs.Heads.{step_read}
use Rattle.mcs_plan_compile.specs.Mixing.{goes_on}

-- whether a word is the name of what follows it
abbrev pub ends_with_colon : List ℕ → Bool
ends_with_colon word = elim (slice_get word (length word - 1)) [ None ↦ false | Some b ↦ b == 58 ]

-- the words after the name of an entry or a block, if they have one
abbrev pub after_name : List (List ℕ) → List (List ℕ)
after_name [] = []
after_name (word ∷ words) = cond (ends_with_colon word) words (word ∷ words)

-- whether words spell an entry: the first is the word of one
abbrev pub is_entry : List (List ℕ) → Bool
is_entry [] = false
is_entry (key ∷ words) = is_some (fields_of key)

-- whether a word is a value: it begins with `$`
abbrev pub is_value : List ℕ → Bool
is_value [] = false
is_value (b ∷ bs) = b == 36

-- a word of an entry, with 0 for a value
abbrev pub zeroed : List ℕ → List ℕ
zeroed word = cond (is_value word) (codes "0") word

-- an entry of a program: one of a user, with 0 for each value
abbrev pub entry_said : LaidPlan → ObjId → List (List ℕ) → Read (Unit {0})
entry_said laid t words = do
  line ← step_read laid (record { thread = t; core = None }) (map zeroed words)
  Ok tt

-- a statement: the names in an entry are those of the thread
abbrev pub statement_said : LaidPlan → ObjId → List (List ℕ) → Read (Unit {0})
statement_said laid t words = cond (is_entry (after_name words)) (entry_said laid t (after_name words)) (Ok tt)

-- whether a statement closes a block, and whether it opens one
abbrev pub closes : List (List ℕ) → Bool
closes [] = false
closes (word ∷ words) = bytes_eq word (codes "}")

abbrev pub opens : List (List ℕ) → Bool
opens words = elim (slice_get words (length words - 1)) [ None ↦ false | Some word ↦ bytes_eq word (codes "{") ]

-- how many blocks are open after what a statement closes, and after the statement
abbrev pub open_still : ℕ → List (List ℕ) → ℕ
open_still blocks words = cond (closes words) (blocks - 1) blocks

abbrev pub open_after : ℕ → List (List ℕ) → Read ℕ
open_after blocks words =
    cond (opens words) (need (nat_lt (open_still blocks words) DEPTH) (limit DEPTH) >> Ok (open_still blocks words + 1)) (Ok (open_still blocks words))

-- whether a statement closes the program
abbrev pub is_end : ℕ → List (List ℕ) → Bool
is_end blocks words = closes words && blocks == 0

-- the end of a program, after which no word is left
abbrev pub program_ended : List (List ℕ) → Read Entries
program_ended words = do
  end_of (drop 1 words)
  Ok entries.Users

-- a statement inside of a program
abbrev pub statement_taken : LaidPlan → ObjId → ℕ → List (List ℕ) → Read Entries
statement_taken laid t blocks words = do
  statement_said laid t words
  left ← open_after blocks words
  Ok (entries.Program t left)

-- a line of a program
abbrev pub program_taken : LaidPlan → ObjId → ℕ → List (List ℕ) → Read Entries
program_taken laid t blocks words = cond (is_end blocks words) (program_ended words) (statement_taken laid t blocks words)

-- `NAME {` after `program`
abbrev pub program_head : LaidPlan → List (List ℕ) → Read ObjId
program_head laid words = do
  (name, left) ← word_then words
  thread ← named_as kind.Thread name laid.plan.names
  blocks ← after_word (codes "{") left
  end_of blocks
  Ok thread

-- the first line of a program
abbrev pub program_begun : LaidPlan → Entries → List (List ℕ) → Read Entries
program_begun laid e words = do
  thread ← program_head laid words
  users ← goes_on laid e None
  Ok (entries.Program thread 0)

-- no program is open at the end
abbrev pub all_closed : Entries → Read Entries
all_closed (entries.Program t blocks) = Err unclosed
all_closed e = Ok e
