-- What the lines of a plan from its first step on are taken for, one after another, or the first
-- that is refused (own).
use Rattle.std.specs.Prelude.{◌+◌, ◌-◌, ◌&&◌, ℕ, Bool, List, [], ◌∷◌, Option, Some, None, Ok, Err, codes, bytes_eq, option_map, if◌then◌else◌}
use Rattle.std.specs.Option.{unwrap_or}
use Rattle.mcs_types.specs.declared.id.CoreId.{CoreId}
use Rattle.mcs_types.specs.declared.id.ObjId.{ObjId}
use Rattle.mcs_types.specs.declared.id.Kind.TheVariants as kind
use Rattle.mcs_plan_source.specs.Cutting.{words_of, code_of}
use Rattle.mcs_plan_source.specs.Objects.{named_as}
use Rattle.mcs_plan_source.specs.Refusals.{Read, ◌>>=◌, ◌>>◌, need, late, no_step}
use Rattle.mcs_plan_source.specs.Saying.{Said}
use Rattle.mcs_plan_source.specs.Threads.{thread_at}
use Rattle.mcs_plan_source.specs.Words.{word_then, after_word, end_of, number_then}
use Rattle.mcs_plan_layout.specs.Laid.{LaidPlan}
use Rattle.mcs_plan_layout.specs.Naming.{cores_of}
use Rattle.mcs_plan_compile.specs.declared.compiler.Entries.{Entries}
use Rattle.mcs_plan_compile.specs.declared.compiler.Entries.TheVariants as entries
use Rattle.mcs_plan_compile.specs.declared.steps.Head.{Head}
use Rattle.mcs_plan_compile.specs.Heads.{step_read}
use Rattle.mcs_plan_compile.specs.Mixing.{is_any, is_steps, goes_on}
use Rattle.mcs_plan_compile.specs.Programs.{program_begun, program_taken}
use Rattle.mcs_plan_compile.specs.Reading.{ReadAt, at_line, and_then, short}
use Rattle.mcs_plan_compile.specs.Stepping.{cut_at_colon}
use Rattle.mcs_plan_compile.specs.Wanting.{wanted_read}

-- the core of a thread's steps
abbrev pub core_of : Said → ObjId → CoreId
core_of s t = unwrap_or (option_map (λ th. th.core) (thread_at s.threads t)) (record { 0 = 0 })

-- the last core
abbrev pub last_core : LaidPlan → ℕ
last_core laid = cores_of laid.plan.cores laid.plan.contexts - 1

-- `on core N`: one of those that there are
abbrev pub core_said : LaidPlan → List (List ℕ) → Read (CoreId × List (List ℕ))
core_said laid words = do
  on ← after_word (codes "on") words
  core ← after_word (codes "core") on
  (n, left) ← number_then (last_core laid) core
  Ok (record { 0 = n }, left)

-- the core of a step: the one that the line names, or the thread's
abbrev pub core_read : LaidPlan → ObjId → List (List ℕ) → Read (CoreId × List (List ℕ))
core_read laid t [] = Ok (core_of laid.plan t, [])
core_read laid t (word ∷ words) = core_said laid (word ∷ words)

-- `NAME` or `NAME on core N`
abbrev pub step_head : LaidPlan → List ℕ → List (List ℕ) → Read Head
step_head laid name words = do
  thread ← named_as kind.Thread name laid.plan.names
  (core, left) ← core_read laid thread words
  end_of left
  Ok (record { thread = thread; core = Some core })

-- `NAME` after `user`
abbrev pub user_head : LaidPlan → List (List ℕ) → Read Head
user_head laid words = do
  (name, left) ← word_then words
  thread ← named_as kind.Thread name laid.plan.names
  end_of left
  Ok (record { thread = thread; core = None })

-- whether a line is that of a user: a name follows `user`
abbrev pub is_user : List ℕ → List (List ℕ) → Bool
is_user first words = bytes_eq first (codes "user") && is_any words

abbrev pub head_by : LaidPlan → List ℕ → List (List ℕ) → Read Head
head_by laid first words = if is_user first words then user_head laid words else step_head laid first words

-- what is before the colon
abbrev pub head_read : LaidPlan → List (List ℕ) → Read Head
head_read laid words = do
  (first, rest) ← word_then words
  head_by laid first rest

-- a step or a line of a user
abbrev pub entry_taken : LaidPlan → Entries → List ℕ × List ℕ → Read Entries
entry_taken laid e p = do
  head ← head_read laid (words_of p.0)
  line ← step_read laid head (words_of p.1)
  goes_on laid e head.core

-- the same, or the first line of a program, which has no colon
abbrev pub headed_taken : LaidPlan → Entries → List ℕ → List (List ℕ) → Option (List ℕ × List ℕ) → Read Entries
headed_taken laid e first rest (Some p) = entry_taken laid e p
headed_taken laid e first rest None = if bytes_eq first (codes "program") then program_begun laid e rest else Err late

-- the answer and the records that are expected of the step before
abbrev pub wanted_taken : LaidPlan → Entries → List (List ℕ) → Read Entries
wanted_taken laid e words = do
  need (is_steps e) no_step
  text ← wanted_read laid.plan.names words
  short text
  Ok e

-- what a line outside of programs says, by its words
abbrev pub words_taken : LaidPlan → Entries → List ℕ → List ℕ → List (List ℕ) → Read Entries
words_taken laid e code first rest =
    if bytes_eq first (codes "?") then wanted_taken laid e rest else headed_taken laid e first rest (cut_at_colon code)

-- what a line says beside its comment, by its words
abbrev pub said_taken : LaidPlan → Entries → List ℕ → List (List ℕ) → Read Entries
said_taken laid e code [] = Ok e
said_taken laid (entries.Program t blocks) code (first ∷ rest) = program_taken laid t blocks (first ∷ rest)
said_taken laid e code (first ∷ rest) = words_taken laid e code first rest

abbrev pub code_taken : LaidPlan → Entries → List ℕ → Read Entries
code_taken laid e code = said_taken laid e code (words_of code)

-- a line after those before the first step
abbrev pub line_taken : LaidPlan → Entries → List ℕ → Read Entries
line_taken laid e line = do
  short line
  code_taken laid e (code_of line)

-- lines, one after another, after this many
abbrev pub lines_taken : LaidPlan → ℕ → List (List ℕ) → Entries → ReadAt Entries
lines_taken laid count [] e = Ok e
lines_taken laid count (line ∷ lines) e =
    and_then (at_line (count + 1) (line_taken laid e line)) (lines_taken laid (count + 1) lines)
