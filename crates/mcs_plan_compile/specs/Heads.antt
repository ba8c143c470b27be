-- What is in front of an entry, in a script.
use Rattle.std.specs.Prelude.{ℕ, List, ◌∷◌, Option, Some, None, decimal, codes}
use Rattle.mcs_types.specs.declared.id.CoreId.{CoreId}
use Rattle.mcs_types.specs.declared.id.ObjId.{ObjId}
use Rattle.mcs_text.specs.Spelling.{letter_of}
use Rattle.mcs_plan_source.specs.Naming.{with_word}
use Rattle.mcs_plan_source.specs.Refusals.{Read}
use Rattle.mcs_plan_layout.specs.Laid.{LaidPlan}
use Rattle.mcs_plan_compile.specs.declared.steps.Head.{Head}
use Rattle.mcs_plan_compile.specs.Entries.{entry_more}

-- the name of an object in a script
abbrev pub object_text : ObjId → List ℕ
object_text object = letter_of object.kind ∷ decimal object.serial

-- the core of a step, or the word of a user
abbrev pub core_text : Option CoreId → List ℕ
core_text (Some core) = decimal core.0
core_text None = codes "user"

-- the entering thread, and its core
abbrev pub head_text : Head → List ℕ
head_text head = with_word (core_text head.core) (object_text head.thread)

-- the line of a step, or of a user: the entering thread, and the entry that words spell
abbrev pub step_read : LaidPlan → Head → List (List ℕ) → Read (List ℕ)
step_read laid head words = entry_more laid head.thread words (head_text head)
