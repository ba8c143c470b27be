-- An answer by its parts.
use Rattle.std.specs.Prelude.{ℕ, List}
use Rattle.mcs_types.specs.declared.entry.Answer.{Answer}
use Rattle.mcs_types.specs.declared.entry.Answer.TheVariants as answer
use Rattle.mcs_turns.specs.declared.answer_ref.Form.{Form}
use Rattle.mcs_turns.specs.declared.answer_ref.Form.TheVariants as form

-- the answer of a form, with this badge or word, and this message
abbrev pub answer_of : Form → ℕ → ℕ → List ℕ → Answer
answer_of form.Done n label words = answer.Done
answer_of form.Waits n label words = answer.Waits
answer_of form.Got n label words = answer.Got (record { 0 = n }) (record { label = label; words = words })
answer_of form.Heard n label words = answer.Heard n
answer_of form.Empty n label words = answer.Empty
answer_of (form.Refused why) n label words = answer.Refused why
