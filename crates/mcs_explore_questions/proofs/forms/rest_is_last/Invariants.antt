use Rattle.std.proofs.Common.{◌≡◌, length}
use Rattle.mcs_explore_questions.specs.Forms.{is_rest_last}
use Rattle.mcs_explore_questions.specs.Reading.{texts}
use Rattle.mcs_explore_questions.proofs.forms.rest_is_last.Given as goal

abbrev pub invariant-loop-word : goal.invariant-loop-word
invariant-loop-word l = is_rest_last (texts l.fn.words) ≡ is_rest_last l.left

abbrev pub decreases-loop-word : goal.decreases-loop-word
decreases-loop-word l = length l.left
