use Rattle.std.proofs.Common.{◌≡◌, length}
use Rattle.mcs_text.specs.Reading.{words_of}
use Rattle.mcs_explore_questions.specs.Patterns.{are_matched}
use Rattle.mcs_explore_questions.proofs.patterns.is_match.Given as goal

abbrev pub invariant-loop-wanted : goal.invariant-loop-wanted
invariant-loop-wanted l = are_matched (words_of l.pattern) (words_of l.text) ≡ are_matched l.left l.words

abbrev pub decreases-loop-wanted : goal.decreases-loop-wanted
decreases-loop-wanted l = length l.left
