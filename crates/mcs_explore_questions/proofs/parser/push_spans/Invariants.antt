use Rattle.std.proofs.Common.{length}
use Rattle.mcs_explore_questions.specs.Questions.{spans_from}
use Rattle.mcs_explore_questions.specs.There.{scene_of}
use Rattle.mcs_explore_questions.proofs.Joining.{SpansLeft}
use Rattle.mcs_explore_questions.proofs.parser.push_spans.Given as goal

abbrev pub invariant-turns : goal.invariant-turns
invariant-turns l = SpansLeft (scene_of l.there) l.spans.items l.words (spans_from (length l.initial.words) (scene_of l.there) l.initial.spans.items l.initial.words)

abbrev pub decreases-turns : goal.decreases-turns
decreases-turns l = length l.words
