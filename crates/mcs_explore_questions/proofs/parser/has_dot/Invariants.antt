use Rattle.std.proofs.Common.{◌≡◌, drop}
use Rattle.mcs_explore_questions.specs.Questions.{has_dot}
use Rattle.mcs_explore_questions.proofs.parser.has_dot.Given as goal

abbrev pub invariant-loop-byte : goal.invariant-loop-byte
invariant-loop-byte l = has_dot l.word ≡ has_dot (drop l.byte-index l.word)
