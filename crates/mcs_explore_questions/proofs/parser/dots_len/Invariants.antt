use Rattle.std.proofs.Common.{◌≡◌, ◌+◌, false, drop}
use Rattle.mcs_explore_questions.specs.Questions.{dots_len}
use Rattle.mcs_explore_questions.proofs.parser.dots_len.Given as goal

abbrev pub invariant-loop-place : goal.invariant-loop-place
invariant-loop-place l = dots_len false l.word ≡ l.place + dots_len l.dotted (drop l.place l.word)
