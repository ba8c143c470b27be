use Rattle.std.proofs.Common.{◌≡◌, ◌++◌, length}
use Rattle.mcs_text.specs.Reading.{words_of}
use Rattle.mcs_explore_questions.specs.Reading.{texts}
use Rattle.mcs_explore_questions.proofs.words.words_of.Given as goal

abbrev pub invariant-loop-word : goal.invariant-loop-word
invariant-loop-word l = texts l.all.items ++ l.words ≡ words_of l.text

abbrev pub decreases-loop-word : goal.decreases-loop-word
decreases-loop-word l = length l.words
