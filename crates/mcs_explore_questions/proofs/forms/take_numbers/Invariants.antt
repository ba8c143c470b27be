use Rattle.std.proofs.Common.{◌≡◌}
use Rattle.mcs_explore_questions.specs.Forms.{fit_of, take_numbers}
use Rattle.mcs_explore_questions.specs.There.{scene_of}
use Rattle.mcs_explore_questions.proofs.forms.take_numbers.Given as goal

abbrev pub invariant-numbers : goal.invariant-numbers
invariant-numbers l =
    take_numbers (scene_of l.there) 120 (fit_of l.initial.pattern l.initial.words) l.initial.words
    ≡ take_numbers (scene_of l.there) l.room (fit_of l.pattern l.words) l.words

abbrev pub decreases-numbers : goal.decreases-numbers
decreases-numbers l = l.room
