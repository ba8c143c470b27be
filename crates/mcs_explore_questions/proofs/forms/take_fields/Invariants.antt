use Rattle.std.proofs.Common.{◌≡◌, length}
use Rattle.mcs_explore_questions.specs.Forms.{fit_of, take_fields}
use Rattle.mcs_explore_questions.specs.There.{scene_of}
use Rattle.mcs_explore_questions.proofs.forms.take_fields.Given as goal

abbrev pub invariant-loop-name : goal.invariant-loop-name
invariant-loop-name l =
    take_fields (scene_of l.there) l.first l.initial.names (fit_of l.initial.pattern l.initial.words)
    ≡ take_fields (scene_of l.there) l.first l.names (fit_of l.pattern l.words)

abbrev pub decreases-loop-name : goal.decreases-loop-name
decreases-loop-name l = length l.names
