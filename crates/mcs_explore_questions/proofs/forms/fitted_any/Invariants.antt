use Rattle.std.proofs.Common.{◌≡◌, length}
use Rattle.mcs_text.specs.Reading.{words_of}
use Rattle.mcs_explore_questions.specs.Forms.{begun, firsts_of, fitted_any}
use Rattle.mcs_explore_questions.specs.Reading.{texts}
use Rattle.mcs_explore_questions.specs.There.{scene_of}
use Rattle.mcs_explore_questions.proofs.forms.fitted_any.Given as goal

abbrev pub invariant-loop-first : goal.invariant-loop-first
invariant-loop-first l = fitted_any (scene_of l.there) l.lines (words_of (firsts_of l.lines)) (begun l.word (texts l.rest)) ≡ fitted_any (scene_of l.there) l.lines l.firsts (begun l.word (texts l.rest))

abbrev pub decreases-loop-first : goal.decreases-loop-first
decreases-loop-first l = length l.firsts
