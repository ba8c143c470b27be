use Rattle.std.proofs.Common.{◌≡◌, drop}
use Rattle.mcs_plan_domains.specs.Pages.{page_of}
use Rattle.mcs_plan_domains.specs.Questions.{questions_put}
use Rattle.mcs_plan_domains.proofs.questions.put_questions.Given as goal

abbrev pub invariant-loop-question : goal.invariant-loop-question
invariant-loop-question l = questions_put (page_of l.out) (drop l.question-index l.questions) ≡ questions_put (page_of l.fn.out) l.questions
