use Rattle.std.proofs.Common.{◌≡◌, drop}
use Rattle.mcs_plan_domains.specs.declared.questions.Before.TheVariants as before
use Rattle.mcs_plan_domains.specs.Pages.{page_of}
use Rattle.mcs_plan_domains.specs.Questions.{words_asked}
use Rattle.mcs_plan_domains.proofs.questions.put_words.Given as goal

abbrev pub invariant-loop-word : goal.invariant-loop-word
invariant-loop-word l = words_asked (page_of l.out) l.before (drop l.word-index l.words) ≡ words_asked (page_of l.fn.out) before.Nothing l.words
