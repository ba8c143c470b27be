use Rattle.std.proofs.Common.{◌≡◌, drop}
use Rattle.mcs_plan_domains.specs.Pages.{page_of, words_put}
use Rattle.mcs_plan_domains.proofs.lowered.Lowered.words.Given as goal

abbrev pub invariant-loop-word : goal.invariant-loop-word
invariant-loop-word l = words_put (page_of l.self) (drop l.word-index l.words) ≡ words_put (page_of l.fn.self) l.words
