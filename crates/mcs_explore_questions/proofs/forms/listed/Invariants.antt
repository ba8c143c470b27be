use Rattle.std.proofs.Common.{length}
use Rattle.mcs_explore_questions.proofs.forms.listed.Given as goal

abbrev pub decreases-loop-first : goal.decreases-loop-first
decreases-loop-first l = length l.firsts
