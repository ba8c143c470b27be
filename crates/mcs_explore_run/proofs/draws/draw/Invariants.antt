use Rattle.mcs_explore_run.proofs.DrawLaws.{IsDrawnBelow}
use Rattle.mcs_explore_run.proofs.draws.draw.Given as goal

abbrev pub invariant-loop-index : goal.invariant-loop-index
invariant-loop-index g l = IsDrawnBelow l.users l.walk l.turns l.index l.drawn
