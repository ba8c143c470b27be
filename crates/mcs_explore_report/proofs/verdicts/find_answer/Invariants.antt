use Rattle.mcs_explore_report.specs.Verdicts.{IsNotIn}
use Rattle.mcs_explore_report.proofs.verdicts.find_answer.Given as goal

abbrev pub invariant-loop-index : goal.invariant-loop-index
invariant-loop-index l = IsNotIn l.witnesses l.pattern l.wanted l.index
