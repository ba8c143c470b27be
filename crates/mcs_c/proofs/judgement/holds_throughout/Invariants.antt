use Rattle.std.proofs.Common.{◌≡◌, ◌&&◌, length, map}
use Rattle.std.specs.List.{list_all}
use Rattle.mcs_lab_check.specs.Checked.{verdicts}
use Rattle.mcs_c.specs.Verdicts.{holds_throughout, is_met, whole_line}
use Rattle.mcs_c.proofs.judgement.holds_throughout.Given as goal

abbrev pub invariant-loop-line : goal.invariant-loop-line
invariant-loop-line l = (l.holds && list_all is_met (verdicts l.judge (map whole_line l.lines))) ≡ holds_throughout l.script

abbrev pub decreases-loop-line : goal.decreases-loop-line
decreases-loop-line l = length l.lines
