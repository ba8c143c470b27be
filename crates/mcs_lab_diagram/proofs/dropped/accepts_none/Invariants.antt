use Rattle.std.proofs.Common.{◌≡◌, drop}
use Rattle.mcs_lab_diagram.specs.Dropped.{accepts_none}
use Rattle.mcs_lab_diagram.proofs.dropped.accepts_none.Given as goal

-- nothing was accepted so far
abbrev pub invariant-loop-i : goal.invariant-loop-i
invariant-loop-i l = accepts_none l.line.records ≡ accepts_none (drop l.i l.line.records)
