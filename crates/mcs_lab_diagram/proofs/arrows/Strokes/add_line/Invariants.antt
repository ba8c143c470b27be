use Rattle.std.proofs.Common.{◌≡◌, take}
use Rattle.mcs_lab_diagram.specs.Arrows.{with_records}
use Rattle.mcs_lab_diagram.proofs.arrows.Strokes.add_line.Given as goal

abbrev pub invariant-loop-i : goal.invariant-loop-i
invariant-loop-i l = l.self ≡ with_records l.here l.initial.self (take l.i l.line.records)
