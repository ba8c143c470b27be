use Rattle.std.proofs.Common.{take}
use Rattle.std.specs.Io.KnownBytes.{Appends}
use Rattle.mcs_lab_check.specs.Shown.{shown}
use Rattle.mcs_lab_check.proofs.tap.put_shown.Given as goal

abbrev pub invariant-loop-byte : goal.invariant-loop-byte
invariant-loop-byte g l = Appends (g.W.Write.contents l.initial.to) (g.W.Write.contents l.to) (shown (take l.byte-index l.bytes))
