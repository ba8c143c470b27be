use Rattle.std.proofs.Common.{take}
use Rattle.mcs_trace.specs.Room.{Adds}
use Rattle.mcs_trace.proofs.line.Line.few_bytes.Given as goal

abbrev pub invariant-loop-byte : goal.invariant-loop-byte
invariant-loop-byte l = Adds l.initial.self l.self l.byte-index (take l.byte-index l.bytes)
