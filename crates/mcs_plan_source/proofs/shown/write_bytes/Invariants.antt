use Rattle.std.proofs.Common.{take}
use Rattle.std.specs.Fmt.{HasWritten, IsPlainFormatter}
use Rattle.mcs_plan_source.specs.Showing.{shown_bytes}
use Rattle.mcs_plan_source.proofs.shown.write_bytes.Given as goal

abbrev pub invariant-loop-byte : goal.invariant-loop-byte
invariant-loop-byte g l =
    IsPlainFormatter l.initial.f → HasWritten g.W.Write.write_str_gives l.initial.f (shown_bytes (take l.byte-index l.bytes)) l.f
