use Rattle.std.proofs.Common.{take}
use Rattle.std.specs.List.{flat_map}
use Rattle.mcs_trace.specs.Output.{Puts}
use Rattle.mcs_text.specs.Table.{boot_text}
use Rattle.mcs_sim.proofs.trace_text.put_boot.Given as goal

abbrev pub invariant-loop-line : goal.invariant-loop-line
invariant-loop-line g l = Puts g.W.Write.contents l.initial.sink l.sink (flat_map (boot_text) (take l.line-index l.lines))
