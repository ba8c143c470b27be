use Rattle.std.proofs.Common.{◌*◌, decimal, take}
use Rattle.std.specs.List.{flat_map}
use Rattle.mcs_trace.specs.Room.{Adds}
use Rattle.mcs_text.specs.Spelling.{then_text}
use Rattle.mcs_trace.proofs.line.Line.numbers.Given as goal

abbrev pub invariant-loop-number : goal.invariant-loop-number
invariant-loop-number l = Adds l.initial.self l.self (21 * l.number-index) (flat_map (λ n. then_text (decimal n)) (take l.number-index l.numbers))
