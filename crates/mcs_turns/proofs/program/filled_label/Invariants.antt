use Rattle.std.proofs.Common.{◌≡◌, ◌<◌, ◌^◌, drop}
use Rattle.mcs_types.specs.Limits.{label_bits}
use Rattle.mcs_turns.specs.Programs.{filled_label}
use Rattle.mcs_turns.proofs.program.filled_label.Given as goal

abbrev pub invariant-loop-fill : goal.invariant-loop-fill
invariant-loop-fill l = (l.now < 2 ^ label_bits) × (filled_label l.fills l.number l.saved l.label ≡ filled_label (drop l.fill-index l.fills) l.number l.saved l.now)
