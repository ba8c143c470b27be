use Rattle.std.proofs.Common.{◌≡◌, ◌-◌, length}
use Rattle.mcs_turns.specs.Programs.{settled}
use Rattle.mcs_turns.proofs.program.settle.Given as goal

abbrev pub invariant-loop-done : goal.invariant-loop-done
invariant-loop-done l = settled (length l.ops) l.ops l.last l.initial.kept l.initial.place ≡ settled (length l.ops - l.done) l.ops l.last l.kept l.place
