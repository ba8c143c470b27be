use Rattle.std.proofs.Common.{◌≡◌, ◌≤◌, ◌+◌, ◌-◌, ◌++◌, length, take}
use Rattle.mcs_trace.specs.declared.line.TheConstants.{SIZE}
use Rattle.mcs_trace.proofs.line.Line.many_bytes.Given as goal

abbrev pub invariant-loop-at : goal.invariant-loop-at
invariant-loop-at l =
    record {
      copied : take (l.front + l.at) l.self-inside.bytes ≡ take l.front l.initial.self-inside.bytes ++ take l.at l.bytes;
      long : length l.self-inside.bytes ≡ SIZE;
      within : l.at ≤ length l.bytes;
    }

-- proposed from the loop's first test
abbrev pub decreases-loop-at : goal.decreases-loop-at
decreases-loop-at l = l.last - l.at
