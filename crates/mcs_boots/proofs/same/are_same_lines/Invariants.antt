use Rattle.std.proofs.Common.{◌≡◌, take}
use Rattle.mcs_boots.proofs.same.are_same_lines.Given as goal

abbrev pub invariant-loop-i : goal.invariant-loop-i
invariant-loop-i l = take l.i l.one ≡ take l.i l.other
