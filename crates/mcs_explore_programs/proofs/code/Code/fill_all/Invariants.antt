use Rattle.std.proofs.Common.{◌<◌, length}
use Rattle.mcs_explore_programs.proofs.code.Code.fill_all.Given as goal

abbrev pub invariant-loop-part : goal.invariant-loop-part
invariant-loop-part l = l.number < length l.self.entries
