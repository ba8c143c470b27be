use Rattle.std.proofs.Common.{◌≡◌}
use Rattle.mcs_explore_programs.proofs.code.Code.release.Given as goal

abbrev pub invariant-loop : goal.invariant-loop
invariant-loop l = l.self.entries ≡ l.fn.self.entries
