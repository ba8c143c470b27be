use Rattle.std.proofs.Common.{◌+◌, ◌-◌, ◌*◌, ◌≤◌, ℕ, List, length}
use Rattle.std.specs.Io.KnownBytes.{Consumes}
use Rattle.mcs_sim.specs.Users.{no_users, IsKept, TakesUsers}
use Rattle.mcs_sim.proofs.run.read_users.Given as goal

abbrev pub invariant-loop-n : goal.invariant-loop-n
invariant-loop-n g l = record {
  reached : (text : List ℕ) × Consumes (g.R.Read.remaining l.initial.from.reader) (g.R.Read.remaining l.from.reader) text × TakesUsers text (no_users l.fn.cores) l.users;
  kept : IsKept l.users.lines l.users.line;
  count : l.initial.from.failed ≤ l.from.failed;
}

abbrev pub decreases-loop-n : goal.decreases-loop-n
decreases-loop-n g l = 8194004096 - (l.users.lines * 4097 + length l.users.line)
