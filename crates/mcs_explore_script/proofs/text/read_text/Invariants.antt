use Rattle.std.proofs.Common.{◌-◌, ◌+◌, ◌*◌, None, length}
use Rattle.std.specs.Io.KnownBytes.{Consumes}
use Rattle.mcs_sim.specs.Users.{no_users, IsKept, TakesUsers}
use Rattle.mcs_explore_script.proofs.text.read_text.Given as goal

abbrev pub invariant-loop-n : goal.invariant-loop-n
invariant-loop-n g l = record {
  read : Consumes (g.R.Read.remaining l.initial.from.reader) (g.R.Read.remaining l.from.reader) l.text.items;
  takes : TakesUsers l.text.items (no_users None) l.users;
  kept : IsKept l.users.lines l.users.line;
}

abbrev pub decreases-loop-n : goal.decreases-loop-n
decreases-loop-n g l = 8194004096 - (l.users.lines * 4097 + length l.users.line)
