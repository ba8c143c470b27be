use Rattle.std.proofs.Common.{◌≡◌, ◌++◌, ◌-◌, length}
use Rattle.mcs_users.specs.Users.{gives_from}
use Rattle.mcs_users.proofs.lists.UserList.straight.Given as goal

abbrev pub invariant-loop-number : goal.invariant-loop-number
invariant-loop-number l = gives_from 0 (length l.self.entries) ≡ l.ops.items ++ gives_from l.number (length l.self.entries - l.number)
