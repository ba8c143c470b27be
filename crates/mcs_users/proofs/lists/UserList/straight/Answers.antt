use Rattle.std.proofs.Common.{◌≡◌, ◌<◌, ◌+◌, ◌-◌, ◌++◌, ap, arith, length, sym, ◌∙◌}
use Rattle.mcs_turns.specs.Turns.{User}
use Rattle.mcs_users.specs.Users.{gives_from}
use Rattle.mcs_users.proofs.Straight.{gives-next}
use Rattle.mcs_users.proofs.lists.UserList.straight.Goals as goal

pub loop-number-preserved : goal.loop-number-preserved
loop-number-preserved c =
    let i = c.loop-number.number in
    let count = length c.args.self.now.entries in
    let many : length c.self.inside.entries.items ≡ count = ap (λ (u : User). length u.entries) c.self.view_is in
    let low : i < count = omega (arith, c.loop-number-test.true, c.len-number-end.ensures, c.self.inside.entries.ok.0, many) in
    c.loop-number.invariant ∙ gives-next c.loop-number.ops.items i count low
    ∙ ap (λ ops. ops ++ gives_from (i + 1) (count - (i + 1))) (sym c.in_ok-push.ensures)
