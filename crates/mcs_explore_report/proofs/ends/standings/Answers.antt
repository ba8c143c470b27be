use Rattle.mcs_explore_report.proofs.Noting.{standings-on}
use Rattle.mcs_explore_report.proofs.ends.standings.Goals as goal

pub loop-user-preserved : goal.loop-user-preserved
loop-user-preserved c = standings-on c.args.users.now c.args.walk.now c.loop-user.user c.loop-user.standing.items _ c.standing_of.result c.loop-user.invariant c.standing_of.ensures c.in_ok-push.ensures
