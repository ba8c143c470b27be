use Rattle.mcs_turns.specs.Turns.{Follows}
use Rattle.mcs_explore_orders.proofs.Reaching.{moves, ok-follows, ok-leads}
use Rattle.mcs_explore_orders.proofs.replay.step.Goals as goal

pub returns-clause-moves : goal.returns-clause-moves
returns-clause-moves g c = moves c.turn.result _ (Follows c.args.users.now c.args.walk.now c.turn.new.self) (ok-follows c.turn.result c.args.users.now c.args.turn.core c.args.turn.pick c.args.walk.now c.turn.new.self c.turn.ensures.turn) c.turn.ensures.none

pub returns-clause-leads : goal.returns-clause-leads
returns-clause-leads g c = ok-leads c.turn.result c.args.users.now c.args.turn.core c.args.turn.pick c.args.walk.now c.turn.new.self c.turn.ensures.turn c.turn.ensures.no_turn
