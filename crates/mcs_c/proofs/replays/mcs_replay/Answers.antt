use Rattle.std.proofs.Common.{inr}
use Rattle.mcs_c.proofs.Replayed.{replays}
use Rattle.mcs_c.proofs.replays.mcs_replay.Goals as goal

pub returns-in-Ok : goal.returns-in-Ok
returns-in-Ok c = inr (replays c.args.script.now c.in-Ok.output.text.items c.args.out.now c.finish.new.out c.in-Ok.output.ended c.finish.result c.finish.new.end c.in-Ok.ensures c.finish.ensures.wrote c.finish.ensures.ends)
