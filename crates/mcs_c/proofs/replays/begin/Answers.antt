use Rattle.std.proofs.Common.{sym, ◌∙◌}
use Rattle.mcs_sim.proofs.FeedTakes.{empty-is}
use Rattle.mcs_c.proofs.Replayed.{began}
use Rattle.mcs_c.proofs.replays.begin.Goals as goal

pub returns-then-is_empty : goal.returns-then-is_empty
returns-then-is_empty c = began c.args.script.now c.in_ok-run.run' (empty-is c.args.script.now (sym c.is_empty.ensures ∙ c.if-is_empty.true)) c.in_ok-run.ensures
