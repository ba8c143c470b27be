use Rattle.std.proofs.Common.{refl}
use Rattle.mcs_plan_source.specs.Saying.{said, said_space}
use Rattle.mcs_plan_layout.proofs.Started.{starter_added}
use Rattle.mcs_plan_layout.proofs.starter.add_starter.Goals as goal

pub returns-clause-added : goal.returns-clause-added
returns-clause-added c =
    starter_added (said c.args.plan.now) (record (said c.args.plan.now) { names = c.add_names.new.names }) (said c.put.new.plan) c.add_names.new.names
    (said_space c.in_ok-space.space) c.in_ok-thread.thread c.in_ok-thread.context c.in_ok-thread.ensures.added refl c.in_ok-thread.ensures.thread
    c.in_ok-thread.ensures.context c.in_ok-space.ensures.space c.in_ok-put.ensures
