use Rattle.std.proofs.Common.{sym, ◌∙◌}
use Rattle.mcs_trace.proofs.Outputs.{ends}
use Rattle.mcs_explore_script.proofs.steps.write_steps.Goals as goal

pub returns : goal.returns
returns g c =
    (ends _ c.args.sink.now c.start.new.self c.put_script.new.sink c.flush.new.self _ c.start.ensures.same.0 c.start.ensures.same.1 c.start.ensures.fresh.0 c.start.ensures.fresh.1 c.put_script.ensures c.flush.ensures.puts c.flush.ensures.kept).whole
    (sym c.is_broken.ensures ∙ c.if-is_broken.false)
