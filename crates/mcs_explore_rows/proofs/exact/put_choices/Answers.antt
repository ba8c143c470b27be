use Rattle.std.proofs.Common.{slice_get}
use Rattle.mcs_turns.specs.Due.{choices}
use Rattle.mcs_explore_rows.specs.Numbers.{list_numbers, option_numbers}
use Rattle.mcs_explore_rows.specs.Rows.{pick_numbers}
use Rattle.mcs_explore_rows.proofs.Naming.{keeps-then, rows-next}
use Rattle.mcs_explore_rows.proofs.exact.put_choices.Goals as goal

pub loop-core-preserved : goal.loop-core-preserved
loop-core-preserved g c = (
  rows-next c.args.met.now c.loop-core.met c.put.new.self c.args.numbers.now.items c.loop-core.numbers.items c.put.new.numbers.items
      (λ i. option_numbers (list_numbers pick_numbers) (slice_get (choices c.args.picks.now c.args.walk.now.stale) i)) c.loop-core.core c.in_ok-row.row.items c.in_ok-row.ensures c.loop-core.invariant.0 c.in_ok-put.ensures.named,
  keeps-then c.args.met.now c.loop-core.met c.put.new.self c.loop-core.invariant.1 c.put.ensures.kept,
)

pub returns-in_err-put-clause-kept : goal.returns-in_err-put-clause-kept
returns-in_err-put-clause-kept g c = keeps-then c.args.met.now c.loop-core.met c.put.new.self c.loop-core.invariant.1 c.put.ensures.kept
