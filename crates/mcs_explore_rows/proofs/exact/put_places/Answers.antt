use Rattle.std.proofs.Common.{slice_get}
use Rattle.mcs_explore_rows.specs.Numbers.{option_numbers}
use Rattle.mcs_explore_rows.specs.Rows.{position_numbers}
use Rattle.mcs_explore_rows.proofs.Naming.{keeps-then, rows-next}
use Rattle.mcs_explore_rows.proofs.exact.put_places.Goals as goal

pub loop-user-preserved : goal.loop-user-preserved
loop-user-preserved g c = (
  rows-next c.args.met.now c.loop-user.met c.put.new.self c.args.numbers.now.items c.loop-user.numbers.items c.put.new.numbers.items
      (λ i. option_numbers position_numbers (slice_get c.args.walk.now.places i)) c.loop-user.user c.in_ok-row.row.items c.in_ok-row.ensures c.loop-user.invariant.0 c.in_ok-put.ensures.named,
  keeps-then c.args.met.now c.loop-user.met c.put.new.self c.loop-user.invariant.1 c.put.ensures.kept,
)

pub returns-in_err-put-clause-kept : goal.returns-in_err-put-clause-kept
returns-in_err-put-clause-kept g c = keeps-then c.args.met.now c.loop-user.met c.put.new.self c.loop-user.invariant.1 c.put.ensures.kept
