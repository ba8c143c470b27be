use Rattle.mcs_book.specs.History.{log_of}
use Rattle.mcs_explore_rows.specs.Rows.{object_at, object_numbers}
use Rattle.mcs_explore_rows.proofs.Naming.{keeps-then, rows-next}
use Rattle.mcs_explore_rows.proofs.exact.put_rows.Goals as goal

pub loop-place-preserved : goal.loop-place-preserved
loop-place-preserved g c = (
  rows-next c.args.met.now c.loop-place.met c.put.new.self c.args.numbers.now.items c.loop-place.numbers.items c.put.new.numbers.items
      (λ i. object_numbers c.args.changing c.args.numbered (log_of c.args.kernel.now) (object_at c.args.kind i)) c.loop-place.place c.in_ok-row.row.items c.in_ok-row.ensures c.loop-place.invariant.0 c.in_ok-put.ensures.named,
  keeps-then c.args.met.now c.loop-place.met c.put.new.self c.loop-place.invariant.1 c.put.ensures.kept,
)

pub returns-in_err-put-clause-kept : goal.returns-in_err-put-clause-kept
returns-in_err-put-clause-kept g c = keeps-then c.args.met.now c.loop-place.met c.put.new.self c.loop-place.invariant.1 c.put.ensures.kept
