use Rattle.std.proofs.Common.{arith}
use Rattle.mcs_explore_search.proofs.Backs.{one-back}
use Rattle.mcs_explore_search.proofs.search.Search.path.Goals as goal

pub loop-preserved : goal.loop-preserved
loop-preserved g c = record {
  end = c.loop.invariant.end;
  path = one-back c.args.self.now.map.entries c.loop.at c.depth-end.result c.loop.counter c.loop.labels.items c.push_label.new.labels.items c.back-label.result.0 c.back-label.result.1 _ (let lt = c.loop-test.true in omega (arith, lt))
      c.back-label.ensures.label c.back-label.ensures.parent c.in_ok-push_label.ensures c.loop.invariant.path;
}
