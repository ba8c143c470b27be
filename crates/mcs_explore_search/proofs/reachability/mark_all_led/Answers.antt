use Rattle.mcs_explore_search.proofs.Marks.{marking-on}
use Rattle.mcs_explore_search.proofs.reachability.mark_all_led.Goals as goal

pub loop-preserved : goal.loop-preserved
loop-preserved g c = marking-on c.args.edges.now c.args.marks.now.items c.loop.marks.items c.sweep.new.marks.items _ _ c.loop.invariant c.sweep.ensures
