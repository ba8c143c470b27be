use Rattle.std.specs.Prelude.{◌-◌, ◌^◌, []}
use Rattle.mcs_explore_search.specs.Search.{AreFoundLast, AreNear, paths_below}
use Rattle.mcs_explore_search.specs.Keeping.{IsSearching}
use Rattle.mcs_explore_search.proofs.search.explore.Given as goal

abbrev pub invariant-loop-alloc : goal.invariant-loop-alloc
invariant-loop-alloc g l = record {
  later : g.M.System.Later l.fn.system l.system;
  near : AreNear l.fn.budget.depth l.search.done l.search.map.entries;
  few : AreFoundLast l.fn.budget.states l.search.done l.search.map.entries;
  seen : g.M.System.HasSeen l.fn.system [] → g.M.System.HasSeen l.system (paths_below l.search.map.entries l.search.done);
  searching : IsSearching g.M.Key.PartialEq.eq (g.M.System.Leads l.system) (g.M.System.Like l.system) (g.M.System.IsKey l.system) (g.M.System.start l.system) l.search.done l.search.map.entries l.search.edges.items;
}

abbrev pub decreases-loop-alloc : goal.decreases-loop-alloc
decreases-loop-alloc g l = 2 ^ 64 - l.search.done
