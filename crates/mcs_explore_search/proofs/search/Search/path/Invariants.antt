use Rattle.std.specs.Prelude.{◌≡◌, ◌-◌, ◌++◌, reverse}
use Rattle.mcs_explore_search.specs.Search.{depth_at, path_back, path_of}
use Rattle.mcs_explore_search.proofs.search.Search.path.Given as goal

abbrev pub invariant-loop : goal.invariant-loop
invariant-loop g l = record {
  end : l.end ≡ depth_at l.fn.self.map.entries l.fn.place;
  path : path_back l.fn.self.map.entries l.at (l.end - l.counter) ++ reverse l.labels.items ≡ path_of l.fn.self.map.entries l.fn.place;
}
