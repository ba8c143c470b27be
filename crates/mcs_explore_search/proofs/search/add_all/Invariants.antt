use Rattle.std.specs.Prelude.{◌≡◌, ◌++◌, List, length, slice_get, Some}
use Rattle.mcs_explore_search.specs.declared.search.Found.{Found}
use Rattle.mcs_explore_search.specs.Closure.{Visit}
use Rattle.mcs_explore_search.specs.Search.{At, AreEdges, AreNexts}
use Rattle.mcs_explore_search.specs.Keeping.{AreFrom, IsAmid, IsLonger, IsSearch}
use Rattle.mcs_explore_search.proofs.search.add_all.Given as goal

abbrev pub invariant-loop-label : goal.invariant-loop-label
invariant-loop-label g l = record {
  goes : (m : g.row.M.Denot) (visits : List (Visit g.M.System.State)) (k : g.row.M-Key.Denot) (f : Found g.row.M-Label.Denot) (v : Visit g.M.System.State)
      → IsSearch g.M.Key.PartialEq.eq (g.M.System.Leads m) (g.M.System.Like m) (g.M.System.IsKey m) (g.M.System.start m) l.fn.place l.fn.map.entries visits
      → AreEdges (g.M.System.Leads m) (g.M.System.Like m) l.fn.place visits l.fn.edges.items → At l.fn.map.entries l.fn.place k f → slice_get visits l.fn.place ≡ Some v
      → l.fn.depth ≡ f.depth → AreNexts (g.M.System.Leads m) (g.M.System.IsKey m) v.state l.fn.nexts.items
      → IsAmid g.M.Key.PartialEq.eq (g.M.System.Leads m) (g.M.System.Like m) (g.M.System.IsKey m) (g.M.System.start m) l.fn.place l.map.entries k f v l.fn.nexts.items (length l.yielded) l.fn.edges.items l.edges.items;
  longer : IsLonger l.fn.map.entries l.map.entries;
  from : AreFrom l.fn.place l.fn.map.entries l.map.entries;
  count : l.label-iterator.rest.len ≡ length l.label-iterator.rest.items;
  list : l.yielded ++ l.label-iterator.rest.items ≡ l.fn.nexts.items;
}
