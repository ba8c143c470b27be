use Rattle.std.proofs.Common.{refl}
use Rattle.mcs_explore_search.proofs.Searching.{begun}
use Rattle.mcs_explore_search.proofs.Budgets.{one-first}
use Rattle.mcs_explore_search.proofs.search.begin.Goals as goal

pub returns-clause-one : goal.returns-clause-one
returns-clause-one g c = one-first g.M.Key.PartialEq.eq c.new-map.result.entries c.add.new.map.entries c.in_ok-key.key _ c.new-map.ensures.empty c.in_ok-add.ensures.adds

pub returns-clause-searching : goal.returns-clause-searching
returns-clause-searching g c =
    let m = c.first.new.self in
    begun g.M.Key.PartialEq.eq g.met.M.Key.Eq.laws (g.M.System.Leads m) (g.M.System.Like m) (g.M.System.IsKey m) (g.M.System.start m) (g.met.M.System.alike m) c.in_ok-key.key _ c.new-map.result.entries c.add.new.map.entries c.new.result.items c.new-map.ensures.empty c.new.ensures.items refl c.in_ok-key.ensures.key c.in_ok-add.ensures.adds
