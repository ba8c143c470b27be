use Rattle.std.proofs.Common.{sym, rules}
use Rattle.mcs_explore_search.proofs.Places.{adds-old, adds-new, has-place, place-new}
use Rattle.mcs_explore_search.proofs.search.add.Goals.{in-Ok, in-Err}
use Rattle.mcs_explore_search.proofs.search.add.Goals as goal

pub returns-in-Some-clause-adds : goal.returns-in-Some-clause-adds
returns-in-Some-clause-adds g c = adds-old _ c.args.map.now c.args.map.now c.args.key c.args.found (sym c.in-Some.ensures.found)

pub returns-in-Some-clause-place : goal.returns-in-Some-clause-place
returns-in-Some-clause-place g c = has-place _ c.args.map.now.entries c.args.key c.in-Some.place c.in-Some.ensures.within (sym c.in-Some.ensures.index)

pub returns-clause-adds : goal.returns-clause-adds
returns-clause-adds g c = elim c.match-insert.branch [
  | in-Ok w ↦ rw (w.result-is) (adds-new _ c.args.map.now c.insert.new.self c.args.key c.args.found (sym c.in_default.ensures.found) w.in-Ok.ensures.entries)
  | in-Err w ↦ rw (w.result-is) (search rules)
]

pub returns-clause-place : goal.returns-clause-place
returns-clause-place g c = elim c.match-insert.branch [
  | in-Ok w ↦ rw (w.result-is) (place-new _ c.args.map.now c.insert.new.self c.args.key c.args.found g.met.K.Eq.laws (sym c.in_default.ensures.found) w.in-Ok.ensures.entries c.len-place.result c.len-place.ensures.len)
  | in-Err w ↦ rw (w.result-is) (search rules)
]
