use Rattle.std.proofs.Common.{arith, subst}
use Rattle.mcs_explore_search.proofs.Ending.{open-at, again, edges-again, depth-given}
use Rattle.mcs_explore_search.proofs.Seeing.{paths-long, paths-on}
use Rattle.mcs_explore_search.proofs.search.expand.Goals as goal

pub nexts_of-requires : goal.nexts_of-requires
nexts_of-requires g c =
    let m = c.args.system.now in
    let o = open-at g.M.Key.PartialEq.eq g.met.M.Key.Eq.laws (g.M.System.Leads m) (g.M.System.Like m) (g.M.System.IsKey m) (g.M.System.start m) c.args.search.now.done c.args.search.now.map.entries c.requires.searching c.requires.more in
    (o.visit.state, o.reached.path)

pub add_all-requires : goal.add_all-requires
add_all-requires g c =
    let m = c.args.system.now in
    let o = open-at g.M.Key.PartialEq.eq g.met.M.Key.Eq.laws (g.M.System.Leads m) (g.M.System.Like m) (g.M.System.IsKey m) (g.M.System.start m) c.args.search.now.done c.args.search.now.map.entries c.requires.searching c.requires.more in
    let is = depth-given c.args.search.now.map.entries c.args.search.now.done o.key o.found o.at c.depth-depth.result c.depth-depth.ensures in
    let small = o.small in
    let room = c.requires.room in
    record { room = omega (arith, is, small, room) }

pub returns-clause-searching : goal.returns-clause-searching
returns-clause-searching g c =
    let m = c.args.system.now in
    let n = c.nexts_of.new.system in
    let E = c.args.search.now.map.entries in
    let d = c.args.search.now.done in
    let later = c.nexts_of.ensures.later in
    let o = open-at g.M.Key.PartialEq.eq g.met.M.Key.Eq.laws (g.M.System.Leads m) (g.M.System.Like m) (g.M.System.IsKey m) (g.M.System.start m) d E c.requires.searching c.requires.more in
    let b =
    again g.M.Key.PartialEq.eq (g.M.System.Leads m) (g.M.System.Leads n) (g.M.System.Like m) (g.M.System.Like n) (g.M.System.IsKey m) (g.M.System.IsKey n) (g.M.System.start m) (g.M.System.start n)
    (g.met.M.System.keeps_start m n later) (g.met.M.System.keeps_steps m n later) (λ s t. (g.met.M.System.keeps_likeness m n later s t).0) (g.met.M.System.keeps_keys m n later) d E c.requires.searching.visits c.requires.searching.is in
    let edges =
    edges-again g.M.Key.PartialEq.eq (g.M.System.Leads m) (g.M.System.Leads n) (g.M.System.Like m) (g.M.System.Like n) (g.M.System.IsKey m) (g.M.System.IsKey n) (g.M.System.start m) (g.M.System.start n)
    (g.met.M.System.keeps_start m n later) (g.met.M.System.keeps_steps m n later) (λ s t. (g.met.M.System.keeps_likeness m n later s t).0) (g.met.M.System.keeps_keys m n later) d c.requires.searching.visits c.args.search.now.edges.items c.requires.searching.edges in
    c.in_ok-add_all.ensures.goes n c.requires.searching.visits o.key o.found o.visit b edges o.at o.there (depth-given E d o.key o.found o.at c.depth-depth.result c.depth-depth.ensures)
    (c.in_ok-nexts.ensures.nexts o.visit.state o.reached.path)

pub returns-clause-seen : goal.returns-clause-seen
returns-clause-seen g c = λ seen.
    let m = c.args.system.now in
    let E = c.args.search.now.map.entries in
    let d = c.args.search.now.done in
    subst (λ ps. g.M.System.HasSeen c.nexts_of.new.system ps)
    (paths-on (g.M.System.Leads m) (g.M.System.IsKey m) (g.M.System.start m) E c.add_all.new.map.entries c.requires.searching.visits c.requires.searching.is.grown c.in_ok-add_all.ensures.longer d c.requires.more)
    (c.in_ok-nexts.ensures.seen _ seen (paths-long E d))
