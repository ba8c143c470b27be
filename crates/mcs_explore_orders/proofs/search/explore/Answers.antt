use Rattle.std.proofs.Common.{ap, sym, subst, ◌∙◌}
use Rattle.mcs_book.specs.Boots.{IsFaultless}
use Rattle.mcs_turns.specs.Turns.{AreInRange}
use Rattle.mcs_explore_equivalence.proofs.Alikes.{likeness}
use Rattle.mcs_explore_orders.specs.Exploring.{HasExactKeys}
use Rattle.mcs_explore_orders.specs.Seen.{AreAllSeen, IsGraphOfRuns}
use Rattle.mcs_explore_orders.specs.Shown.{HasCounted}
use Rattle.mcs_explore_orders.specs.Watching.{counting}
use Rattle.mcs_explore_orders.proofs.Telling.{begun, begun-is, none-counted, shown-all}
use Rattle.mcs_explore_orders.proofs.Whole.{all-reached, all-seen, edges-within, graph-of}
use Rattle.mcs_explore_orders.proofs.search.explore.Goals as goal

pub returns-clause-runs : goal.returns-clause-runs
returns-clause-runs g c =
    let e = c.in_ok-explorer.explorer.search in
    rw (← c.in_ok-explorer.ensures.users, ← c.in_ok-explorer.ensures.boot) (all-reached e.users e.boot c.in_ok-search.search.map.entries c.in_ok-search.ensures.reached)

pub returns-clause-whole : goal.returns-clause-whole
returns-clause-whole g c = λ all.
    let e = c.in_ok-explorer.explorer.search in
    let is = c.in_ok-explorer.ensures in
    let found = c.in_ok-search.search.map.entries in
    let known : HasExactKeys e = record { exact = is.exact ∙ all.keys.exact; boot = subst IsFaultless (sym is.boot) all.keys.faultless; in_range = subst AreInRange (sym is.users) all.keys.in_range } in
    subst (λ n. AreAllSeen n c.args.users.now c.args.boot.now found) is.numbered (subst (λ us. AreAllSeen e.keys.numbered us c.args.boot.now found) is.users (subst (λ b. AreAllSeen e.keys.numbered e.users b found) is.boot
    (all-seen e _ found known (likeness e.keys.numbered e.users e.boot known.boot known.in_range) (c.in_ok-search.ensures.whole all.all))))

pub returns-clause-within : goal.returns-clause-within
returns-clause-within g c =
    edges-within c.in_ok-explorer.explorer.search _ c.in_ok-search.search.map.entries c.in_ok-search.search.done c.in_ok-search.search.edges.items c.in_ok-search.ensures.graph

pub returns-clause-graph : goal.returns-clause-graph
returns-clause-graph g c = λ keys.
    let e = c.in_ok-explorer.explorer.search in
    let is = c.in_ok-explorer.ensures in
    let found = c.in_ok-search.search.map.entries in
    let done = c.in_ok-search.search.done in
    let edges = c.in_ok-search.search.edges.items in
    let known : HasExactKeys e = record { exact = is.exact ∙ keys.exact; boot = subst IsFaultless (sym is.boot) keys.faultless; in_range = subst AreInRange (sym is.users) keys.in_range } in
    subst (λ n. IsGraphOfRuns n c.args.users.now c.args.boot.now found done edges) is.numbered (subst (λ us. IsGraphOfRuns e.keys.numbered us c.args.boot.now found done edges) is.users (subst (λ b. IsGraphOfRuns e.keys.numbered e.users b found done edges) is.boot
    (graph-of e _ found done edges known (likeness e.keys.numbered e.users e.boot known.boot known.in_range) c.in_ok-search.ensures.graph)))

pub returns-clause-shown : goal.returns-clause-shown
returns-clause-shown g c = λ has.
    let e = c.in_ok-explorer.explorer in
    let f = c.explore.new.system in
    let is = c.in_ok-explorer.ensures in
    shown-all (HasCounted g.W.Watch.HasSeen) c.args.users.now c.args.boot.now e.search f.search (counting e) (counting f) (begun c.args.watch) _ is.users is.boot (begun-is e c.args.watch is.watch is.turns is.ends)
    c.explore.ensures.later.search c.in_ok-search.ensures.seen (none-counted g.W.Watch.HasSeen c.args.watch c.args.users.now has)

pub returns-clause-aim : goal.returns-clause-aim
returns-clause-aim g c = c.explore.ensures.later.aim ∙ ap g.W.Watch.aim c.in_ok-explorer.ensures.watch
