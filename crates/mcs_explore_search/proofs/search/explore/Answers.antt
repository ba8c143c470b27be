use Rattle.std.proofs.Common.{subst, sym}
use Rattle.mcs_explore_search.specs.Search.{paths_below}
use Rattle.mcs_explore_search.proofs.Ending.{search-again, reached, closed-below, graph, whole, least, all-found}
use Rattle.mcs_explore_search.proofs.Budgets.{near-first, few-first, near-on, few-on}
use Rattle.mcs_explore_search.proofs.search.explore.Goals as goal

pub loop-alloc-init : goal.loop-alloc-init
loop-alloc-init g c = record {
  later = c.begin.ensures.later;
  near = near-first c.args.budget.depth c.in_ok-search.search.done c.in_ok-search.search.map.entries c.in_ok-search.ensures.begun;
  few = few-first c.args.budget.states c.in_ok-search.search.done c.in_ok-search.search.map.entries c.in_ok-search.ensures.one;
  seen = λ begun. subst (λ n. g.M.System.HasSeen c.begin.new.system (paths_below c.in_ok-search.search.map.entries n)) (sym c.in_ok-search.ensures.begun) (c.in_ok-search.ensures.seen begun);
  searching = c.in_ok-search.ensures.searching;
}

pub loop-alloc-preserved : goal.loop-alloc-preserved
loop-alloc-preserved g c = record {
  later = g.met.M.System.further c.args.system.now c.loop-alloc.system c.expand.new.system c.loop-alloc.invariant.later c.expand.ensures.later;
  seen = λ begun. c.in_ok-expand.ensures.seen (c.loop-alloc.invariant.seen begun);
  searching = c.in_ok-expand.ensures.searching;
  near = near-on c.args.budget.depth c.loop-alloc.search.done c.expand.new.search.done c.loop-alloc.search.map.entries c.expand.new.search.map.entries c.in_ok-expand.ensures.done
      (c.goes_on.ensures.more c.loop-alloc-test.true) (c.goes_on.ensures.depth c.loop-alloc-test.true) c.in_ok-expand.ensures.longer c.loop-alloc.invariant.near;
  few = few-on c.args.budget.states c.loop-alloc.search.done c.expand.new.search.done c.loop-alloc.search.map.entries c.expand.new.search.map.entries c.in_ok-expand.ensures.done
      (c.goes_on.ensures.states c.loop-alloc-test.true) c.in_ok-expand.ensures.from;
}

pub returns-in_err-expand-clause-later : goal.returns-in_err-expand-clause-later
returns-in_err-expand-clause-later g c = g.met.M.System.further c.args.system.now c.loop-alloc.system c.expand.new.system c.loop-alloc.invariant.later c.expand.ensures.later

pub returns-clause-reached : goal.returns-clause-reached
returns-clause-reached g c =
    let m = c.args.system.now in
    let n = c.loop-alloc.system in
    let later = c.loop-alloc.invariant.later in
    reached g.M.Key.PartialEq.eq g.met.M.Key.Eq.laws (g.M.System.Leads m) (g.M.System.Like m) (g.M.System.IsKey n) (g.M.System.start m) c.loop-alloc.search.done c.loop-alloc.search.map.entries
    (search-again g.M.Key.PartialEq.eq (g.M.System.Leads n) (g.M.System.Leads m) (g.M.System.Like n) (g.M.System.Like m) (g.M.System.IsKey n) (g.M.System.IsKey n) (g.M.System.start n) (g.M.System.start m)
    (sym (g.met.M.System.keeps_start m n later)) (λ l s t. let is = g.met.M.System.keeps_steps m n later l s t in (is.1, is.0)) (λ s t. (g.met.M.System.keeps_likeness m n later s t).1) (λ s k h. h)
    c.loop-alloc.search.done c.loop-alloc.search.map.entries c.loop-alloc.search.edges.items c.loop-alloc.invariant.searching)

pub returns-clause-closed : goal.returns-clause-closed
returns-clause-closed g c =
    let m = c.args.system.now in
    let n = c.loop-alloc.system in
    let later = c.loop-alloc.invariant.later in
    closed-below g.M.Key.PartialEq.eq g.met.M.Key.Eq.laws (g.M.System.Leads m) (g.M.System.Like m) (g.M.System.IsKey n) (g.M.System.start m) c.loop-alloc.search.done c.loop-alloc.search.map.entries
    (search-again g.M.Key.PartialEq.eq (g.M.System.Leads n) (g.M.System.Leads m) (g.M.System.Like n) (g.M.System.Like m) (g.M.System.IsKey n) (g.M.System.IsKey n) (g.M.System.start n) (g.M.System.start m)
    (sym (g.met.M.System.keeps_start m n later)) (λ l s t. let is = g.met.M.System.keeps_steps m n later l s t in (is.1, is.0)) (λ s t. (g.met.M.System.keeps_likeness m n later s t).1) (λ s k h. h)
    c.loop-alloc.search.done c.loop-alloc.search.map.entries c.loop-alloc.search.edges.items c.loop-alloc.invariant.searching)

pub returns-clause-whole : goal.returns-clause-whole
returns-clause-whole g c =
    let m = c.args.system.now in
    let n = c.loop-alloc.system in
    let later = c.loop-alloc.invariant.later in
    whole g.M.Key.PartialEq.eq g.met.M.Key.Eq.laws (g.M.System.Leads m) (g.M.System.Like m) (g.M.System.IsKey n) (g.M.System.start m) c.loop-alloc.search.done c.loop-alloc.search.map.entries
    (search-again g.M.Key.PartialEq.eq (g.M.System.Leads n) (g.M.System.Leads m) (g.M.System.Like n) (g.M.System.Like m) (g.M.System.IsKey n) (g.M.System.IsKey n) (g.M.System.start n) (g.M.System.start m)
    (sym (g.met.M.System.keeps_start m n later)) (λ l s t. let is = g.met.M.System.keeps_steps m n later l s t in (is.1, is.0)) (λ s t. (g.met.M.System.keeps_likeness m n later s t).1) (λ s k h. h)
    c.loop-alloc.search.done c.loop-alloc.search.map.entries c.loop-alloc.search.edges.items c.loop-alloc.invariant.searching)

pub returns-clause-graph : goal.returns-clause-graph
returns-clause-graph g c =
    let m = c.args.system.now in
    let n = c.loop-alloc.system in
    let later = c.loop-alloc.invariant.later in
    graph g.M.Key.PartialEq.eq g.met.M.Key.Eq.laws (g.M.System.Leads m) (g.M.System.Like m) (g.M.System.IsKey n) (g.M.System.start m) c.loop-alloc.search.done c.loop-alloc.search.map.entries
    (search-again g.M.Key.PartialEq.eq (g.M.System.Leads n) (g.M.System.Leads m) (g.M.System.Like n) (g.M.System.Like m) (g.M.System.IsKey n) (g.M.System.IsKey n) (g.M.System.start n) (g.M.System.start m)
    (sym (g.met.M.System.keeps_start m n later)) (λ l s t. let is = g.met.M.System.keeps_steps m n later l s t in (is.1, is.0)) (λ s t. (g.met.M.System.keeps_likeness m n later s t).1) (λ s k h. h)
    c.loop-alloc.search.done c.loop-alloc.search.map.entries c.loop-alloc.search.edges.items c.loop-alloc.invariant.searching)

pub returns-clause-least : goal.returns-clause-least
returns-clause-least g c = λ likes one.
    let m = c.args.system.now in
    let n = c.loop-alloc.system in
    let later = c.loop-alloc.invariant.later in
    least g.M.Key.PartialEq.eq g.met.M.Key.Eq.laws (g.M.System.Leads m) (g.M.System.Like m) (g.M.System.IsKey n) (g.M.System.start m) c.loop-alloc.search.done c.loop-alloc.search.map.entries
    (search-again g.M.Key.PartialEq.eq (g.M.System.Leads n) (g.M.System.Leads m) (g.M.System.Like n) (g.M.System.Like m) (g.M.System.IsKey n) (g.M.System.IsKey n) (g.M.System.start n) (g.M.System.start m)
    (sym (g.met.M.System.keeps_start m n later)) (λ l s t. let is = g.met.M.System.keeps_steps m n later l s t in (is.1, is.0)) (λ s t. (g.met.M.System.keeps_likeness m n later s t).1) (λ s k h. h)
    c.loop-alloc.search.done c.loop-alloc.search.map.entries c.loop-alloc.search.edges.items c.loop-alloc.invariant.searching) likes one

pub returns-clause-all : goal.returns-clause-all
returns-clause-all g c = λ whole likes one.
    let m = c.args.system.now in
    let n = c.loop-alloc.system in
    let later = c.loop-alloc.invariant.later in
    all-found g.M.Key.PartialEq.eq g.met.M.Key.Eq.laws (g.M.System.Leads m) (g.M.System.Like m) (g.M.System.IsKey n) (g.M.System.start m) c.loop-alloc.search.done c.loop-alloc.search.map.entries
    (search-again g.M.Key.PartialEq.eq (g.M.System.Leads n) (g.M.System.Leads m) (g.M.System.Like n) (g.M.System.Like m) (g.M.System.IsKey n) (g.M.System.IsKey n) (g.M.System.start n) (g.M.System.start m)
    (sym (g.met.M.System.keeps_start m n later)) (λ l s t. let is = g.met.M.System.keeps_steps m n later l s t in (is.1, is.0)) (λ s t. (g.met.M.System.keeps_likeness m n later s t).1) (λ s k h. h)
    c.loop-alloc.search.done c.loop-alloc.search.map.entries c.loop-alloc.search.edges.items c.loop-alloc.invariant.searching) likes one whole
