use Rattle.std.proofs.Common.{◌≡◌, ◌+◌, ◌∷◌, [], ◌++◌, List, length, refl, sym, ap, subst, ◌∙◌, append_assoc, append-nil, arith, rules}
use Rattle.std.proofs.lemmas.List.{length_push}
use Rattle.std.specs.Vec.Iter.{into_iter_items}
use Rattle.mcs_explore_search.specs.Keeping.{IsAmid}
use Rattle.mcs_explore_search.proofs.Places.{nth-next}
use Rattle.mcs_explore_search.proofs.Searching.{amid, looked}
use Rattle.mcs_explore_search.proofs.Seeing.{longer-on, not-longer}
use Rattle.mcs_explore_search.proofs.Budgets.{from-none, from-on}
use Rattle.mcs_explore_search.proofs.search.add_all.Goals as goal

nothing-left : {X : Type 0} (l : List X) → length l ≡ 0 → l ≡ []
nothing-left [] h = refl
nothing-left (x ∷ xs) h = absurd (omega arith)

pub loop-label-init : goal.loop-label-init
loop-label-init g c = record {
  goes = λ m visits k f v search edges at there deep are. record {
    visits = visits;
    search = search;
    at = at;
    there = there;
    found = λ i l x below. absurd (omega (arith, below));
    before = edges;
    more = [];
    longer = sym (append-nil c.args.edges.now.items);
    few = refl;
    linked = λ i l x below. absurd (omega (arith, below));
  };
  longer = not-longer c.args.map.now.entries;
  from = from-none c.args.place c.args.map.now.entries;
  count = search rules;
  list = c.into_iter-label-iterator.ensures.into_iter_gives.0;
}

pub loop-label-preserved : goal.loop-label-preserved
loop-label-preserved g c =
    let at = c.loop-label in
    let l = c.in-Some.label in
    let k = c.in-Some.key in
    let steps : into_iter_items at.label-iterator ≡ (l, k) ∷ into_iter_items c.next.new.self = c.in-Some.ensures.steps.0 in
    let list : at.yielded ++ (l, k) ∷ into_iter_items c.next.new.self ≡ c.args.nexts.items = rw (← steps) at.invariant.list in
    record {
      goes = λ m visits key f v search edges is there deep are. subst (λ n. IsAmid g.M.Key.PartialEq.eq (g.M.System.Leads m) (g.M.System.Like m) (g.M.System.IsKey m) (g.M.System.start m) c.args.place c.add.new.map.entries key f v c.args.nexts.items n c.args.edges.now.items c.push_edge.new.edges.items) (sym (length_push at.yielded (l, k)))
          (amid g.M.Key.PartialEq.eq g.met.M.Key.Eq.laws (g.M.System.Leads m) (g.M.System.Like m) (g.M.System.IsKey m) (g.M.System.start m) c.args.place at.map.entries c.add.new.map.entries key f _ v c.args.nexts.items (length at.yielded) l k
          c.args.edges.now.items at.edges.items c.push_edge.new.edges.items c.in_ok-to.to are
          (nth-next at.yielded (l, k) _ _ list) (c.in_ok-found.ensures.depth ∙ ap (λ n. n + 1) deep) c.in_ok-found.ensures.parent c.in_ok-found.ensures.label (at.invariant.goes m visits key f v search edges is there deep are) c.in_ok-to.ensures.adds c.in_ok-to.ensures.place c.in_ok-push_edge.ensures);
      from = from-on g.M.Key.PartialEq.eq c.args.place c.args.map.now.entries at.map.entries c.add.new.map.entries k _ at.invariant.from at.invariant.longer c.in_ok-found.ensures.parent c.in_ok-to.ensures.adds;
      longer = longer-on g.M.Key.PartialEq.eq c.args.map.now.entries at.map.entries c.add.new.map.entries _ _ at.invariant.longer c.in_ok-to.ensures.adds;
      count = let was = at.invariant.count in let gone = c.in-Some.ensures.steps.1 in let short = ap length steps in omega (arith, was, gone, short);
      list = append_assoc at.yielded ((l, k) ∷ []) _ ∙ list;
    }

pub returns-clause-goes : goal.returns-clause-goes
returns-clause-goes g c = λ m visits key f v search edges is there deep are.
    let at = c.loop-label in
    let none = c.in-None.ensures.steps in
    let empty : into_iter_items at.label-iterator ≡ [] = nothing-left _ (sym at.invariant.count ∙ none.0) in
    let all : at.yielded ≡ c.args.nexts.items = sym (append-nil at.yielded) ∙ rw empty at at.invariant.list in
    looked g.M.Key.PartialEq.eq g.met.M.Key.Eq.laws (g.M.System.Leads m) (g.M.System.Like m) (g.M.System.IsKey m) (g.M.System.start m) (g.met.M.System.alike m) (g.met.M.System.as_good m) c.args.place at.map.entries key f v c.args.nexts.items
    c.args.edges.now.items at.edges.items are
    (subst (λ l. IsAmid g.M.Key.PartialEq.eq (g.M.System.Leads m) (g.M.System.Like m) (g.M.System.IsKey m) (g.M.System.start m) c.args.place at.map.entries key f v c.args.nexts.items (length l) c.args.edges.now.items at.edges.items) all
    (at.invariant.goes m visits key f v search edges is there deep are))
