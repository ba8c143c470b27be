-- Runs go along edges, and edges are runs, but for likeness.
use Rattle.std.specs.Prelude.{◌≡◌, ◌≤◌, ◌<◌, ◌⊎◌, ℕ, zero, suc, List, Some, length, slice_get}
use Rattle.std.proofs.Common.{refl, ap, sym, ◌∙◌, subst, inl, inr, arith}
use Rattle.mcs_explore_search.specs.declared.search.Edge.{Edge}
use Rattle.mcs_explore_search.specs.Paths.{Run, Steps}
use Rattle.mcs_explore_search.specs.Closure.{Visit, IsLikeness}
use Rattle.mcs_explore_search.specs.Search.{AreEdges, HasEdge, IsEdge}
use Rattle.mcs_explore_search.specs.Reaching.{AreWithin, IsLink, LeadsOut}
use Rattle.mcs_explore_search.proofs.Places.{at-within, same-place}

-- where a run from a place along edges ends, and what it is like
pub record IsAlong {A L : Type 0} (Like : A → A → Type 0) (visits : List (Visit A)) (edges : List (Edge L)) (i n : ℕ) (t : A) : Type 0 where
  pub end : ℕ
  pub visit : Visit A
  pub there : slice_get visits end ≡ Some visit
  pub run : Run (IsLink edges) i n end
  pub like : Like t visit.state

-- a number is less than another, or not
less-or-not : (m n : ℕ) → (m < n) ⊎ (n ≤ m)
less-or-not m zero = inr (omega arith)
less-or-not zero (suc n) = inl (omega arith)
less-or-not (suc m) (suc n) = go (less-or-not m n)
  where
    go : (m < n) ⊎ (n ≤ m) → (suc m < suc n) ⊎ (suc n ≤ suc m)
    go (inl l) = inl (omega (arith, l))
    go (inr l) = inr (omega (arith, l))

module _ {A L : Type 0} (Leads : L → A → A → Type 0) (Like : A → A → Type 0) (likes : IsLikeness (Steps Leads) Like) (d : ℕ) (visits : List (Visit A)) (edges : List (Edge L)) (are : AreEdges Leads Like d visits edges) where
  -- a run from a state that is like a visited one goes along edges, or these lead to a place that
  -- was not expanded
  pub along : (n i : ℕ) (v : Visit A) (s t : A) → slice_get visits i ≡ Some v → Like s v.state → Run (Steps Leads) s n t → IsAlong Like visits edges i n t ⊎ LeadsOut edges d (length visits) i
  along zero i v s t at like run = inl (record { end = i; visit = v; there = at; run = refl; like = subst (λ (x : A). Like x v.state) run like })
  along (suc n) i v s t at like run = on (along n i v s run.0 at like run.1.0)
    where
      step-on : (a : IsAlong Like visits edges i n run.0) → (a.end < d) ⊎ (d ≤ a.end) → IsAlong Like visits edges i (suc n) t ⊎ LeadsOut edges d (length visits) i
      step-on a (inl below) =
          let step = likes.respects run.0 a.visit.state t a.like run.1.1 in
          let e : HasEdge Like visits edges a.end step.1.0.0 step.0 = are.all a.end a.visit below a.there step.1.0.0 step.0 step.1.0.1 in
          inl (record {
            end = e.edge.to;
            visit = e.to;
            there = e.there;
            run = (a.end, (a.run, record { number = e.number; edge = e.edge; at = e.at; from = e.from; to = refl }));
            like = likes.trans t step.0 e.to.state step.1.1 e.like;
          })
      step-on a (inr beyond) = inr (record { steps = n; end = a.end; run = a.run; beyond = beyond; within = at-within visits a.end a.visit a.there })

      on : IsAlong Like visits edges i n run.0 ⊎ LeadsOut edges d (length visits) i → IsAlong Like visits edges i (suc n) t ⊎ LeadsOut edges d (length visits) i
      on (inl a) = step-on a (less-or-not a.end d)
      on (inr out) = inr out

  -- a run along edges, and an edge more
  link-on : ((s t : A) → Like s t → Like t s) → (n j m : ℕ) (w : Visit A) (s t : A) → slice_get visits j ≡ Some w → (l : IsLink edges m j) → (e : IsEdge Leads Like visits l.edge) → Run (Steps Leads) s n t → Like t e.from.state
      → (u : A) × (Run (Steps Leads) s (suc n) u × Like u w.state)
  link-on back n j m w s t there l e run like =
      let step = likes.respects e.from.state t e.state (back t e.from.state like) (l.edge.label, e.step) in
      let to : e.to ≡ w = same-place visits l.edge.to j e.to w l.to e.there there in
      (step.0, ((t, (run, step.1.0)), subst (λ (x : Visit A). Like step.0 x.state) to (likes.trans step.0 e.state e.to.state (back e.state step.0 step.1.1) e.like)))

  -- edges from a visited state are a run from each state that is like it
  pub runs-along : ((s t : A) → Like s t → Like t s) → (n i j : ℕ) (v w : Visit A) (s : A) → slice_get visits i ≡ Some v → slice_get visits j ≡ Some w → Like s v.state → Run (IsLink edges) i n j
      → (t : A) × (Run (Steps Leads) s n t × Like t w.state)
  runs-along back zero i j v w s at there like run = (s, (refl, subst (λ (x : Visit A). Like s x.state) (same-place visits i j v w run at there) like))
  runs-along back (suc n) i j v w s at there like run =
      let e : IsEdge Leads Like visits run.1.1.edge = are.each run.1.1.number run.1.1.edge run.1.1.at in
      let before = runs-along back n i run.0 v e.from s at (ap (λ (k : ℕ). slice_get visits k) (sym run.1.1.from) ∙ e.at) like run.1.0 in
      link-on back n j run.0 w s before.0 there run.1.1 e before.1.0 before.1.1

-- edges lie between visits
pub within : {A L : Type 0} (Leads : L → A → A → Type 0) (Like : A → A → Type 0) (d : ℕ) (visits : List (Visit A)) (edges : List (Edge L)) → AreEdges Leads Like d visits edges → AreWithin edges (length visits)
within Leads Like d visits edges are k e at = let o : IsEdge Leads Like visits e = are.each k e at in (at-within visits e.from o.from o.at, at-within visits e.to o.to o.there)
