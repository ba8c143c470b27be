-- A search that has seen all.
use Rattle.std.specs.Prelude.{ℕ, zero, suc, ◌≡◌, ◌≤◌, ◌<◌, ◌⊎◌, List, [], ◌∷◌, Some, length, map, slice_get}
use Rattle.std.proofs.Common.{refl, sym, ◌∙◌, ap, subst, inl, inr, arith}
use Rattle.std.proofs.lemmas.List.{length-map}
use Rattle.mcs_book.specs.Boots.{Boot}
use Rattle.mcs_turns.specs.Turns.{User, RunState, Follows, IsRun, beginning}
use Rattle.mcs_explore_search.specs.declared.search.Edge.{Edge}
use Rattle.mcs_explore_search.specs.declared.search.Found.{Found}
use Rattle.mcs_explore_search.specs.Closure.{IsLikeness, Visit}
use Rattle.mcs_explore_search.specs.Paths.{Run, Steps}
use Rattle.mcs_explore_search.specs.Reaching.{AreWithin, IsLink, LeadsOut}
use Rattle.mcs_explore_search.specs.Search.{At, Entries, AreReached, HasEdge, IsEdge, IsGraph, IsReached, IsWhole, depth_at}
use Rattle.mcs_explore_search.proofs.Links.{IsAlong, along, runs-along, within}
use Rattle.mcs_explore_search.proofs.Places.{at-within, within-at, some-same}
use Rattle.mcs_explore_search.proofs.Runs.{every-run}
use Rattle.mcs_explore_walk.specs.declared.walk.Turn.{Turn}
use Rattle.mcs_explore_equivalence.specs.Runs.{AreAlike}
use Rattle.mcs_explore_equivalence.proofs.Alikes.{alike-back}
use Rattle.mcs_explore_orders.specs.Trails.{Leads}
use Rattle.mcs_explore_orders.specs.Exploring.{Exploring, HasExactKeys, LooksLike}
use Rattle.mcs_explore_orders.specs.Seen.{AreAllSeen, AreFoundRuns, HasTurnEdge, IsAlongEdges, IsFoundRun, IsGraphOfRuns, IsTurnEdge}

-- the depth of an entry
deep : {K : Type 0} (E : Entries K Turn) (i : ℕ) (k : K) (f : Found Turn) → At E i k f → depth_at E i ≡ f.depth
deep E i k f at = rw (at, depth_at) refl

-- runs as steps
run-steps : (users : List User) (boot : Boot) (n : ℕ) (g : RunState) → IsRun users boot n g → Run (Steps (Leads users)) (beginning users boot) n g
run-steps users boot zero g r = sym r
run-steps users boot (suc n) g r = (r.0, (run-steps users boot n r.0 r.1.0, (record { core = r.1.1.core; pick = r.1.1.pick }, r.1.1.turn)))

pub steps-run : (users : List User) (boot : Boot) (n : ℕ) (g : RunState) → Run (Steps (Leads users)) (beginning users boot) n g → IsRun users boot n g
steps-run users boot zero g r = sym r
steps-run users boot (suc n) g r = (r.0, (steps-run users boot n r.0 r.1.0, record { core = r.1.1.0.core; pick = r.1.1.0.pick; turn = r.1.1.1 }))

-- likeness, where keys are exact
looks-likeness : (e : Exploring) → HasExactKeys e → IsLikeness (Follows e.users) (AreAlike e.keys.numbered e.users e.boot) → IsLikeness (Steps (Leads e.users)) (LooksLike e)
looks-likeness e known l = record {
  trans = λ s t u a b x. l.trans s t u (a known) (b known);
  respects = λ s v t like step.
      let w = l.respects s v t (like known) (record { core = step.0.core; pick = step.0.pick; turn = step.1 }) in
      (w.0, ((record { core = w.1.0.core; pick = w.1.0.pick }, w.1.0.turn), λ x. w.1.1));
}

module _ {K : Type 0} (users : List User) (boot : Boot) (E : Entries K Turn) where
  -- an entry, its depth and its run
  found-run : {IsKey : RunState → K → Type 0} (i : ℕ) (k : K) (f : Found Turn) (g : RunState) → At E i k f
      → IsReached (Leads users) IsKey (beginning users boot) E i k f g → IsFoundRun users boot E i g
  found-run i k f g at r = record {
    run = subst (λ n. IsRun users boot n g) (sym (deep E i k f at)) (steps-run users boot f.depth g r.run);
    path = r.path;
  }

  pub all-reached : {IsKey : RunState → K → Type 0} → AreReached (Leads users) IsKey (beginning users boot) E → AreFoundRuns users boot E
  all-reached reached i within =
      let e = within-at E i within in
      let r = reached i e.0.0 e.0.1 e.1 in
      (r.0, found-run i e.0.0 e.0.1 r.0 e.1 r.1)

-- where all that was found was expanded, each run is seen
pub all-seen : {K : Type 0} (e : Exploring) (IsKey : RunState → K → Type 0) (E : Entries K Turn) → HasExactKeys e
    → IsLikeness (Follows e.users) (AreAlike e.keys.numbered e.users e.boot)
    → IsWhole (Leads e.users) (LooksLike e) IsKey (beginning e.users e.boot) E → AreAllSeen e.keys.numbered e.users e.boot E
all-seen e IsKey E known likeness whole n g run =
    let v = every-run (Steps (Leads e.users)) (LooksLike e) (looks-likeness e known likeness) (beginning e.users e.boot) whole.visits whole.closed n g (run-steps e.users e.boot n g run) in
    let within : v.place < length E = subst (λ m. v.place < m) whole.are.long (at-within whole.visits v.place v.visit v.at) in
    let at = within-at E v.place within in
    let is = whole.are.each v.place at.0.0 at.0.1 at.1 in
    let same : v.visit ≡ is.visit = some-same v.visit is.visit (sym v.at ∙ is.there) in
    record {
      place = v.place;
      within = within;
      run_state = is.visit.state;
      is = found-run e.users e.boot E v.place at.0.0 at.0.1 is.visit.state at.1 is.reached;
      like = subst (λ (w : Visit RunState). AreAlike e.keys.numbered e.users e.boot g w.state) same (v.like known);
      near = let near = v.near in let same_depth = is.deep in let known = deep E v.place at.0.0 at.0.1 at.1 in let both = ap (λ (w : Visit RunState). w.depth) same in omega (arith, near, same_depth, known, both);
    }

-- runs of turns as steps, from any state
follows-steps : (users : List User) (n : ℕ) (g h : RunState) → Run (Follows users) g n h → Run (Steps (Leads users)) g n h
follows-steps users zero g h r = r
follows-steps users (suc n) g h r = (r.0, (follows-steps users n g r.0 r.1.0, (record { core = r.1.1.core; pick = r.1.1.pick }, r.1.1.turn)))

steps-follows : (users : List User) (n : ℕ) (g h : RunState) → Run (Steps (Leads users)) g n h → Run (Follows users) g n h
steps-follows users zero g h r = r
steps-follows users (suc n) g h r = (r.0, (steps-follows users n g r.0 r.1.0, record { core = r.1.1.0.core; pick = r.1.1.0.pick; turn = r.1.1.1 }))

-- what is in a place of a list of visits' states
state-at : (vs : List (Visit RunState)) (i : ℕ) (v : Visit RunState) → slice_get vs i ≡ Some v → slice_get (map (λ (w : Visit RunState). w.state) vs) i ≡ Some v.state
state-at [] i v at = absurd cc
state-at (w ∷ vs) zero v at = ap (λ (x : Visit RunState). Some x.state) (some-same w v at)
state-at (w ∷ vs) (suc i) v at = state-at vs i v at

visit-at : (vs : List (Visit RunState)) (i : ℕ) (g : RunState) → slice_get (map (λ (w : Visit RunState). w.state) vs) i ≡ Some g → (v : Visit RunState) × ((slice_get vs i ≡ Some v) × (v.state ≡ g))
visit-at [] i g at = absurd cc
visit-at (w ∷ vs) zero g at = (w, (refl, some-same w.state g at))
visit-at (w ∷ vs) (suc i) g at = visit-at vs i g at

-- edges lie between the states that were found
pub edges-within : {K : Type 0} (e : Exploring) (IsKey : RunState → K → Type 0) (E : Entries K Turn) (d : ℕ) (G : List (Edge Turn)) → IsGraph (Leads e.users) (LooksLike e) IsKey (beginning e.users e.boot) d E G → AreWithin G (length E)
edges-within e IsKey E d G graph = subst (λ n. AreWithin G n) graph.are.long (within (Leads e.users) (LooksLike e) d graph.visits G graph.edges)

-- the edges of what was found are the runs, as far as it was expanded
pub graph-of : {K : Type 0} (e : Exploring) (IsKey : RunState → K → Type 0) (E : Entries K Turn) (d : ℕ) (G : List (Edge Turn)) → HasExactKeys e → IsLikeness (Follows e.users) (AreAlike e.keys.numbered e.users e.boot)
    → IsGraph (Leads e.users) (LooksLike e) IsKey (beginning e.users e.boot) d E G → IsGraphOfRuns e.keys.numbered e.users e.boot E d G
graph-of e IsKey E d G known likeness graph = record {
  states = map (λ (w : Visit RunState). w.state) graph.visits;
  long = length-map graph.visits (λ (w : Visit RunState). w.state) ∙ graph.are.long;
  each = each;
  turns = turns;
  all = all;
  along = along-edges;
  runs = runs;
}
  where
    likes : IsLikeness (Steps (Leads e.users)) (LooksLike e)
    likes = looks-likeness e known likeness

    each : (i : ℕ) (g : RunState) → slice_get (map (λ (w : Visit RunState). w.state) graph.visits) i ≡ Some g → IsFoundRun e.users e.boot E i g
    each i g at =
        let v = visit-at graph.visits i g at in
        let in_found : i < length E = subst (λ m. i < m) graph.are.long (at-within graph.visits i v.0 v.1.0) in
        let x = within-at E i in_found in
        let is = graph.are.each i x.0.0 x.0.1 x.1 in
        let same : is.visit ≡ v.0 = some-same is.visit v.0 (sym is.there ∙ v.1.0) in
        subst (λ h. IsFoundRun e.users e.boot E i h) (ap (λ (w : Visit RunState). w.state) same ∙ v.1.1) (found-run e.users e.boot E i x.0.0 x.0.1 is.visit.state x.1 is.reached)

    -- each edge is a turn
    turns : (n : ℕ) (x : Edge Turn) → slice_get G n ≡ Some x → IsTurnEdge e.keys.numbered e.users e.boot (map (λ (w : Visit RunState). w.state) graph.visits) x
    turns n x at = let o : IsEdge (Leads e.users) (LooksLike e) graph.visits x = graph.edges.each n x at in
        record {
          from = o.from.state;
          at = state-at graph.visits x.from o.from o.at;
          to = o.to.state;
          there = state-at graph.visits x.to o.to o.there;
          after = o.state;
          turn = o.step;
          like = o.like known;
        }

    -- and each turn from an expanded state has one
    all : (i : ℕ) (g h : RunState) (t : Turn) → i < d → slice_get (map (λ (w : Visit RunState). w.state) graph.visits) i ≡ Some g → Leads e.users t g h → HasTurnEdge e.keys.numbered e.users e.boot (map (λ (w : Visit RunState). w.state) graph.visits) G i t h
    all i g h t below at step =
        let v = visit-at graph.visits i g at in
        let o : HasEdge (LooksLike e) graph.visits G i t h = graph.edges.all i v.0 below v.1.0 t h (subst (λ (m : RunState). Leads e.users t m h) (sym v.1.1) step) in
        record {
          number = o.number;
          edge = o.edge;
          at = o.at;
          from = o.from;
          turn = o.label;
          to = o.to.state;
          there = state-at graph.visits o.edge.to o.to o.there;
          like = o.like known;
        }

    along-edges : (n i : ℕ) (g h k : RunState) → slice_get (map (λ (w : Visit RunState). w.state) graph.visits) i ≡ Some g → AreAlike e.keys.numbered e.users e.boot h g → Run (Follows e.users) h n k
        → IsAlongEdges e.keys.numbered e.users e.boot (map (λ (w : Visit RunState). w.state) graph.visits) G i n k ⊎ LeadsOut G d (length E) i
    along-edges n i g h k at like run =
        let v = visit-at graph.visits i g at in
        on (along (Leads e.users) (LooksLike e) likes d graph.visits G graph.edges n i v.0 h k v.1.0 (λ x. subst (λ (m : RunState). AreAlike e.keys.numbered e.users e.boot h m) (sym v.1.1) like) (follows-steps e.users n h k run))
      where
        on : IsAlong (LooksLike e) graph.visits G i n k ⊎ LeadsOut G d (length graph.visits) i → IsAlongEdges e.keys.numbered e.users e.boot (map (λ (w : Visit RunState). w.state) graph.visits) G i n k ⊎ LeadsOut G d (length E) i
        on (inl a) = inl (record { end = a.end; state = a.visit.state; there = state-at graph.visits a.end a.visit a.there; run = a.run; like = a.like known })
        on (inr out) = inr (subst (λ m. LeadsOut G d m i) graph.are.long out)

    runs : (n i j : ℕ) (g h k : RunState) → slice_get (map (λ (w : Visit RunState). w.state) graph.visits) i ≡ Some g → slice_get (map (λ (w : Visit RunState). w.state) graph.visits) j ≡ Some k → AreAlike e.keys.numbered e.users e.boot h g → Run (IsLink G) i n j
        → (m : RunState) × (Run (Follows e.users) h n m × AreAlike e.keys.numbered e.users e.boot m k)
    runs n i j g h k at there like run =
        let v = visit-at graph.visits i g at in
        let w = visit-at graph.visits j k there in
        let r = runs-along (Leads e.users) (LooksLike e) likes d graph.visits G graph.edges (λ s t x y. alike-back e.keys.numbered e.users e.boot s t (x y)) n i j v.0 w.0 h v.1.0 w.1.0 (λ x. subst (λ (m : RunState). AreAlike e.keys.numbered e.users e.boot h m) (sym v.1.1) like) run in
        (r.0, (steps-follows e.users n h r.0 r.1.0, subst (λ (m : RunState). AreAlike e.keys.numbered e.users e.boot r.0 m) w.1.1 (r.1.1 known)))
