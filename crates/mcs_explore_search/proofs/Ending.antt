-- What a search says of runs.
use Rattle.std.specs.Prelude.{◌≡◌, ◌≤◌, ◌<◌, ◌⊎◌, ◌↔◌, ℕ, nat_lt, Bool, true, false, List, Option, Some, None, length, slice_get}
use Rattle.std.proofs.Common.{refl, ap, sym, ◌∙◌, subst, inl, inr, arith}
use Rattle.std.specs.Cmp.{IsEquivalence}
use Rattle.mcs_explore_search.specs.declared.search.Edge.{Edge}
use Rattle.mcs_explore_search.specs.declared.search.Found.{Found}
use Rattle.mcs_explore_search.specs.Paths.{Path, Steps}
use Rattle.mcs_explore_search.specs.Closure.{Visit, IsVisited, IsClosedTo, IsLikeness, AreFar}
use Rattle.mcs_explore_search.specs.Search.{Entries, At, AreEdges, HasEdge, IsEdge, IsFound, IsGraph, Same, HaveOneKey, AreLeast, AreAllFound, AreReached, AreVisits, AreSorted, AreApart, IsReached, IsVisitOf, IsClosedBelow, IsWhole, path_of, path_back, depth_at}
use Rattle.mcs_explore_search.specs.Keeping.{IsChild, IsGrown, IsSearch, IsSearching}
use Rattle.mcs_explore_search.proofs.Places.{same-place, at-within, within-at}
use Rattle.mcs_explore_search.proofs.Runs.{near-run}
use Rattle.mcs_explore_search.proofs.Searching.{path-leads}
use Rattle.std.proofs.lemmas.Grind.{common_steps}

pub depth-is : {K L : Type 0} (E : Entries K L) (i : ℕ) (k : K) (f : Found L) → At E i k f → depth_at E i ≡ f.depth
depth-is {K = K} {L = L} E i k f at = ap (λ (o : Option (K × Found L)). elim o [ None ↦ 0 | Some e ↦ e.1.depth ]) at

pub depth-given : {K L : Type 0} (E : Entries K L) (i : ℕ) (k : K) (f : Found L) → At E i k f → (n : ℕ) → n ≡ depth_at E i → n ≡ f.depth
depth-given E i k f at n is = is ∙ depth-is E i k f at

-- another system with the same steps, and with keys for all that had some
module _ {A K L : Type 0} (eq : K → K → Bool) (Leads Goes : L → A → A → Type 0) (Like Alike : A → A → Type 0) (IsKey HasKey : A → K → Type 0) (start begin : A)
    (starts : begin ≡ start) (leads : (l : L) (s t : A) → Leads l s t ↔ Goes l s t) (likes : (s t : A) → Like s t → Alike s t) (keys : (s : A) (k : K) → IsKey s k → HasKey s k) where
  visited : (vs : List (Visit A)) (t : A) (n : ℕ) → IsVisited Like vs t n → IsVisited Alike vs t n
  visited vs t n v = record { place = v.place; visit = v.visit; at = v.at; like = likes t v.visit.state v.like; near = v.near }

  child : (E : Entries K L) (vs : List (Visit A)) (f : Found L) (s : A) → ((f.depth ≡ 0) × (s ≡ start)) ⊎ IsChild Leads E vs f s → ((f.depth ≡ 0) × (s ≡ begin)) ⊎ IsChild Goes E vs f s
  child E vs f s (inl h) = inl (h.0, h.1 ∙ sym starts)
  child E vs f s (inr c) = inr (record { label = c.label; labelled = c.labelled; key = c.key; found = c.found; at = c.at; deep = c.deep; visit = c.visit; there = c.there; step = (leads c.label c.visit.state s).0 c.step })

  pub again : (d : ℕ) (E : Entries K L) (vs : List (Visit A)) → IsSearch eq Leads Like IsKey start d E vs → IsSearch eq Goes Alike HasKey begin d E vs
  again d E vs a = record {
    long = a.long;
    first = subst (λ (s : A). IsVisited Alike vs s 0) (sym starts) (visited vs start 0 a.first);
    grown = λ i k f h. let g : IsGrown Leads IsKey start E vs i k f = a.grown i k f h in record { visit = g.visit; there = g.there; deep = g.deep; key = keys g.visit.state k g.key; from = child E vs f g.visit.state g.from };
    closed = λ i v below h t step. visited vs t _ (a.closed i v below h t (step.0, (leads step.0 v.state t).1 step.1));
    sorted = a.sorted;
    near = a.near;
    once = a.once;
    small = a.small;
  }

  pub edges-again : (d : ℕ) (vs : List (Visit A)) (G : List (Edge L)) → AreEdges Leads Like d vs G → AreEdges Goes Alike d vs G
  edges-again d vs G a = record {
    each = λ n e h. let o : IsEdge Leads Like vs e = a.each n e h in
        record { from = o.from; at = o.at; to = o.to; there = o.there; state = o.state; step = (leads e.label o.from.state o.state).0 o.step; like = likes o.state o.to.state o.like };
    all = λ i v below h l t step. let o : HasEdge Like vs G i l t = a.all i v below h l t ((leads l v.state t).1 step) in
        record { number = o.number; edge = o.edge; at = o.at; from = o.from; label = o.label; to = o.to; there = o.there; like = likes t o.to.state o.like };
  }

  pub search-again : (d : ℕ) (E : Entries K L) (G : List (Edge L)) → IsSearching eq Leads Like IsKey start d E G → IsSearching eq Goes Alike HasKey begin d E G
  search-again d E G a = record { visits = a.visits; is = again d E a.visits a.is; edges = edges-again d a.visits G a.edges }

module _ {A K L : Type 0} (eq : K → K → Bool) (fair : IsEquivalence eq) (Leads : L → A → A → Type 0) (Like : A → A → Type 0) (IsKey : A → K → Type 0) (start : A) where
  -- where a path leads to, for the next call
  pub leads-there : {G : List (Edge L)} (d : ℕ) (E : Entries K L) → (a : IsSearching eq Leads Like IsKey start d E G) → (i : ℕ) (k : K) (f : Found L) → At E i k f → (v : Visit A) → slice_get a.visits i ≡ Some v → IsReached Leads IsKey start E i k f v.state
  leads-there d E a i k f at v there =
      let is : path_back E i f.depth ≡ path_of E i = ap (λ (n : ℕ). path_back E i n) (sym (depth-is E i k f at)) in
      let all = path-leads eq fair Leads Like IsKey start E a.visits a.is.grown f.depth i k f at refl v there in
      let g : IsGrown Leads IsKey start E a.visits i k f = a.is.grown i k f at in
      record {
        run = all.2;
        path = subst (λ (p : List L). Path Leads start p v.state) is all.0;
        long = ap length (sym is) ∙ all.1;
        key = subst (λ (w : Visit A). IsKey w.state k) (same-place a.visits i i g.visit v refl g.there there) g.key;
      }

  -- what is in a place that is to be expanded
  pub record IsOpen (d : ℕ) (E : Entries K L) (visits : List (Visit A)) : Type 0 where
    pub key : K
    pub found : Found L
    pub at : At E d key found
    pub visit : Visit A
    pub there : slice_get visits d ≡ Some visit
    pub reached : IsReached Leads IsKey start E d key found visit.state
    pub small : found.depth ≤ d

  pub open-at : {G : List (Edge L)} (d : ℕ) (E : Entries K L) → (a : IsSearching eq Leads Like IsKey start d E G) → d < length E → IsOpen d E a.visits
  open-at d E a below =
      let e = within-at E d below in
      let g : IsGrown Leads IsKey start E a.visits d e.0.0 e.0.1 = a.is.grown d e.0.0 e.0.1 e.1 in
      record { key = e.0.0; found = e.0.1; at = e.1; visit = g.visit; there = g.there; reached = leads-there d E a d e.0.0 e.0.1 e.1 g.visit g.there; small = a.is.small d e.0.0 e.0.1 e.1 }

  module _ {G : List (Edge L)} (d : ℕ) (E : Entries K L) (a : IsSearching eq Leads Like IsKey start d E G) where
    visit-of : (i : ℕ) (k : K) (f : Found L) → At E i k f → IsVisitOf Leads IsKey start E a.visits i k f
    visit-of i k f at =
        let g : IsGrown Leads IsKey start E a.visits i k f = a.is.grown i k f at in
        record { visit = g.visit; there = g.there; deep = g.deep; reached = leads-there d E a i k f at g.visit g.there }

    are : AreVisits Leads IsKey start E a.visits
    are = record { long = a.is.long; each = visit-of }

    pub reached : AreReached Leads IsKey start E
    reached i k f at = let v : IsVisitOf Leads IsKey start E a.visits i k f = visit-of i k f at in (v.visit.state, v.reached)

    pub sorted : AreSorted E
    sorted = a.is.sorted

    pub apart : AreApart eq E
    apart = a.is.once

    below : IsClosedTo (Steps Leads) Like start d a.visits
    below = record { start = a.is.first; closed = a.is.closed }

    pub closed-below : IsClosedBelow Leads Like IsKey start d E
    closed-below = record { visits = a.visits; are = are; closed = below }

    pub graph : IsGraph Leads Like IsKey start d E G
    graph = record { visits = a.visits; are = are; first = a.is.first; edges = a.edges }

    pub whole : length E ≤ d → IsWhole Leads Like IsKey start E
    whole all = record {
      visits = a.visits;
      are = are;
      closed = record {
        start = a.is.first;
        closed = λ i v at. a.is.closed i v (let b = at-within a.visits i v at in let long = a.is.long in omega (arith, b, long, all)) at;
      };
    }

    -- where alike states have one key
    module _ (likes : IsLikeness (Steps Leads) Like) (one : HaveOneKey eq Like IsKey) where
      -- the entry of a visit
      entry-of : (t : A) (k : K) (n : ℕ) → IsKey t k → IsVisited Like a.visits t n → IsFound eq E k n
      entry-of t k n key v = record { place = v.place; other = e.0.0; found = e.0.1; at = e.1; same = same; near = let deep = g.deep in let near = v.near in let is = ap (λ (w : Visit A). w.depth) visit in omega (arith, deep, near, is) }
        where
          e : (x : K × Found L) × (slice_get E v.place ≡ Some x)
          e = within-at E v.place (let b = at-within a.visits v.place v.visit v.at in let long = a.is.long in omega (arith, b, long))

          g : IsGrown Leads IsKey start E a.visits v.place e.0.0 e.0.1
          g = a.is.grown v.place e.0.0 e.0.1 e.1

          visit : g.visit ≡ v.visit
          visit = same-place a.visits v.place v.place g.visit v.visit refl g.there v.at

          same : Same eq k e.0.0
          same = (one t g.visit.state k e.0.0 (subst (λ (w : Visit A). Like t w.state) (sym visit) v.like) key g.key)

      pub all-found : length E ≤ d → AreAllFound eq Leads IsKey start E
      all-found all n t k run key =
          entry-of t k n key (near-run (Steps Leads) Like likes start d a.visits below n t (λ i v le at. absurd (let b = at-within a.visits i v at in let long = a.is.long in omega (arith, b, long, le, all))) run)

      pub least : AreLeast Leads IsKey start E
      least i k f at n t run key = go (nat_lt n f.depth) refl
        where
          far : n < f.depth → AreFar n d a.visits
          far lt j v le there =
              let e = within-at E j (let b = at-within a.visits j v there in let long = a.is.long in omega (arith, b, long)) in
              let g : IsGrown Leads IsKey start E a.visits j e.0.0 e.0.1 = a.is.grown j e.0.0 e.0.1 e.1 in
              let deep = g.deep in
              let is = ap (λ (w : Visit A). w.depth) (same-place a.visits j j g.visit v refl g.there there) in
              let near = a.is.near j i e.0.0 k e.0.1 f le e.1 at in
              omega (arith, lt, deep, is, near)

          found : n < f.depth → IsFound eq E k n
          found lt = entry-of t k n key (near-run (Steps Leads) Like likes start d a.visits below n t (far lt) run)

          go : (b : Bool) → nat_lt n f.depth ≡ b → f.depth ≤ n
          go false ge = grind (arith, common_steps, ge)
          go true lt =
              let short : n < f.depth = grind (arith, common_steps, lt) in
              let h : IsFound eq E k n = found short in
              let same : h.place ≡ i = a.is.once h.place i h.other k h.found f h.at at (fair.symm h.other k ∙ h.same) in
              let both = same-place E h.place i (h.other, h.found) (k, f) same h.at at in
              let deep = ap (λ (x : K × Found L). x.1.depth) both in
              let near = h.near in
              absurd (omega (arith, short, deep, near))
