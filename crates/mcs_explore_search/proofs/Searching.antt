-- What a search keeps.
use Rattle.std.specs.Prelude.{Bool, ◌≡◌, ◌≤◌, ◌<◌, ◌+◌, ◌++◌, ◌⊎◌, ℕ, zero, suc, List, [], ◌∷◌, Option, Some, None, length, slice_get}
use Rattle.std.proofs.Common.{refl, ap, sym, ◌∙◌, subst, inl, inr, arith, append_assoc, append-nil}
use Rattle.std.specs.Cmp.{IsEquivalence}
use Rattle.mcs_explore_search.specs.declared.search.Edge.{Edge}
use Rattle.mcs_explore_search.specs.declared.search.Found.{Found}
use Rattle.mcs_explore_search.specs.Paths.{Run, Path, Steps}
use Rattle.mcs_explore_search.specs.Closure.{Visit, IsVisited}
use Rattle.mcs_explore_search.specs.Search.{Entries, At, AreEdges, HasEdge, IsEdge, IsFound, Same, IsNext, IsAmong, AreNexts, path_back, parent_at, label_at, listed}
use Rattle.mcs_explore_search.specs.Keeping.{Adds, HasPlace, IsAmid, IsChild, IsGrown, IsLinked, IsSearch, IsSearching, IsThere}
use Rattle.mcs_explore_search.proofs.Paths.{path-on}
use Rattle.mcs_explore_search.proofs.Places.{pair, some-same, same-place, at-old, at-last, at-within, at-split, at-either, at-after, within-at, at-or-below, one-longer, one-up}

-- a key that is found stays found
found-more : {K L : Type 0} (eq : K → K → Bool) (E F : Entries K L) (k : K) (n : ℕ) → IsFound eq E k n → IsFound eq (E ++ F) k n
found-more eq E F k n f = record { place = f.place; other = f.other; found = f.found; at = at-old E F f.place (f.other, f.found) f.at; same = f.same; near = f.near }

visited-more : {A : Type 0} (Like : A → A → Type 0) (vs ws : List (Visit A)) (t : A) (n : ℕ) → IsVisited Like vs t n → IsVisited Like (vs ++ ws) t n
visited-more Like vs ws t n v = record { place = v.place; visit = v.visit; at = at-old vs ws v.place v.visit v.at; like = v.like; near = v.near }

pub parent-is : {K L : Type 0} (E : Entries K L) (i : ℕ) (k : K) (f : Found L) → At E i k f → parent_at E i ≡ f.parent
parent-is {K = K} {L = L} E i k f at = ap (λ (o : Option (K × Found L)). elim o [ None ↦ i | Some e ↦ e.1.parent ]) at

pub label-is : {K L : Type 0} (E : Entries K L) (i : ℕ) (k : K) (f : Found L) → At E i k f → label_at E i ≡ Some f.label
label-is {K = K} {L = L} E i k f at = ap (λ (o : Option (K × Found L)). elim o [ None ↦ None | Some e ↦ Some e.1.label ]) at

-- an entry is an old one or the new one
abbrev Split : {K L : Type 0} → Entries K L → K → Found L → ℕ → K → Found L → Type 0
Split E c q i m p = (At E i m p) ⊎ ((i ≡ length E) × (pair m p ≡ pair c q))

module _ {A K L : Type 0} (eq : K → K → Bool) (fair : IsEquivalence eq) (Leads : L → A → A → Type 0) (Like : A → A → Type 0) (IsKey : A → K → Type 0) (start : A) where
  child-more : (E F : Entries K L) (vs ws : List (Visit A)) (f : Found L) (s : A) → IsChild Leads E vs f s → IsChild Leads (E ++ F) (vs ++ ws) f s
  child-more E F vs ws f s c = record { label = c.label; labelled = c.labelled; key = c.key; found = c.found; at = at-old E F f.parent (c.key, c.found) c.at; deep = c.deep; visit = c.visit; there = at-old vs ws f.parent c.visit c.there; step = c.step }

  from-more : (E F : Entries K L) (vs ws : List (Visit A)) (f : Found L) (s : A) → ((f.depth ≡ 0) × (s ≡ start)) ⊎ IsChild Leads E vs f s → ((f.depth ≡ 0) × (s ≡ start)) ⊎ IsChild Leads (E ++ F) (vs ++ ws) f s
  from-more E F vs ws f s (inl h) = inl h
  from-more E F vs ws f s (inr c) = inr (child-more E F vs ws f s c)

  grown-more : (E F : Entries K L) (vs ws : List (Visit A)) (i : ℕ) (k : K) (f : Found L) → IsGrown Leads IsKey start E vs i k f → IsGrown Leads IsKey start (E ++ F) (vs ++ ws) i k f
  grown-more E F vs ws i k f g = record { visit = g.visit; there = at-old vs ws i g.visit g.there; deep = g.deep; key = g.key; from = from-more E F vs ws f g.visit.state g.from }

  -- what leads to the state s: a path, which has a length, and a run
  abbrev pub Leading : Entries K L → ℕ → ℕ → A → Type 0
  Leading E i n s = Path Leads start (path_back E i n) s × (length (path_back E i n) ≡ n) × Run (Steps Leads) start n s

  -- the path of an entry is that of its parent and its label
  child-leads : (E : Entries K L) (vs : List (Visit A)) (n i : ℕ) (k : K) (f : Found L) (s : A) → At E i k f → (c : IsChild Leads E vs f s) → Leading E f.parent n c.visit.state → Leading E i (suc n) s
  child-leads E vs n i k f s at c before = (path, long, (c.visit.state, (before.2, (c.label, c.step))))
    where
      is : path_back E i (suc n) ≡ path_back E f.parent n ++ c.label ∷ []
      is = ap (λ (p : ℕ). path_back E p n ++ listed (label_at E i)) (parent-is E i k f at) ∙ ap (λ (o : Option L). path_back E f.parent n ++ listed o) (label-is E i k f at ∙ ap (λ (l : L). Some l) c.labelled)

      path : Path Leads start (path_back E i (suc n)) s
      path = subst (λ (p : List L). Path Leads start p s) (sym is) (path-on Leads start (path_back E f.parent n) c.visit.state s c.label before.0 c.step)

      long : length (path_back E i (suc n)) ≡ suc n
      long = ap length is ∙ one-longer (path_back E f.parent n) c.label ∙ ap (λ (m : ℕ). suc m) before.1

  pub path-leads : (E : Entries K L) (vs : List (Visit A)) → ((i : ℕ) (k : K) (f : Found L) → At E i k f → IsGrown Leads IsKey start E vs i k f)
      → (n i : ℕ) (k : K) (f : Found L) → At E i k f → f.depth ≡ n → (v : Visit A) → slice_get vs i ≡ Some v → Leading E i n v.state
  path-leads E vs grown zero i k f at deep v there = go (grown i k f at)
    where
      go : IsGrown Leads IsKey start E vs i k f → Leading E i zero v.state
      go g = by g.from
        where
          same : g.visit ≡ v
          same = same-place vs i i g.visit v refl g.there there

          by : ((f.depth ≡ 0) × (g.visit.state ≡ start)) ⊎ IsChild Leads E vs f g.visit.state → Leading E i zero v.state
          by (inl h) = let is : start ≡ v.state = sym h.1 ∙ ap (λ (x : Visit A). x.state) same in (is, refl, is)
          by (inr c) = absurd (let d = c.deep in omega (arith, d, deep))
  path-leads E vs grown (suc n) i k f at deep v there = go (grown i k f at) (λ j m g h d u w. path-leads E vs grown n j m g h d u w)
    where
      go : IsGrown Leads IsKey start E vs i k f → ((j : ℕ) (m : K) (g : Found L) → At E j m g → g.depth ≡ n → (u : Visit A) → slice_get vs j ≡ Some u → Leading E j n u.state) → Leading E i (suc n) v.state
      go g below = by g.from
        where
          same : g.visit ≡ v
          same = same-place vs i i g.visit v refl g.there there

          by : ((f.depth ≡ 0) × (g.visit.state ≡ start)) ⊎ IsChild Leads E vs f g.visit.state → Leading E i (suc n) v.state
          by (inl h) = absurd (let z = h.0 in omega (arith, z, deep))
          by (inr c) = subst (λ (s : A). Leading E i (suc n) s) (ap (λ (x : Visit A). x.state) same)
              (child-leads E vs n i k f g.visit.state at c (below f.parent c.key c.found c.at (let d = c.deep in omega (arith, d, deep)) c.visit c.there))

  -- a new key that is one step after the place d
  one-more : (d : ℕ) (E : Entries K L) (vs : List (Visit A)) (k c : K) (r q : Found L) (v : Visit A) (l : L) (t : A) → IsSearch eq Leads Like IsKey start d E vs → At E d k r → slice_get vs d ≡ Some v
      → Leads l v.state t → IsKey t c → ((i : ℕ) (m : K) (p : Found L) → At E i m p → Same eq c m → ⊥) → q.depth ≡ r.depth + 1 → q.parent ≡ d → q.label ≡ l
      → IsSearch eq Leads Like IsKey start d (E ++ (c, q) ∷ []) (vs ++ record { state = t; depth = q.depth } ∷ [])
  one-more d E vs k c r q v l t a at there step key new deep parent labelled = record {
    long = one-longer vs w ∙ ap (λ (n : ℕ). suc n) a.long ∙ sym (one-longer E (pair c q));
    first = visited-more Like vs (w ∷ []) start 0 a.first;
    grown = λ i m p h. grown i m p (at-split E (c, q) i (m, p) h);
    closed = λ i x below h. closed i x below (at-split vs w i x h);
    sorted = λ i j m o p x le h g. sorted i j m o p x le (at-split E (c, q) i (m, p) h) (at-split E (c, q) j (o, x) g);
    near = λ i j m o p x le h g. near i j m o p x le (at-split E (c, q) i (m, p) h) (at-split E (c, q) j (o, x) g);
    once = λ i j m o p x h g same. once i j m o p x (at-split E (c, q) i (m, p) h) (at-split E (c, q) j (o, x) g) same;
    small = λ i m p h. small i m p (at-split E (c, q) i (m, p) h);
  }
    where
      w : Visit A
      w = record { state = t; depth = q.depth }

      last : (m : K) (p : Found L) → pair m p ≡ pair c q → (m ≡ c) × (p ≡ q)
      last m p e = (ap (λ (x : K × Found L). x.0) e, ap (λ (x : K × Found L). x.1) e)

      depth-is : (m : K) (p : Found L) → pair m p ≡ pair c q → p.depth ≡ r.depth + 1
      depth-is m p e = ap (λ (x : K × Found L). x.1.depth) e ∙ deep

      within : d < length E
      within = at-within E d (k, r) at

      child : IsChild Leads (E ++ (c, q) ∷ []) (vs ++ w ∷ []) q t
      child = record {
        label = l;
        labelled = labelled;
        key = k;
        found = r;
        at = subst (λ (n : ℕ). At (E ++ (c, q) ∷ []) n k r) (sym parent) (at-old E _ d (k, r) at);
        deep = deep;
        visit = v;
        there = subst (λ (n : ℕ). slice_get (vs ++ w ∷ []) n ≡ Some v) (sym parent) (at-old vs _ d v there);
        step = step;
      }

      mine : IsGrown Leads IsKey start (E ++ (c, q) ∷ []) (vs ++ w ∷ []) (length E) c q
      mine = record { visit = w; there = subst (λ (n : ℕ). slice_get (vs ++ w ∷ []) n ≡ Some w) a.long (at-last vs w); deep = refl; key = key; from = inr child }

      grown : (i : ℕ) (m : K) (p : Found L) → Split E c q i m p → IsGrown Leads IsKey start (E ++ (c, q) ∷ []) (vs ++ w ∷ []) i m p
      grown i m p (inl h) = grown-more E _ vs _ i m p (a.grown i m p h)
      grown i m p (inr e) =
          subst (λ (n : ℕ). IsGrown Leads IsKey start (E ++ (c, q) ∷ []) (vs ++ w ∷ []) n m p) (sym e.0)
          (subst (λ (x : K × Found L). IsGrown Leads IsKey start (E ++ (c, q) ∷ []) (vs ++ w ∷ []) (length E) x.0 x.1) (sym e.1) mine)

      closed : (i : ℕ) (x : Visit A) → i < d → (slice_get vs i ≡ Some x) ⊎ ((i ≡ length vs) × (x ≡ w)) → (u : A) → Steps Leads x.state u → IsVisited Like (vs ++ w ∷ []) u (x.depth + 1)
      closed i x below (inl h) u go = visited-more Like vs (w ∷ []) u _ (a.closed i x below h u go)
      closed i x below (inr e) u go = absurd (let is = e.0 in let long = a.long in omega (arith, within, below, is, long))

      sorted : (i j : ℕ) (m o : K) (p x : Found L) → i ≤ j → Split E c q i m p → Split E c q j o x → p.depth ≤ x.depth
      sorted i j m o p x le (inl h) (inl g) = a.sorted i j m o p x le h g
      sorted i j m o p x le (inl h) (inr f) = let n = a.near d i k m r p (omega arith) at h in let e = depth-is o x f.1 in omega (arith, n, e)
      sorted i j m o p x le (inr f) (inl g) = let b = at-within E j (o, x) g in let e = f.0 in absurd (omega (arith, b, e, le))
      sorted i j m o p x le (inr f) (inr g) = let e = depth-is m p f.1 in let e' = depth-is o x g.1 in omega (arith, e, e')

      near : (i j : ℕ) (m o : K) (p x : Found L) → d ≤ i → Split E c q i m p → Split E c q j o x → x.depth ≤ p.depth + 1
      near i j m o p x le (inl h) (inl g) = a.near i j m o p x le h g
      near i j m o p x le (inl h) (inr f) = let n = a.sorted d i k m r p le at h in let e = depth-is o x f.1 in omega (arith, n, e)
      near i j m o p x le (inr f) (inl g) = let n = a.near d j k o r x (omega arith) at g in let e = depth-is m p f.1 in omega (arith, n, e)
      near i j m o p x le (inr f) (inr g) = let e = depth-is m p f.1 in let e' = depth-is o x g.1 in omega (arith, e, e')

      once : (i j : ℕ) (m o : K) (p x : Found L) → Split E c q i m p → Split E c q j o x → Same eq m o → i ≡ j
      once i j m o p x (inl h) (inl g) same = a.once i j m o p x h g same
      once i j m o p x (inl h) (inr f) same = absurd (new i m p h (fair.symm c m ∙ ap (λ (y : K). eq m y) (sym (last o x f.1).0) ∙ same))
      once i j m o p x (inr f) (inl g) same = absurd (new j o x g (ap (λ (y : K). eq y o) (sym (last m p f.1).0) ∙ same))
      once i j m o p x (inr f) (inr g) same = f.0 ∙ sym g.0

      small : (i : ℕ) (m : K) (p : Found L) → Split E c q i m p → p.depth ≤ i
      small i m p (inl h) = a.small i m p h
      small i m p (inr f) = let n = a.small d k r at in let e = depth-is m p f.1 in let b = within in let is = f.0 in omega (arith, n, e, b, is)

  edge-more : (vs ws : List (Visit A)) (e : Edge L) → IsEdge Leads Like vs e → IsEdge Leads Like (vs ++ ws) e
  edge-more vs ws e a = record { from = a.from; at = at-old vs ws e.from a.from a.at; to = a.to; there = at-old vs ws e.to a.to a.there; state = a.state; step = a.step; like = a.like }

  -- edges stay where a visit comes to them
  edges-more : (d : ℕ) (vs : List (Visit A)) (w : Visit A) (G : List (Edge L)) → d ≤ length vs → AreEdges Leads Like d vs G → AreEdges Leads Like d (vs ++ w ∷ []) G
  edges-more d vs w G few a = record {
    each = λ n e h. edge-more vs (w ∷ []) e (a.each n e h);
    all = λ i x below h l t step. all i x below (at-split vs w i x h) l t step;
  }
    where
      all : (i : ℕ) (x : Visit A) → i < d → (slice_get vs i ≡ Some x) ⊎ ((i ≡ length vs) × (x ≡ w)) → (l : L) (t : A) → Leads l x.state t → HasEdge Like (vs ++ w ∷ []) G i l t
      all i x below (inl h) l t step = let e : HasEdge Like vs G i l t = a.all i x below h l t step in
          record { number = e.number; edge = e.edge; at = e.at; from = e.from; label = e.label; to = e.to; there = at-old vs (w ∷ []) e.edge.to e.to e.there; like = e.like }
      all i x below (inr e) l t step = absurd (let is = e.0 in omega (arith, below, is, few))

  place-more : (E F : Entries K L) (c : K) (n : ℕ) → HasPlace eq E c n → HasPlace eq (E ++ F) c n
  place-more E F c n a = record { other = a.other; found = a.found; at = at-old E F n (a.other, a.found) a.at; same = a.same }

  -- the edges below n, and the one at n
  linked-one : (d : ℕ) (E F : Entries K L) (nexts : List (L × K)) (n : ℕ) (l : L) (c : K) (more : List (Edge L)) (to : ℕ) → slice_get nexts n ≡ Some (l, c) → length more ≡ n → HasPlace eq (E ++ F) c to
      → ((i : ℕ) (o : L) (b : K) → i < n → slice_get nexts i ≡ Some (o, b) → IsLinked eq E d more i o b)
      → (i : ℕ) (o : L) (b : K) → i < n + 1 → slice_get nexts i ≡ Some (o, b) → IsLinked eq (E ++ F) d (more ++ (record { from = d; to = to; label = l }) ∷ []) i o b
  linked-one d E F nexts n l c more to nth few here old i o b lt h = go (at-or-below i n lt)
    where
      e : Edge L
      e = record { from = d; to = to; label = l }

      go : (i ≡ n) ⊎ (i < n) → IsLinked eq (E ++ F) d (more ++ e ∷ []) i o b
      go (inl is) = record {
        edge = e;
        at = subst (λ (m : ℕ). slice_get (more ++ e ∷ []) m ≡ Some e) (few ∙ sym is) (at-last more e);
        from = refl;
        label = ap (λ (x : L × K). x.0) (same-place nexts n i (l, c) (o, b) (sym is) nth h);
        to = subst (λ (x : K). HasPlace eq (E ++ F) x to) (ap (λ (x : L × K). x.1) (same-place nexts n i (l, c) (o, b) (sym is) nth h)) here;
      }
      go (inr below) = let a : IsLinked eq E d more i o b = old i o b below h in
          record { edge = a.edge; at = at-old more (e ∷ []) i a.edge a.at; from = a.from; label = a.label; to = place-more E F b a.edge.to a.to }

  -- those below n, and the one at n
  and-one : (E : Entries K L) (nexts : List (L × K)) (n : ℕ) (l : L) (c : K) (m : ℕ) → slice_get nexts n ≡ Some (l, c) → IsFound eq E c m → ((i : ℕ) (o : L) (b : K) → i < n → slice_get nexts i ≡ Some (o, b) → IsFound eq E b m)
      → (i : ℕ) (o : L) (b : K) → i < n + 1 → slice_get nexts i ≡ Some (o, b) → IsFound eq E b m
  and-one E nexts n l c m nth here found i o b lt h = go (at-or-below i n lt)
    where
      go : (i ≡ n) ⊎ (i < n) → IsFound eq E b m
      go (inl e) = let same : (l, c) ≡ (o, b) = same-place nexts n i (l, c) (o, b) (sym e) nth h in subst (λ (x : K). IsFound eq E x m) (ap (λ (x : L × K). x.1) same) here
      go (inr below) = found i o b below h

  no-more : (E : Entries K L) → E ++ [] ≡ E
  no-more E = append-nil E

  -- one more of them, and its edge
  pub amid : (d : ℕ) (E F : Entries K L) (k : K) (r q : Found L) (v : Visit A) (nexts : List (L × K)) (n : ℕ) (l : L) (c : K) (G H I : List (Edge L)) (to : ℕ) → AreNexts Leads IsKey v.state nexts → slice_get nexts n ≡ Some (l, c)
      → q.depth ≡ r.depth + 1 → q.parent ≡ d → q.label ≡ l → IsAmid eq Leads Like IsKey start d E k r v nexts n G H → Adds eq E c q F → HasPlace eq F c to → I ≡ H ++ (record { from = d; to = to; label = l }) ∷ []
      → IsAmid eq Leads Like IsKey start d F k r v nexts (n + 1) G I
  amid d E F k r q v nexts n l c G H I to are nth deep parent labelled a (inl there) place pushed = subst (λ (D : Entries K L). IsAmid eq Leads Like IsKey start d D k r v nexts (n + 1) G I) (sym there.1) (record {
    visits = a.visits;
    search = a.search;
    at = a.at;
    there = a.there;
    found = and-one E nexts n l c (r.depth + 1) nth here a.found;
    before = a.before;
    more = a.more ++ e ∷ [];
    longer = pushed ∙ ap (λ (es : List (Edge L)). es ++ e ∷ []) a.longer ∙ append_assoc G a.more (e ∷ []);
    few = one-longer a.more e ∙ ap (λ (m : ℕ). suc m) a.few ∙ sym (one-up n);
    linked = λ i o b below h. subst (λ (D : Entries K L). IsLinked eq D d (a.more ++ e ∷ []) i o b) (no-more E)
        (linked-one d E [] nexts n l c a.more to nth a.few (subst (λ (D : Entries K L). HasPlace eq D c to) (there.1 ∙ sym (no-more E)) place) a.linked i o b below h);
  })
    where
      e : Edge L
      e = record { from = d; to = to; label = l }

      here : IsFound eq E c (r.depth + 1)
      here = let t : IsThere eq E c = there.0 in record { place = t.place; other = t.other; found = t.found; at = t.at; same = t.same; near = a.search.near d t.place k t.other r t.found (omega arith) a.at t.at }
  amid d E F k r q v nexts n l c G H I to are nth deep parent labelled a (inr new) place pushed = subst (λ (D : Entries K L). IsAmid eq Leads Like IsKey start d D k r v nexts (n + 1) G I) (sym new.1) (record {
    visits = a.visits ++ w ∷ [];
    search = one-more d E a.visits k c r q v l next.state a.search a.at a.there next.step next.key new.0 deep parent labelled;
    at = at-old E _ d (k, r) a.at;
    there = at-old a.visits _ d v a.there;
    found = and-one (E ++ (c, q) ∷ []) nexts n l c (r.depth + 1) nth here (λ i o b below h. found-more eq E _ b _ (a.found i o b below h));
    before = edges-more d a.visits w G (let b = at-within a.visits d v a.there in omega (arith, b)) a.before;
    more = a.more ++ e ∷ [];
    longer = pushed ∙ ap (λ (es : List (Edge L)). es ++ e ∷ []) a.longer ∙ append_assoc G a.more (e ∷ []);
    few = one-longer a.more e ∙ ap (λ (m : ℕ). suc m) a.few ∙ sym (one-up n);
    linked = linked-one d E ((c, q) ∷ []) nexts n l c a.more to nth a.few (subst (λ (D : Entries K L). HasPlace eq D c to) new.1 place) a.linked;
  })
    where
      e : Edge L
      e = record { from = d; to = to; label = l }

      next : IsNext Leads IsKey v.state l c
      next = are.each n l c nth

      w : Visit A
      w = record { state = next.state; depth = q.depth }

      here : IsFound eq (E ++ (c, q) ∷ []) c (r.depth + 1)
      here = record { place = length E; other = c; found = q; at = at-last E (c, q); same = fair.refl c; near = omega (arith, deep) }

  -- states that paths reach are alike where they have one key
  abbrev pub AreAlike : Type 0
  AreAlike = (p q : List L) (s t : A) (k : K) → Path Leads start p s → Path Leads start q t → IsKey s k → IsKey t k → Like s t

  -- a key that is compared as equal to a key of a state is one too
  abbrev pub AreAsGood : Type 0
  AreAsGood = (s : A) (k c : K) → Same eq k c → IsKey s k → IsKey s c

  -- the place d was expanded
  pub looked : AreAlike → AreAsGood → (d : ℕ) (E : Entries K L) (k : K) (r : Found L) (v : Visit A) (nexts : List (L × K)) (G H : List (Edge L)) → AreNexts Leads IsKey v.state nexts → IsAmid eq Leads Like IsKey start d E k r v nexts (length nexts) G H
      → IsSearching eq Leads Like IsKey start (d + 1) E H
  looked alike good d E k r v nexts G H are a = record {
    visits = a.visits;
    edges = subst (λ (es : List (Edge L)). AreEdges Leads Like (d + 1) a.visits es) (sym a.longer) (record { each = each; all = all });
    is = record {
      long = a.search.long;
      first = a.search.first;
      grown = a.search.grown;
      closed = closed;
      sorted = a.search.sorted;
      near = λ i j m o p x le h g. a.search.near i j m o p x (omega (arith, le)) h g;
      once = a.search.once;
      small = a.search.small;
    };
  }
    where
      leads : (i : ℕ) (m : K) (p : Found L) → At E i m p → (x : Visit A) → slice_get a.visits i ≡ Some x → Leading E i p.depth x.state
      leads i m p h x there = path-leads E a.visits a.search.grown p.depth i m p h refl x there

      -- the visit of v's entry has its depth
      deep : v.depth ≡ r.depth
      deep = let g : IsGrown Leads IsKey start E a.visits d k r = a.search.grown d k r a.at in ap (λ (x : Visit A). x.depth) (same-place a.visits d d v g.visit refl a.there g.there) ∙ g.deep

      led_to : (t : A) → Steps Leads v.state t → IsVisited Like a.visits t (v.depth + 1)
      led_to t step = record { place = f.place; visit = g.visit; at = g.there; like = like; near = let e = g.deep in let b = f.near in let is = deep in omega (arith, e, b, is) }
        where
          one : IsAmong IsKey nexts step.0 t
          one = are.all step.0 t step.1

          f : IsFound eq E one.key (r.depth + 1)
          f = a.found one.place step.0 one.key (at-within nexts one.place (step.0, one.key) one.at) one.at

          g : IsGrown Leads IsKey start E a.visits f.place f.other f.found
          g = a.search.grown f.place f.other f.found f.at

          like : Like t g.visit.state
          like = alike (path_back E d r.depth ++ step.0 ∷ []) (path_back E f.place f.found.depth) t g.visit.state f.other
              (path-on Leads start (path_back E d r.depth) v.state t step.0 (leads d k r a.at v a.there).0 step.1) (leads f.place f.other f.found f.at g.visit g.there).0 (good t one.key f.other f.same one.is) g.key

      closed : (i : ℕ) (x : Visit A) → i < d + 1 → slice_get a.visits i ≡ Some x → (t : A) → Steps Leads x.state t → IsVisited Like a.visits t (x.depth + 1)
      closed i x lt h t step = go (at-or-below i d lt)
        where
          go : (i ≡ d) ⊎ (i < d) → IsVisited Like a.visits t (x.depth + 1)
          go (inr below) = a.search.closed i x below h t step
          go (inl e) =
              let same : v ≡ x = same-place a.visits d i v x (sym e) a.there h in
              subst (λ (y : Visit A). IsVisited Like a.visits t (y.depth + 1)) same (led_to t (subst (λ (y : Visit A). Steps Leads y.state t) (sym same) step))

      -- where an edge of these leads: a state that is like the one after the step
      linked-like : (i : ℕ) (l : L) (c : K) (t : A) → Leads l v.state t → IsKey t c → (b : IsLinked eq E d a.more i l c) → (g : IsGrown Leads IsKey start E a.visits b.edge.to b.to.other b.to.found) → Like t g.visit.state
      linked-like i l c t step key b g =
          alike (path_back E d r.depth ++ l ∷ []) (path_back E b.edge.to b.to.found.depth) t g.visit.state b.to.other
          (path-on Leads start (path_back E d r.depth) v.state t l (leads d k r a.at v a.there).0 step) (leads b.edge.to b.to.other b.to.found b.to.at g.visit g.there).0 (good t c b.to.other b.to.same key) g.key

      each : (n : ℕ) (e : Edge L) → slice_get (G ++ a.more) n ≡ Some e → IsEdge Leads Like a.visits e
      each n e h = go (at-either G a.more n e h)
        where
          go : (slice_get G n ≡ Some e) ⊎ ((j : ℕ) × (slice_get a.more j ≡ Some e)) → IsEdge Leads Like a.visits e
          go (inl old) = a.before.each n e old
          go (inr new) = mine (within-at nexts new.0 below)
            where
              below : new.0 < length nexts
              below = let b = at-within a.more new.0 e new.1 in let few = a.few in omega (arith, b, few)

              mine : ((x : L × K) × (slice_get nexts new.0 ≡ Some x)) → IsEdge Leads Like a.visits e
              mine x = subst (λ (o : Edge L). IsEdge Leads Like a.visits o) (same-place a.more new.0 new.0 b.edge e refl b.at new.1) (record {
                from = v;
                at = subst (λ (m : ℕ). slice_get a.visits m ≡ Some v) (sym b.from) a.there;
                to = g.visit;
                there = g.there;
                state = next.state;
                step = subst (λ (l : L). Leads l v.state next.state) (sym b.label) next.step;
                like = linked-like new.0 x.0.0 x.0.1 next.state next.step next.key b g;
              })
                where
                  b : IsLinked eq E d a.more new.0 x.0.0 x.0.1
                  b = a.linked new.0 x.0.0 x.0.1 below x.1

                  g : IsGrown Leads IsKey start E a.visits b.edge.to b.to.other b.to.found
                  g = a.search.grown b.edge.to b.to.other b.to.found b.to.at

                  next : IsNext Leads IsKey v.state x.0.0 x.0.1
                  next = are.each new.0 x.0.0 x.0.1 x.1

      all : (i : ℕ) (x : Visit A) → i < d + 1 → slice_get a.visits i ≡ Some x → (l : L) (t : A) → Leads l x.state t → HasEdge Like a.visits (G ++ a.more) i l t
      all i x lt h l t step = go (at-or-below i d lt)
        where
          mine : Leads l v.state t → HasEdge Like a.visits (G ++ a.more) d l t
          mine go = record {
            number = length G + one.place;
            edge = b.edge;
            at = at-after G a.more one.place b.edge b.at;
            from = b.from;
            label = b.label;
            to = g.visit;
            there = g.there;
            like = linked-like one.place l one.key t go one.is b g;
          }
            where
              one : IsAmong IsKey nexts l t
              one = are.all l t go

              b : IsLinked eq E d a.more one.place l one.key
              b = a.linked one.place l one.key (at-within nexts one.place (l, one.key) one.at) one.at

              g : IsGrown Leads IsKey start E a.visits b.edge.to b.to.other b.to.found
              g = a.search.grown b.edge.to b.to.other b.to.found b.to.at

          go : (i ≡ d) ⊎ (i < d) → HasEdge Like a.visits (G ++ a.more) i l t
          go (inr below) = let e : HasEdge Like a.visits G i l t = a.before.all i x below h l t step in
              record { number = e.number; edge = e.edge; at = at-old G a.more e.number e.edge e.at; from = e.from; label = e.label; to = e.to; there = e.there; like = e.like }
          go (inl e) =
              let same : v ≡ x = same-place a.visits d i v x (sym e) a.there h in
              subst (λ (n : ℕ). HasEdge Like a.visits (G ++ a.more) n l t) (sym e) (mine (subst (λ (y : Visit A). Leads l y.state t) (sym same) step))

  -- a search that has found its start alone
  pub begun : AreAlike → (k : K) (r : Found L) (E F : Entries K L) (G : List (Edge L)) → E ≡ [] → G ≡ [] → r.depth ≡ 0 → IsKey start k → Adds eq E k r F → IsSearching eq Leads Like IsKey start 0 F G
  begun alike k r E F G empty none deep key (inl there) = let t : IsThere eq E k = there.0 in let no : slice_get [] t.place ≡ Some (pair t.other t.found) = ap (λ (G : Entries K L). slice_get G t.place) (sym empty) ∙ t.at in absurd cc
  begun alike k r E F G empty none deep key (inr new) = subst (λ (D : Entries K L). IsSearching eq Leads Like IsKey start 0 D G) (sym (new.1 ∙ ap (λ (D : Entries K L). D ++ (k, r) ∷ []) empty)) (record {
    visits = v ∷ [];
    edges = subst (λ (es : List (Edge L)). AreEdges Leads Like 0 (v ∷ []) es) (sym none) (record { each = λ n e h. absurd cc; all = λ i x below. absurd (omega (arith, below)) });
    is = record {
      long = refl;
      first = record { place = 0; visit = v; at = refl; like = alike [] [] start start k refl refl key key; near = omega arith };
      grown = grown;
      closed = λ i x below. absurd (omega (arith, below));
      sorted = λ i j m o p q le h g. let e = zero-deep i m p h in omega (arith, e);
      near = λ i j m o p q le h g. let e = zero-deep j o q g in omega (arith, e);
      once = λ i j m o p q h g same. first i m p h ∙ sym (first j o q g);
      small = λ i m p h. let e = zero-deep i m p h in omega (arith, e);
    };
  })
    where
      v : Visit A
      v = record { state = start; depth = 0 }

      only : List (K × Found L)
      only = (k, r) ∷ []

      first : (i : ℕ) (m : K) (p : Found L) → At only i m p → i ≡ 0
      first zero m p h = refl
      first (suc i) m p h = absurd cc

      it : (i : ℕ) (m : K) (p : Found L) → At only i m p → pair k r ≡ pair m p
      it zero m p h = some-same (pair k r) (pair m p) h
      it (suc i) m p h = absurd cc

      zero-deep : (i : ℕ) (m : K) (p : Found L) → At only i m p → p.depth ≡ 0
      zero-deep i m p h = ap (λ (x : K × Found L). x.1.depth) (sym (it i m p h)) ∙ deep

      root : IsGrown Leads IsKey start only (v ∷ []) 0 k r
      root = record { visit = v; there = refl; deep = sym deep; key = key; from = inl (deep, refl) }

      grown : (i : ℕ) (m : K) (p : Found L) → At only i m p → IsGrown Leads IsKey start only (v ∷ []) i m p
      grown i m p h = subst (λ (n : ℕ). IsGrown Leads IsKey start only (v ∷ []) n m p) (sym (first i m p h)) (subst (λ (x : K × Found L). IsGrown Leads IsKey start only (v ∷ []) 0 x.0 x.1) (it i m p h) root)
