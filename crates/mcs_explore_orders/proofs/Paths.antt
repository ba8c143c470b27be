-- Cached paths.
use Rattle.std.specs.Prelude.{ℕ, zero, suc, ◌≡◌, ◌<◌, ◌+◌, ◌-◌, ◌++◌, List, [], ◌∷◌, Some, length, slice_get, slice_index_or, take, drop}
use Rattle.std.proofs.Common.{refl, sym, ap, ◌∙◌, subst, arith, append_assoc, append-nil}
use Rattle.std.proofs.lemmas.List.{take-append-drop}
use Rattle.mcs_turns.specs.Turns.{User, RunState}
use Rattle.mcs_turns.proofs.OneTurn.{one-turn}
use Rattle.mcs_explore_search.specs.Paths.{Path}
use Rattle.mcs_explore_walk.specs.declared.walk.Turn.{Turn}
use Rattle.mcs_explore_orders.specs.Trails.{Leads, Point, IsTrail, last_point, turns_of}

-- the first points of a cached path are a cached path
pub trail-take : (users : List User) (g : RunState) (ps : List Point) (n : ℕ) → IsTrail users g ps → IsTrail users g (take n ps)
trail-take users g ps zero h = tt
trail-take users g [] (suc n) h = tt
trail-take users g (p ∷ ps) (suc n) h = (h.0, trail-take users p.run_state ps n h.1)

-- so are its points and one more
pub trail-push : (users : List User) (g : RunState) (ps : List Point) (ts : List Turn) (h : RunState) → IsTrail users g ps → Path (Leads users) (last_point g ps) ts h
    → IsTrail users g (ps ++ (record { turns = ts; run_state = h }) ∷ [])
trail-push users g [] ts h i l = (l, tt)
trail-push users g (p ∷ ps) ts h i l = (i.0, trail-push users p.run_state ps ts h i.1 l)

-- one path after another
pub path-join : (users : List User) (g : RunState) (xs ys : List Turn) (h k : RunState) → Path (Leads users) g xs h → Path (Leads users) h ys k → Path (Leads users) g (xs ++ ys) k
path-join users g [] ys h k a b = subst (λ u. Path (Leads users) u ys k) (sym a) b
path-join users g (x ∷ xs) ys h k a b = (a.0, (a.1.0, path-join users a.0 xs ys h k a.1.1 b))

-- the parts of a path
pub path-parts : (users : List User) (g : RunState) (xs ys : List Turn) (k : RunState) → Path (Leads users) g (xs ++ ys) k → (h : RunState) × (Path (Leads users) g xs h × Path (Leads users) h ys k)
path-parts users g [] ys k a = (g, (refl, a))
path-parts users g (x ∷ xs) ys k a = let it = path-parts users a.0 xs ys k a.1.1 in (it.0, ((a.0, (a.1.0, it.1.0)), it.1.1))

-- its turns lead to its last point
pub trail-path : (users : List User) (g : RunState) (ps : List Point) → IsTrail users g ps → Path (Leads users) g (turns_of ps) (last_point g ps)
trail-path users g [] i = refl
trail-path users g (p ∷ ps) i = path-join users g p.turns (turns_of ps) p.run_state (last_point p.run_state ps) i.0 (trail-path users p.run_state ps i.1)

-- a path leads to one point
pub path-one : (users : List User) → (g : RunState) (ls : List Turn) (s t : RunState) → Path (Leads users) g ls s → Path (Leads users) g ls t → s ≡ t
path-one users g [] s t a b = sym a ∙ b
path-one users g (l ∷ ls) s t a b =
    let same : a.0 ≡ b.0 = one-turn users l.core l.pick g a.0 b.0 a.1.0 b.1.0 in
    path-one users b.0 ls s t (subst (λ u. Path (Leads users) u ls s) same a.1.1) b.1.1

-- the last point is that of the last turn
pub last-at : (g : RunState) (ps : List Point) (p : Point) → slice_get ps (length ps - 1) ≡ Some p → last_point g ps ≡ p.run_state
last-at g [] p e = absurd cc
last-at g (q ∷ []) p e = let same : q ≡ p = cc in ap (λ (r : Point). r.run_state) same
last-at g (q ∷ r ∷ ps) p e = last-at q.run_state (r ∷ ps) p (sym (ap (λ n. slice_get (q ∷ r ∷ ps) n) (down (length (r ∷ ps)) (omega arith))) ∙ e)
  where
    down : (n : ℕ) → 0 < n → suc n - 1 ≡ suc (n - 1)
    down n lt = omega (arith, lt)

-- a cached path without its last point, and where it led
pub last-pushed : (g : RunState) (ps : List Point) (p : Point) → last_point g (ps ++ p ∷ []) ≡ p.run_state
last-pushed g [] p = refl
last-pushed g (q ∷ ps) p = last-pushed q.run_state ps p

pub trail-front : (users : List User) (g : RunState) (ps : List Point) (p : Point) → IsTrail users g (ps ++ p ∷ []) → IsTrail users g ps
trail-front users g [] p h = tt
trail-front users g (q ∷ ps) p h = (h.0, trail-front users q.run_state ps p h.1)

-- one turn more of a path
pub take-on : {A : Type 0} (xs : List A) (n : ℕ) (x : A) → slice_get xs n ≡ Some x → take (n + 1) xs ≡ take n xs ++ x ∷ []
take-on xs n x e = subst (λ m. take m xs ≡ take n xs ++ x ∷ []) (up n) (go xs n x e)
  where
    up : (n : ℕ) → suc n ≡ n + 1
    up n = omega arith

    go : {A : Type 0} (xs : List A) (n : ℕ) (x : A) → slice_get xs n ≡ Some x → take (suc n) xs ≡ take n xs ++ x ∷ []
    go [] n x e = absurd cc
    go (y ∷ xs) zero x e = let same : y ≡ x = cc in ap (λ z. z ∷ []) same
    go (y ∷ xs) (suc n) x e = ap (λ zs. y ∷ zs) (go xs n x e)

-- the turns of the first points and of one more
pub turns-push : (ps : List Point) (p : Point) → turns_of (ps ++ p ∷ []) ≡ turns_of ps ++ p.turns
turns-push [] p = append-nil p.turns
turns-push (q ∷ ps) p = ap (λ ts. q.turns ++ ts) (turns-push ps p) ∙ sym (append_assoc q.turns (turns_of ps) p.turns)

-- points that lie along a path so far, and the next point, with whose turns the path continues
pub common-on : (ps : List Point) (path : List Turn) (n at : ℕ) (p : Point) → slice_get ps n ≡ Some p → take (at + length p.turns) path ≡ take at path ++ p.turns
    → turns_of (take n ps) ≡ take at path → turns_of (take (n + 1) ps) ≡ take (at + length p.turns) path
common-on ps path n at p here on so_far =
    ap turns_of (take-on ps n p here) ∙ turns-push (take n ps) p ∙ ap (λ ts. ts ++ p.turns) so_far ∙ sym on

-- a path that has some turns so far, and one more
pub goes-further : (path ts : List Turn) (at n : ℕ) (t u : Turn) → slice_get path (at + n) ≡ Some t → slice_get ts n ≡ Some u → t ≡ u
    → take (at + n) path ≡ take at path ++ take n ts → take (at + (n + 1)) path ≡ take at path ++ take (n + 1) ts
goes-further path ts at n t u there here same so_far =
    ap (λ m. take m path) (omega arith) ∙ take-on path (at + n) t there ∙ ap (λ xs. xs ++ t ∷ []) so_far ∙ append_assoc (take at path) (take n ts) (t ∷ [])
    ∙ ap (λ xs. take at path ++ xs) (ap (λ v. take n ts ++ v ∷ []) same ∙ sym (take-on ts n u here))

-- the next turns of a path continue from the end of a cached part of it
pub leads-on : (users : List User) → (g : RunState) (ps : List Point) (path : List Turn) (n m : ℕ) → IsTrail users g ps → turns_of ps ≡ take n path
    → ((s : RunState) × Path (Leads users) g path s) → (h : RunState) × Path (Leads users) (last_point g ps) (take m (drop n path)) h
leads-on users g ps path n m trail along some =
    let whole = subst (λ ls. Path (Leads users) g ls some.0) (sym (take-append-drop n path)) some.1 in
    let first = path-parts users g (take n path) (drop n path) some.0 whole in
    let here : first.0 ≡ last_point g ps = path-one users g (take n path) first.0 (last_point g ps) first.1.0 (subst (λ ts. Path (Leads users) g ts (last_point g ps)) along (trail-path users g ps trail)) in
    let rest = subst (λ ls. Path (Leads users) first.0 ls some.0) (sym (take-append-drop m (drop n path))) first.1.1 in
    let next = path-parts users first.0 (take m (drop n path)) (drop m (drop n path)) some.0 rest in
    (next.0, subst (λ u. Path (Leads users) u (take m (drop n path)) next.0) here next.1.0)

-- where the rest of a path leads from the end of its cached beginning, the whole path leads
pub arrives : (users : List User) → (g : RunState) (ps : List Point) (path : List Turn) (n : ℕ) (w : RunState) → IsTrail users g ps → turns_of ps ≡ take n path
    → ((s : RunState) × Path (Leads users) g path s) → ((h : RunState) → Path (Leads users) (last_point g ps) (drop n path) h → w ≡ h) → Path (Leads users) g path w
arrives users g ps path n w trail along some ends =
    let whole = subst (λ ls. Path (Leads users) g ls some.0) (sym (take-append-drop n path)) some.1 in
    let first = path-parts users g (take n path) (drop n path) some.0 whole in
    let here : first.0 ≡ last_point g ps = path-one users g (take n path) first.0 (last_point g ps) first.1.0 (subst (λ ts. Path (Leads users) g ts (last_point g ps)) along (trail-path users g ps trail)) in
    subst (λ s. Path (Leads users) g path s) (sym (ends some.0 (subst (λ u. Path (Leads users) u (drop n path) some.0) here first.1.1))) some.1
