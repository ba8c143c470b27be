-- Laws of lines in one list of rows.
use Rattle.std.proofs.Common.{◌≡◌, ◌≢◌, ◌≤◌, ◌<◌, ◌+◌, ◌&&◌, not, ℕ, suc, Bool, true, false, cond, nat_eq, nat_lt, eqb, List, [], ◌∷◌, length, drop, get_or, map, Option, Some, None, unwrap_or, is_none, refl, ap, sym, arith}
use Rattle.std.proofs.lemmas.Bool.{false≢true}
use Rattle.std.proofs.lemmas.Grind.{common_steps}
use Rattle.std.specs.List.{insert, remove, position_or_len, position, IsDistinct, list_any, AllByRecursion}
use Rattle.std.proofs.lemmas.List.Sums.{prefix_len-le-length}
use Rattle.std.proofs.lemmas.Map.Keys.{IsDistinct-cons}
use Rattle.std.proofs.lemmas.Map.Steps.{length-le_from_distinct_below}
use Rattle.mcs_types.specs.Waiters.{Waiter, insert_behind, without, first_waiter, behind, stands_in, is_place, NeverRises, IsPut}
use Rattle.mcs_types.proofs.Waiters.{without-absent, never_rises-insert, never_rises-without, put-behind}
use Rattle.mcs_queues.specs.declared.plain.Row.{Row}
use Rattle.mcs_queues.specs.Rows.{line_in, place_in, Kept, is_of, is_lower, enters, leaves}

-- what the inserted row does to the list
insert-cons : (b : Bool) (n : ℕ) (r v : Row) (vs ys : List Row) → insert vs n r ≡ ys → insert (v ∷ vs) (cond (not b) (1 + n) 0) r ≡ cond b (r ∷ v ∷ vs) (v ∷ ys)
insert-cons true n r v vs ys h = refl
insert-cons false n r v vs ys h = grind (arith, common_steps, h)

pub insert-enters : (r : Row) (rows : List Row) → insert rows (position_or_len (is_lower r.line.0 r.priority) rows) r ≡ enters r rows
insert-enters r [] = refl
insert-enters r (v ∷ vs) = insert-cons (is_lower r.line.0 r.priority v) (position_or_len (is_lower r.line.0 r.priority) vs) r v vs (enters r vs) (insert-enters r vs)

pub line-enters : (r : Row) (rows : List Row) (k : ℕ) → line_in (enters r rows) k ≡ cond (nat_eq r.line.0 k) (insert_behind (record { thread = r.thread.0; priority = r.priority }) (line_in rows k)) (line_in rows k)
line-enters r [] k = refl
line-enters r (v ∷ vs) k = let h = line-enters r vs k in grind (arith, common_steps, h)

pub place-enters : (r : Row) (rows : List Row) (u : ℕ) → place_in rows r.thread.0 ≡ None → place_in (enters r rows) u ≡ cond (nat_eq r.thread.0 u) (Some r.line.0) (place_in rows u)
place-enters r [] u out = refl
place-enters r (v ∷ vs) u out = let h = place-enters r vs u in grind (arith, common_steps, h)

apart : (r v : Row) (vs : List Row) → place_in (v ∷ vs) r.thread.0 ≡ None → (v.thread.0 ≢ r.thread.0) × (place_in vs r.thread.0 ≡ None)
apart r v vs out = (grind (arith, common_steps), grind (arith, common_steps))

kept-first : (n m : ℕ) (r v : Row) (vs : List Row) → Kept n m (v ∷ vs) → r.thread.0 < n → r.line.0 < m → place_in (v ∷ vs) r.thread.0 ≡ None → Kept n m (enters r vs) → place_in (enters r vs) v.thread.0 ≡ None → (b : Bool) → Kept n m (cond b (r ∷ v ∷ vs) (v ∷ enters r vs))
kept-first n m r v vs k a b out rest new true = (a, b, out, k)
kept-first n m r v vs k a b out rest new false = (k.0, k.1, new, rest)

pub kept-enters : (n m : ℕ) (r : Row) (rows : List Row) → Kept n m rows → r.thread.0 < n → r.line.0 < m → place_in rows r.thread.0 ≡ None → Kept n m (enters r rows)
kept-enters n m r [] k a b out = (a, b, refl, tt)
kept-enters n m r (v ∷ vs) k a b out =
    let o = apart r v vs out in
    let new : place_in (enters r vs) v.thread.0 ≡ None = (let p = place-enters r vs v.thread.0 o.1 in let q = k.2 in let ne = o.0 in grind (arith, common_steps, p, q, ne)) in
    kept-first n m r v vs k a b out (kept-enters n m r vs k.3 a b o.1) new (is_lower r.line.0 r.priority v)

-- what the removed row does to the list
remove-cons : (b : Bool) (n : ℕ) (v : Row) (vs ys : List Row) → cond (not b) (1 + n) 0 < length (v ∷ vs) → (n < length vs → remove vs n ≡ ys) → remove (v ∷ vs) (cond (not b) (1 + n) 0) ≡ cond b vs (v ∷ ys)
remove-cons true n v vs ys lt h = grind (arith, common_steps)
remove-cons false n v vs ys lt h = let e = h (omega (arith, lt)) in grind (arith, common_steps, e)

pub remove-leaves : (t : ℕ) (rows : List Row) → position_or_len (is_of t) rows < length rows → remove rows (position_or_len (is_of t) rows) ≡ leaves t rows
remove-leaves t [] lt = absurd (omega (arith, lt))
remove-leaves t (v ∷ vs) lt = remove-cons (is_of t v) (position_or_len (is_of t) vs) v vs (leaves t vs) lt (remove-leaves t vs)

pub stands-placed : (n m t k : ℕ) (rows : List Row) → Kept n m rows → stands_in t (line_in rows k) ≡ is_place (place_in rows t) k
stands-placed n m t k [] h = refl
stands-placed n m t k (v ∷ vs) h = let r = stands-placed n m t k vs h.3 in let o = h.2 in grind (arith, common_steps, r, o)

pub place-leaves : (n m t : ℕ) (rows : List Row) (u : ℕ) → Kept n m rows → place_in (leaves t rows) u ≡ cond (nat_eq t u) None (place_in rows u)
place-leaves n m t [] u h = grind (arith, common_steps)
place-leaves n m t (v ∷ vs) u h = let r = place-leaves n m t vs u h.3 in let o = h.2 in grind (arith, common_steps, r, o)

pub line-leaves : (n m t : ℕ) (rows : List Row) (k : ℕ) → Kept n m rows → line_in (leaves t rows) k ≡ without t (line_in rows k)
line-leaves n m t [] k h = refl
line-leaves n m t (v ∷ vs) k h =
    let r = line-leaves n m t vs k h.3 in
    let o = h.2 in
    let s = stands-placed n m t k vs h.3 in
    let a = without-absent t (line_in vs k) in
    grind (arith, common_steps, r, o, s, a)

kept-left : (n m t : ℕ) (v : Row) (vs : List Row) → Kept n m (v ∷ vs) → Kept n m (leaves t vs) → place_in (leaves t vs) v.thread.0 ≡ None → (b : Bool) → Kept n m (cond b vs (v ∷ leaves t vs))
kept-left n m t v vs k rest new true = k.3
kept-left n m t v vs k rest new false = (k.0, k.1, new, rest)

pub kept-leaves : (n m t : ℕ) (rows : List Row) → Kept n m rows → Kept n m (leaves t rows)
kept-leaves n m t [] k = tt
kept-leaves n m t (v ∷ vs) k =
    let new : place_in (leaves t vs) v.thread.0 ≡ None = (let p = place-leaves n m t vs v.thread.0 k.3 in let q = k.2 in grind (arith, common_steps, p, q)) in
    kept-left n m t v vs k (kept-leaves n m t vs k.3) new (is_of t v)

absent-cons : (t : ℕ) (v : Row) (vs : List Row) (b : Bool) → length (v ∷ vs) ≤ cond (not b) (1 + position_or_len (is_of t) vs) 0
    → (length vs ≤ position_or_len (is_of t) vs → (leaves t vs ≡ vs) × (place_in vs t ≡ None))
    → (cond b vs (v ∷ leaves t vs) ≡ v ∷ vs) × (cond b (Some v.line.0) (place_in vs t) ≡ None)
absent-cons t v vs true le h = absurd (omega (arith, le))
absent-cons t v vs false le h = let r = h (omega (arith, le)) in (ap (λ ys. v ∷ ys) r.0, r.1)

-- a thread with no row
pub absent-leaves : (t : ℕ) (rows : List Row) → length rows ≤ position_or_len (is_of t) rows → (leaves t rows ≡ rows) × (place_in rows t ≡ None)
absent-leaves t [] le = (refl, refl)
absent-leaves t (v ∷ vs) le = absent-cons t v vs (is_of t v) le (absent-leaves t vs)

-- the row that is found, of thread t in its line
abbrev Found : ℕ → List Row → Row → Option ℕ → Type 0
Found t rows r place = (r.thread.0 ≡ t) × (place ≡ Some r.line.0)

found-cons : (t : ℕ) (d v : Row) (vs : List Row) (n : ℕ) (b : Bool) → is_of t v ≡ b → cond (not b) (1 + n) 0 < length (v ∷ vs)
    → (n < length vs → Found t vs (get_or vs n d) (place_in vs t))
    → Found t (v ∷ vs) (get_or (v ∷ vs) (cond (not b) (1 + n) 0) d) (cond b (Some v.line.0) (place_in vs t))
found-cons t d v vs n true is lt h = (grind (arith, common_steps), refl)
found-cons t d v vs n false is lt h = let r = h (omega (arith, lt)) in (grind (arith, common_steps, r.0), grind (arith, common_steps, r.1))

pub found-row : (t : ℕ) (d : Row) (rows : List Row) → position_or_len (is_of t) rows < length rows → Found t rows (get_or rows (position_or_len (is_of t) rows) d) (place_in rows t)
found-row t d [] lt = absurd (omega (arith, lt))
found-row t d (v ∷ vs) lt = found-cons t d v vs (position_or_len (is_of t) vs) (is_of t v) refl lt (found-row t d vs)

-- who follows a thread: the first of its line in the rows after its row
behind-cons : (n m t k : ℕ) (v : Row) (vs : List Row) (i : ℕ) (b : Bool) → is_of t v ≡ b → cond (not b) (1 + i) 0 < length (v ∷ vs) → Kept n m (v ∷ vs) → cond b (Some v.line.0) (place_in vs t) ≡ Some k
    → (i < length vs → place_in vs t ≡ Some k → behind t (line_in vs k) ≡ first_waiter (line_in (drop (i + 1) vs) k))
    → behind t (line_in (v ∷ vs) k) ≡ first_waiter (line_in (drop (cond (not b) (1 + i) 0 + 1) (v ∷ vs)) k)
behind-cons n m t k v vs i true is lt kept place h = grind (arith, common_steps)
behind-cons n m t k v vs i false is lt kept place h = let r = h (omega (arith, lt)) place in grind (arith, common_steps, r)

pub behind-row : (n m t k : ℕ) (rows : List Row) → position_or_len (is_of t) rows < length rows → Kept n m rows → place_in rows t ≡ Some k → behind t (line_in rows k) ≡ first_waiter (line_in (drop (position_or_len (is_of t) rows + 1) rows) k)
behind-row n m t k [] lt kept place = absurd (omega (arith, lt))
behind-row n m t k (v ∷ vs) lt kept place = behind-cons n m t k v vs (position_or_len (is_of t) vs) (is_of t v) refl lt kept place (λ l p. behind-row n m t k vs l kept.3 p)

-- fewer rows than threads, where one has none
abbrev numbers : List Row → List ℕ
numbers rows = map (λ r. r.thread.0) rows

pub unwrap-position : {X : Type 0} (p : X → Bool) (xs : List X) → unwrap_or (position p xs) (length xs) ≡ position_or_len p xs
unwrap-position p xs = let le = prefix_len-le-length (λ x. not (p x)) xs in grind (arith, common_steps, le)

length-numbers : (rows : List Row) → length (numbers rows) ≡ length rows
length-numbers [] = refl
length-numbers (r ∷ rs) = ap suc (length-numbers rs)

distinct-others : (n m t : ℕ) (rows : List Row) → Kept n m rows → place_in rows t ≡ None → AllByRecursion (λ y. eqb t y ≡ false) (numbers rows)
distinct-others n m t [] k out = tt
distinct-others n m t (v ∷ vs) k out = (grind (arith, common_steps), distinct-others n m t vs k.3 (grind (arith, common_steps)))

distinct-numbers : (n m : ℕ) (rows : List Row) → Kept n m rows → IsDistinct eqb (numbers rows)
unfolding IsDistinct
distinct-numbers n m [] k = tt
distinct-numbers n m (v ∷ vs) k = (distinct-others n m v.thread.0 vs k.3 k.2, distinct-numbers n m vs k.3)

below-numbers : (n m : ℕ) (rows : List Row) → Kept n m rows → (q : ℕ) → list_any (eqb q) (numbers rows) ≡ true → q < n
below-numbers n m [] k q h = absurd (false≢true h)
below-numbers n m (v ∷ vs) k q h = let r = below-numbers n m vs k.3 q in let b = k.0 in grind (arith, common_steps, r, b)

below-more : (n t q : ℕ) (ts : List ℕ) → t < n → (list_any (eqb q) ts ≡ true → q < n) → list_any (eqb q) (t ∷ ts) ≡ true → q < n
below-more n t q ts lt r h = grind (arith, common_steps, r, lt)

-- there is room for the row of a thread that has none
pub room : (n m t : ℕ) (rows : List Row) → Kept n m rows → t < n → place_in rows t ≡ None → length rows < n
room n m t rows k lt out =
    let all = length-le_from_distinct_below (t ∷ numbers rows) n (IsDistinct-cons eqb t (numbers rows) (distinct-others n m t rows k out) (distinct-numbers n m rows k)) (λ q h. below-more n t q (numbers rows) lt (below-numbers n m rows k q) h) in
    omega (arith, all, length-numbers rows)

-- what is true of all rows
abbrev pub Good : ℕ → ℕ → List Row → Type 0
Good n m rows = Kept n m rows × ((k : ℕ) → NeverRises (line_in rows k))

rises-cond : (b : Bool) (w : Waiter) (vs : List Waiter) → NeverRises vs → NeverRises (cond b (insert_behind w vs) vs)
rises-cond true w vs h = never_rises-insert w vs h
rises-cond false w vs h = h

pub good-enters : (n m : ℕ) (r : Row) (rows : List Row) → Good n m rows → r.thread.0 < n → r.line.0 < m → place_in rows r.thread.0 ≡ None → Good n m (enters r rows)
good-enters n m r rows g a b out = (kept-enters n m r rows g.0 a b out, λ k. rw (line-enters r rows k) (rises-cond (nat_eq r.line.0 k) (record { thread = r.thread.0; priority = r.priority }) (line_in rows k) (g.1 k)))

pub good-leaves : (n m t : ℕ) (rows : List Row) → Good n m rows → Good n m (leaves t rows)
good-leaves n m t rows g = (kept-leaves n m t rows g.0, λ k. rw (line-leaves n m t rows k g.0) (never_rises-without t (line_in rows k) (g.1 k)))

-- the number of a thread that has a row, and of its line
pub known : (n m t q : ℕ) (rows : List Row) → Kept n m rows → place_in rows t ≡ Some q → (t < n) × (q < m)
known n m t q [] k h = absurd (cc)
known n m t q (v ∷ vs) k h = let r = known n m t q vs k.3 in let a = k.0 in let b = k.1 in (grind (arith, common_steps, r, a, b), grind (arith, common_steps, r, a, b))

-- a thread that left has no row
pub left-none : (n m t : ℕ) (rows : List Row) → Kept n m rows → place_in (leaves t rows) t ≡ None
left-none n m t rows k = let p = place-leaves n m t rows t k in grind (arith, common_steps, p)

-- a thread that left and entered in the same line
pub place-moved : (n m : ℕ) (r : Row) (rows : List Row) (u : ℕ) → Kept n m rows → place_in rows r.thread.0 ≡ Some r.line.0 → place_in (enters r (leaves r.thread.0 rows)) u ≡ place_in rows u
place-moved n m r rows u k h =
    let e = place-enters r (leaves r.thread.0 rows) u (left-none n m r.thread.0 rows k) in
    let l = place-leaves n m r.thread.0 rows u k in
    grind (arith, common_steps, e, l, h)

pub line-moved : (n m : ℕ) (r : Row) (rows : List Row) (k : ℕ) → Kept n m rows → place_in rows r.thread.0 ≡ Some r.line.0
    → line_in (enters r (leaves r.thread.0 rows)) k ≡ cond (nat_eq r.line.0 k) (insert_behind (record { thread = r.thread.0; priority = r.priority }) (without r.thread.0 (line_in rows k))) (line_in rows k)
line-moved n m r rows k kept h =
    let e = line-enters r (leaves r.thread.0 rows) k in
    let l = line-leaves n m r.thread.0 rows k kept in
    let s = stands-placed n m r.thread.0 k rows kept in
    let a = without-absent r.thread.0 (line_in rows k) in
    grind (arith, common_steps, e, l, s, a, h)

-- what a join that may be done is asked
pub may-means : (b : Bool) (t n q m : ℕ) (o : Option ℕ) → b ≡ (nat_lt t n && nat_lt q m && is_none o) → b ≡ true → (t < n) × (q < m) × (o ≡ None)
may-means b t n q m None e h = (grind (arith, common_steps), grind (arith, common_steps), refl)
may-means b t n q m (Some k) e h = absurd (false≢true (grind (arith, common_steps)))

-- nothing leaves where the thread has no row
pub leaves-nothing : (t : ℕ) (rows : List Row) → place_in rows t ≡ None → leaves t rows ≡ rows
leaves-nothing t [] h = refl
leaves-nothing t (v ∷ vs) h = let r = leaves-nothing t vs in grind (arith, common_steps, r)

-- who enters is last of its priority
pub put-enters : (r : Row) (rows : List Row) → NeverRises (line_in rows r.line.0)
    → IsPut (record { thread = r.thread.0; priority = r.priority }) (line_in rows r.line.0) (line_in (enters r rows) r.line.0)
put-enters r rows h =
    let w : Waiter = record { thread = r.thread.0; priority = r.priority } in
    let e : line_in (enters r rows) r.line.0 ≡ insert_behind w (line_in rows r.line.0) = (let l = line-enters r rows r.line.0 in grind (arith, common_steps, l)) in
    rw e (put-behind w (line_in rows r.line.0) h)

pub put-moved : (n m : ℕ) (r : Row) (rows : List Row) (k : ℕ) → Good n m rows → place_in rows r.thread.0 ≡ Some r.line.0 → place_in rows r.thread.0 ≡ Some k
    → IsPut (record { thread = r.thread.0; priority = r.priority }) (without r.thread.0 (line_in rows k)) (line_in (enters r (leaves r.thread.0 rows)) k)
put-moved n m r rows k g was h =
    let e : k ≡ r.line.0 = grind (arith, common_steps, was, h) in
    let left = good-leaves n m r.thread.0 rows g in
    let l : without r.thread.0 (line_in rows r.line.0) ≡ line_in (leaves r.thread.0 rows) r.line.0 = sym (line-leaves n m r.thread.0 rows r.line.0 g.0) in
    rw (e, l) (put-enters r (leaves r.thread.0 rows) (left.1 r.line.0))
