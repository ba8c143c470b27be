-- The best of users.
use Rattle.std.specs.Prelude.{ℕ, Bool, false, nat_lt, zero, suc, ◌==◌, ◌+◌, ◌-◌, ◌<◌, ◌≤◌, ◌≡◌, ◌⊎◌, drop, length, List, [], ◌∷◌, ◌++◌, Option, Some, None, slice_get, set, replicate}
use Rattle.std.specs.Prelude.{Result, Ok, Err}
use Rattle.std.specs.Result.{IfOk}
use Rattle.std.specs.Option.{IfSome}
use Rattle.std.specs.List.{list_any, Contains}
use Rattle.std.proofs.Common.{refl, ap, sym, ◌∙◌, subst, arith, rules, true, append_assoc, inl, inr}
use Rattle.std.proofs.Math.Seq.{drop-cons}
use Rattle.std.proofs.lemmas.Bool.{eq-eqb, ltb-true}
use Rattle.std.proofs.lemmas.Bool.Decides.{nat_tests}
use Rattle.std.proofs.lemmas.Map.Views.{Contains-from_any}
use Rattle.std.proofs.lemmas.Option.{slice_get_within, get_or_from_slice_get}
use Rattle.mcs_types.proofs.Ids.{both}
use Rattle.mcs_types.specs.declared.id.ObjId.{ObjId}
use Rattle.mcs_types.specs.declared.id.CoreId.{CoreId}
use Rattle.mcs_explore_walk.specs.Walks.{AreBest, AreBestBelow, Gives, IsBestBelow, IsBestOf, IsOffer, left_stale}
use Rattle.mcs_book.specs.Logs.{Log}
use Rattle.mcs_book.specs.Picking.{GoesBefore}
use Rattle.mcs_book.specs.Threads.{prio_of}
use Rattle.mcs_turns.specs.declared.position.Pick.{Pick}
use Rattle.mcs_book.specs.History.{log_of}
use Rattle.mcs_turns.specs.declared.position.Position.{Position}
use Rattle.mcs_turns.specs.Turns.{User, RunState, CanGive}
use Rattle.mcs_explore_walk.specs.declared.walk.Candidate.{Candidate}
use Rattle.mcs_turns.proofs.Choices.{same-pick}
use Rattle.mcs_turns.specs.Due.{none_stale, is_same, stale_after}

pub before-on : (R : Log) (t u v : ObjId) → GoesBefore R t u → GoesBefore R u v → GoesBefore R t v
before-on R t u v a b = record {
  priority = omega (arith, a.priority, b.priority);
  serial = λ e.
      let x = a.priority in
      let y = b.priority in
      let p : prio_of R u ≡ prio_of R t = omega (arith, x, y, e) in
      let q : prio_of R v ≡ prio_of R u = omega (arith, x, y, e) in
      let m = a.serial p in
      let n = b.serial q in
      omega (arith, m, n);
}

-- a list from a place on, by its element there
pub drop-at : {A : Type 0} (xs : List A) (i : ℕ) (x : A) → slice_get xs i ≡ Some x → drop i xs ≡ x ∷ drop (i + 1) xs
drop-at xs i x at =
    let next : suc i ≡ i + 1 = omega (arith) in
    drop-cons xs i x (slice_get_within xs i x at) ∙ ap (λ y. y ∷ drop (suc i) xs) (get_or_from_slice_get xs i x x at) ∙ ap (λ n. x ∷ drop n xs) next

-- and past its end
pub drop-past : {A : Type 0} (xs : List A) (i : ℕ) → slice_get xs i ≡ None → drop i xs ≡ []
drop-past {A = A} xs i none = go xs i none
  where
    go : (ys : List A) (n : ℕ) → slice_get ys n ≡ None → drop n ys ≡ []
    go [] zero e = refl
    go [] (suc n) e = refl
    go (y ∷ ys) zero e = absurd cc
    go (y ∷ ys) (suc n) e = go ys n (search rules)

pub drop-beyond : {A : Type 0} (xs : List A) (i : ℕ) → slice_get xs i ≡ None → drop (i + 1) xs ≡ []
drop-beyond {A = A} xs i none =
    let next : i + 1 ≡ suc i = omega (arith) in
    ap (λ n. drop n xs) next ∙ go xs i none
  where
    go : (ys : List A) (n : ℕ) → slice_get ys n ≡ None → drop (suc n) ys ≡ []
    go [] n e = refl
    go (y ∷ ys) zero e = absurd cc
    go (y ∷ ys) (suc n) e = go ys n (search rules)

-- the cores that are left have none either
pub none-next : (xs : List (List Pick)) (n core : ℕ) → core < n → xs ++ none_stale (n - core) ≡ (xs ++ [] ∷ []) ++ none_stale (n - (core + 1))
none-next xs n core low =
    let left : n - core ≡ suc (n - (core + 1)) = omega (arith, low) in
    ap (λ k. xs ++ none_stale k) left ∙ sym (append_assoc xs ([] ∷ []) (none_stale (n - (core + 1))))

-- a pick that is the same as one of them is among them
pub among : (k : Pick) (js : List Pick) → list_any (is_same k) js ≡ true → Contains js k
among k js h = Contains-from_any same-pick k js h

-- below the next number is below it, or it
pub nat_split : (i n : ℕ) → i < n + 1 → (i < n) ⊎ (i ≡ n)
nat_split i n low = go (nat_lt i n) refl
  where
    go : (b : Bool) → nat_lt i n ≡ b → (i < n) ⊎ (i ≡ n)
    go true e = inl (ltb-true i n e)
    go false e = inr (grind (arith, nat_tests, e, low))

-- the stale picks from a core on, by that core
pub stale-next : (core user i : ℕ) (ps ss : List (List Pick)) (s : List Pick) → slice_get ss i ≡ Some s
    → stale_after core user i (drop i ps) (drop i ss) ≡ left_stale core user ps i s ∷ stale_after core user (i + 1) (drop (i + 1) ps) (drop (i + 1) ss)
stale-next core user i ps ss s at = rw (drop-at ss i s at) (go (slice_get ps i) refl)
  where
    go : (o : Option (List Pick)) → slice_get ps i ≡ o
        → stale_after core user i (drop i ps) (s ∷ drop (i + 1) ss) ≡ left_stale core user ps i s ∷ stale_after core user (i + 1) (drop (i + 1) ps) (drop (i + 1) ss)
    go None e = rw (drop-past ps i e, drop-beyond ps i e, e) refl
    go (Some k) e = rw (drop-at ps i k e, e) refl

-- two users in one place are one
one-user : (users : List User) (i : ℕ) (u v : User) → slice_get users i ≡ Some u → slice_get users i ≡ Some v → u ≡ v
one-user users i u v e f = some-same (sym e ∙ f)
  where
    some-same : Some u ≡ Some v → u ≡ v
    some-same h = search rules

-- the best below the next number, where the user there is known to go after it
best-next : (users : List User) (g : RunState) (core : CoreId) (n : ℕ) (t : ObjId)
    → ((i : ℕ) (u : User) (p : Position) → i < n → CanGive users g core i u p → GoesBefore (log_of g.book) t u.thread)
    → ((u : User) (p : Position) → CanGive users g core n u p → GoesBefore (log_of g.book) t u.thread)
    → (i : ℕ) (u : User) (p : Position) → i < n + 1 → CanGive users g core i u p → GoesBefore (log_of g.book) t u.thread
best-next users g core n t below here i u p low can = go (nat_split i n low)
  where
    go : (i < n) ⊎ (i ≡ n) → GoesBefore (log_of g.book) t u.thread
    go (inl h) = below i u p h can
    go (inr h) = here u p (subst (λ k. CanGive users g core k u p) h can)

-- two threads of users that can give an entry in one place are the same
one-thread : (users : List User) (g : RunState) (core : CoreId) (n : ℕ) (k : Pick) (t : ObjId) (u : User) (p : Position) → Gives users g core n k t → CanGive users g core n u p → t ≡ u.thread
one-thread users g core n k t u p gives can =
    gives.thread ∙ ap (λ (v : User). v.thread) (one-user users n gives.user u gives.can.user can.user)

-- a thread goes before itself
before-self : (R : Log) (t : ObjId) → GoesBefore R t t
before-self R t = record { priority = omega arith; serial = λ e. omega arith }

-- the thread of the best so far
module _ (users : List User) (g : RunState) (n : ℕ) (candidate : Candidate) (k : Pick) (u : User) (is : IsOffer users g n (Some candidate)) (best : IsBestBelow users g candidate.core n (Some k)) (at : slice_get users k.user ≡ Some u) where
  its-thread : best.0 ≡ u.thread
  its-thread = best.1.thread ∙ ap (λ (v : User). v.thread) (one-user users k.user best.1.user u best.1.can.user at)

  below : (i : ℕ) (v : User) (p : Position) → i < n → CanGive users g candidate.core i v p → GoesBefore (log_of g.book) u.thread v.thread
  below i v p low can = subst (λ t. GoesBefore (log_of g.book) t v.thread) its-thread (best.2 i v p low can)

  -- the best stays the best where it goes before the next one
  pub goes_after : GoesBefore (log_of g.book) u.thread candidate.thread → IsBestBelow users g candidate.core (n + 1) (Some k)
  goes_after goes = (
    u.thread,
    subst (λ t. Gives users g candidate.core k.user k t) its-thread best.1,
    best-next users g candidate.core n u.thread below (λ v p can. subst (λ t. GoesBefore (log_of g.book) u.thread t) (one-thread users g candidate.core n candidate.pick candidate.thread v p is.0 can) goes),
  )

  -- the next one is the best where it goes before the best so far
  pub goes_first : GoesBefore (log_of g.book) candidate.thread u.thread → IsBestBelow users g candidate.core (n + 1) (Some candidate.pick)
  goes_first goes = (
    candidate.thread,
    subst (λ i. Gives users g candidate.core i candidate.pick candidate.thread) (sym (ap (λ (j : Pick). j.user) is.0.number)) is.0,
    best-next users g candidate.core n candidate.thread (λ i v p low can. before-on (log_of g.book) candidate.thread u.thread v.thread goes (below i v p low can))
        (λ v p can. subst (λ t. GoesBefore (log_of g.book) candidate.thread t) (one-thread users g candidate.core n candidate.pick candidate.thread v p is.0 can) (before-self (log_of g.book) candidate.thread)),
  )

-- or if there was none
pub is_first : (users : List User) (g : RunState) (n : ℕ) (candidate : Candidate) → IsOffer users g n (Some candidate) → IsBestBelow users g candidate.core n None → IsBestBelow users g candidate.core (n + 1) (Some candidate.pick)
is_first users g n candidate is none = (
  candidate.thread,
  subst (λ i. Gives users g candidate.core i candidate.pick candidate.thread) (sym (ap (λ (j : Pick). j.user) is.0.number)) is.0,
  best-next users g candidate.core n candidate.thread (λ i v p low can. absurd (none i v p low can))
      (λ v p can. subst (λ t. GoesBefore (log_of g.book) candidate.thread t) (one-thread users g candidate.core n candidate.pick candidate.thread v p is.0 can) (before-self (log_of g.book) candidate.thread)),
)

-- the best of a core on which the next user can give nothing is the best still
best-kept : (users : List User) (g : RunState) (core : CoreId) (n : ℕ) (o : Option Pick) → ((u : User) (p : Position) → CanGive users g core n u p → ⊥)
    → IsBestBelow users g core n o → IsBestBelow users g core (n + 1) o
best-kept users g core n None nothing best = λ i u p low can. go i u p can (nat_split i n low)
  where
    go : (i : ℕ) (u : User) (p : Position) → CanGive users g core i u p → (i < n) ⊎ (i ≡ n) → ⊥
    go i u p can (inl h) = best i u p h can
    go i u p can (inr h) = nothing u p (subst (λ k. CanGive users g core k u p) h can)
best-kept users g core n (Some k) nothing best =
    (best.0, best.1, best-next users g core n best.0 best.2 (λ u p can. absurd (nothing u p can)))

-- all of them, where the next user can give nothing
pub all_kept : (users : List User) (g : RunState) (n : ℕ) (picks : List (Option Pick)) → IsOffer users g n None → AreBestBelow users g n picks → AreBestBelow users g (n + 1) picks
all_kept users g n picks none best = record {
  each = λ core k at. best-kept users g core n k (λ u p can. none core u p can) (best.each core k at);
}

-- a list with another element in a place
set-at : {A : Type 0} (xs : List A) (i j : ℕ) (x y : A) → slice_get (set xs i x) j ≡ Some y → ((i ≡ j) × (x ≡ y)) ⊎ (((i ≡ j) → ⊥) × (slice_get xs j ≡ Some y))
set-at [] i j x y at = absurd cc
set-at (z ∷ xs) zero zero x y at = inl (refl, cc)
set-at (z ∷ xs) zero (suc j) x y at = inr ((λ e. absurd cc), at)
set-at (z ∷ xs) (suc i) zero x y at = inr ((λ e. absurd cc), at)
set-at (z ∷ xs) (suc i) (suc j) x y at = go (set-at xs i j x y at)
  where
    go : ((i ≡ j) × (x ≡ y)) ⊎ (((i ≡ j) → ⊥) × (slice_get xs j ≡ Some y)) → ((suc i ≡ suc j) × (x ≡ y)) ⊎ (((suc i ≡ suc j) → ⊥) × (slice_get xs j ≡ Some y))
    go (inl h) = inl (ap (λ n. suc n) h.0, h.1)
    go (inr h) = inr ((λ e. h.0 (pred e)), h.1)
      where
        pred : suc i ≡ suc j → i ≡ j
        pred e = omega (arith, e)

-- and where it gives the best of its core
pub all_noted : (users : List User) (g : RunState) (n : ℕ) (picks : List (Option Pick)) (candidate : Candidate) (k : Pick) → IsOffer users g n (Some candidate) → AreBestBelow users g n picks
    → IsBestBelow users g candidate.core (n + 1) (Some k) → AreBestBelow users g (n + 1) (set picks candidate.core.0 (Some k))
all_noted users g n picks candidate k is best new = record { each = λ core j at. go core j (set-at picks candidate.core.0 core.0 (Some k) j at) }
  where
    go : (core : CoreId) (j : Option Pick) → ((candidate.core.0 ≡ core.0) × (Some k ≡ j)) ⊎ (((candidate.core.0 ≡ core.0) → ⊥) × (slice_get picks core.0 ≡ Some j)) → IsBestBelow users g core (n + 1) j
    go core j (inl h) = subst (λ o. IsBestBelow users g core (n + 1) o) h.1 (subst (λ (m : ℕ). IsBestBelow users g (record { 0 = m }) (n + 1) (Some k)) h.0 new)
    go core j (inr h) = best-kept users g core n j (λ u p can. h.0 (ap (λ (c : CoreId). c.0) (sym (is.1 core u p can)))) (best.each core j h.1)

-- a place of a list is below its length
in-list : {A : Type 0} (xs : List A) (i : ℕ) (x : A) → slice_get xs i ≡ Some x → i < length xs
in-list [] i x at = absurd cc
in-list (y ∷ xs) zero x at = omega arith
in-list (y ∷ xs) (suc i) x at = let below = in-list xs i x at in omega (arith, below)

-- or where its core is none of these
pub all_beyond : (users : List User) (g : RunState) (n : ℕ) (picks : List (Option Pick)) (candidate : Candidate) → IsOffer users g n (Some candidate) → length picks ≤ candidate.core.0 → AreBestBelow users g n picks → AreBestBelow users g (n + 1) picks
all_beyond users g n picks candidate is far best = record { each = λ core k at. best-kept users g core n k (other core k at) (best.each core k at) }
  where
    other : (core : CoreId) (k : Option Pick) → slice_get picks core.0 ≡ Some k → (u : User) (p : Position) → CanGive users g core n u p → ⊥
    other core k at u p can =
        let low = in-list picks core.0 k at in
        let same : core.0 ≡ candidate.core.0 = ap (λ (c : CoreId). c.0) (is.1 core u p can) in
        omega (arith, low, far, same)

-- no pick is the best of no user
none-of : (n i : ℕ) (k : Option Pick) → slice_get (replicate n None) i ≡ Some k → k ≡ None
none-of zero i k at = absurd cc
none-of (suc n) zero k at = cc
none-of (suc n) (suc i) k at = none-of n i k at

pub none_best : (users : List User) (g : RunState) (n : ℕ) (picks : List (Option Pick)) → picks ≡ replicate n None → AreBestBelow users g 0 picks
none_best users g n picks are = record {
  each = λ core k at. subst (λ o. IsBestBelow users g core 0 o) (sym (none-of n core.0 k (subst (λ ks. slice_get ks core.0 ≡ Some k) are at))) (λ i u p low can. omega (arith, low));
}

-- the best of all users is the pick
best-pick : (users : List User) (g : RunState) (core : CoreId) (n : ℕ) (o : Option Pick) → length users ≤ n → IsBestBelow users g core n o → IsBestOf users g core o
best-pick users g core n None all best = λ i u p can. best i u p (let low = in-list users i u can.user in omega (arith, low, all)) can
best-pick users g core n (Some k) all best = record {
  user = best.1.user;
  place = best.1.place;
  can = best.1.can;
  number = ap (λ (j : Pick). j.number) best.1.number;
  best = λ i v q can. subst (λ t. GoesBefore (log_of g.book) t v.thread) best.1.thread (best.2 i v q (let low = in-list users i v can.user in omega (arith, low, all)) can);
}

pub best_picks : (users : List User) (g : RunState) (n : ℕ) (picks : List (Option Pick)) → length users ≤ n → length picks ≡ g.book.boot.cores → AreBestBelow users g n picks → AreBest users g picks
best_picks users g n picks all long best = record {
  cores = long;
  each = λ core k at. best-pick users g core n k all (best.each core k at);
}

-- the stale picks so far, and those of one core more
pub stale-step : (core user i : ℕ) (ps ss done : List (List Pick)) (s left : List Pick) → slice_get ss i ≡ Some s → left ≡ left_stale core user ps i s
    → done ++ stale_after core user i (drop i ps) (drop i ss) ≡ (done ++ left ∷ []) ++ stale_after core user (i + 1) (drop (i + 1) ps) (drop (i + 1) ss)
stale-step core user i ps ss done s left at is =
    let rest = stale_after core user (i + 1) (drop (i + 1) ps) (drop (i + 1) ss) in
    ap (λ xs. done ++ xs) (stale-next core user i ps ss s at) ∙ ap (λ x. done ++ x ∷ rest) (sym is) ∙ sym (append_assoc done (left ∷ []) rest)

-- what follows of a result where it is something
pub ok-some : {A E : Type 0} (r : Result (Option A) E) (P Q : Type 0) → (P → Q) → IfOk r (λ o. IfSome o (λ a. P)) → IfOk r (λ o. IfSome o (λ a. Q))
ok-some (Ok (Some a)) P Q f h = f h
ok-some (Ok None) P Q f h = h
ok-some (Err e) P Q f h = h

-- a pick is the same as itself
pub same-itself : (k : Pick) → is_same k k ≡ true
same-itself k = both (k.user == k.user) (k.number == k.number) (eq-eqb k.user k.user refl) (eq-eqb k.number k.number refl)
