-- A core has the same picks at a point, and a turn leads to one point.
use Rattle.std.specs.Prelude.{ℕ, suc, ◌≡◌, ◌<◌, ◌⊎◌, length, List, [], ◌∷◌, Option, Some, None, slice_get}
use Rattle.std.specs.List.{All, Contains}
use Rattle.std.proofs.Common.{refl, ap, sym, ◌∙◌, subst, arith, rules, inl, inr}
use Rattle.std.proofs.lemmas.List.Elements.{All-contains}
use Rattle.mcs_types.specs.declared.id.CoreId.{CoreId}
use Rattle.mcs_types.specs.declared.entry.Entry.{Entry}
use Rattle.mcs_turns.specs.declared.position.Pick.{Pick}
use Rattle.mcs_turns.specs.Turns.{User, RunState, ArePicksOf, ArePicks, AreAscending, IsTurn, entered, given}
use Rattle.mcs_turns.proofs.Among.{none-in, first-in, later-in, split-in}

-- two elements in one place are one
pub one-at : {A : Type 0} (xs : List A) (i : ℕ) (x y : A) → slice_get xs i ≡ Some x → slice_get xs i ≡ Some y → x ≡ y
one-at {A = A} xs i x y e f = some-same (sym e ∙ f)
  where
    some-same : Some x ≡ Some y → x ≡ y
    some-same h = search rules

-- lists of one length with one element in each place are one
pub same-lists : {A : Type 0} (xs ys : List A) → length xs ≡ length ys → ((i : ℕ) (x y : A) → slice_get xs i ≡ Some x → slice_get ys i ≡ Some y → x ≡ y) → xs ≡ ys
same-lists [] [] e f = refl
same-lists [] (y ∷ ys) e f = absurd cc
same-lists (x ∷ xs) [] e f = absurd cc
same-lists (x ∷ xs) (y ∷ ys) e f =
    let long : length xs ≡ length ys = omega (arith, e) in
    ap (λ z. z ∷ xs) (f 0 x y refl refl) ∙ ap (λ zs. y ∷ zs) (same-lists xs ys long (λ i v w p q. f (suc i) v w p q))

-- the first of ascending picks is before the others, and those ascend
before-all : (k : Pick) (ks : List Pick) → AreAscending (k ∷ ks) → All (λ (j : Pick). k.user < j.user) ks
before-all k ks up = λ i d within. up 0 (suc i) d (omega arith) (omega (arith, within))

others-ascend : (k : Pick) (ks : List Pick) → AreAscending (k ∷ ks) → AreAscending ks
others-ascend k ks up = λ i j d low within. up (suc i) (suc j) d (omega (arith, low)) (omega (arith, within))

before : (k : Pick) (ks : List Pick) → AreAscending (k ∷ ks) → (j : Pick) → Contains ks j → k.user < j.user
before k ks up j c = All-contains (λ (i : Pick). k.user < i.user) ks j (before-all k ks up) c

-- what is among one list is among the other, but for the first of both
others-in : (k j : Pick) (ks js : List Pick) → k ≡ j → AreAscending (k ∷ ks) → ((i : Pick) → Contains (k ∷ ks) i → Contains (j ∷ js) i)
    → (i : Pick) → Contains ks i → Contains js i
others-in k j ks js same up f i c = go (split-in j js i (f i (later-in k ks i c)))
  where
    go : (j ≡ i) ⊎ Contains js i → Contains js i
    go (inl e) =
        let low = before k ks up i c in
        let one : k.user ≡ i.user = ap (λ (p : Pick). p.user) (same ∙ e) in
        absurd (omega (arith, low, one))
    go (inr d) = d

-- ascending picks that have the same elements are the same
one-list : (ks js : List Pick) → AreAscending ks → AreAscending js → ((i : Pick) → Contains ks i → Contains js i) → ((i : Pick) → Contains js i → Contains ks i) → ks ≡ js
one-list [] [] up also f g = refl
one-list [] (j ∷ js) up also f g = absurd (none-in j (g j (first-in j js)))
one-list (k ∷ ks) [] up also f g = absurd (none-in k (f k (first-in k ks)))
one-list (k ∷ ks) (j ∷ js) up also f g =
    let one : k ≡ j = first (split-in j js k (f k (first-in k ks))) (split-in k ks j (g j (first-in j js))) in
    ap (λ p. p ∷ ks) one ∙ ap (λ ps. j ∷ ps) (one-list ks js (others-ascend k ks up) (others-ascend j js also)
    (others-in k j ks js one up f) (others-in j k js ks (sym one) also g))
  where
    first : (j ≡ k) ⊎ Contains js k → (k ≡ j) ⊎ Contains ks j → k ≡ j
    first (inl e) h = sym e
    first (inr c) (inl e) = e
    first (inr c) (inr d) =
        let low = before j js also k c in
        let high = before k ks up j d in
        absurd (omega (arith, low, high))

one-pick : (users : List User) (g : RunState) (core : CoreId) (ks js : List Pick) → ArePicksOf users g core ks → ArePicksOf users g core js → ks ≡ js
one-pick users g core ks js a b = one-list ks js a.ascending b.ascending (λ k c. b.all k (a.picked k c)) (λ k c. a.all k (b.picked k c))

pub one-picks : (users : List User) (g : RunState) (ks js : List (List Pick)) → ArePicks users g ks → ArePicks users g js → ks ≡ js
one-picks users g ks js a b = same-lists ks js (a.cores ∙ sym b.cores) (λ i k j p q.
    let core : CoreId = record { 0 = i } in
    one-pick users g core k j (a.each core k p) (b.each core j q))

pub one-turn : (users : List User) (core : CoreId) (k : Pick) (g h i : RunState) → IsTurn users core k g h → IsTurn users core k g i → h ≡ i
one-turn users core k g h i a b =
    let user : a.user ≡ b.user = one-at users k.user a.user b.user a.is_user b.is_user in
    let entry : a.entry ≡ b.entry = one-at b.user.entries k.number a.entry b.entry (subst (λ (u : User). slice_get u.entries k.number ≡ Some a.entry) user a.is_entry) b.is_entry in
    let picks : a.picks ≡ b.picks = one-picks users g a.picks b.picks a.are_picks b.are_picks in
    a.after
    ∙ ap (λ (ks : List (List Pick)). entered users ks a.user (record { core = core; thread = a.user.thread; entry = given g a.user k a.entry }) k g) picks
    ∙ ap (λ (u : User). entered users b.picks u (record { core = core; thread = u.thread; entry = given g u k a.entry }) k g) user
    ∙ ap (λ (e : Entry). entered users b.picks b.user (record { core = core; thread = b.user.thread; entry = given g b.user k e }) k g) entry
    ∙ sym b.after
