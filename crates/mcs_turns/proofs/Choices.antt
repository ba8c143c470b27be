-- What each core may enter, at a point and after a line.
use Rattle.std.specs.Prelude.{ℕ, zero, suc, Bool, true, false, cond, ◌≡◌, ◌+◌, ◌==◌, ◌⊎◌, length, List, [], ◌∷◌, Some, slice_get}
use Rattle.std.specs.List.{Contains}
use Rattle.std.proofs.Common.{refl, ap, sym, ◌∙◌, subst, inl, inr}
use Rattle.std.proofs.lemmas.Bool.{eqb-true}
use Rattle.mcs_types.proofs.Ids.{parts}
use Rattle.mcs_turns.specs.declared.position.Pick.{Pick}
use Rattle.mcs_turns.specs.Due.{is_same, is_ahead, with_pick, with_picks, picks_at, without_user, choices, stale_after}
use Rattle.mcs_turns.proofs.Among.{none-in, first-in, later-in, one-in, split-in}

pub same-pick : (k j : Pick) → is_same k j ≡ true → k ≡ j
same-pick k j e =
    let p = parts (k.user == j.user) (k.number == j.number) e in
    let user : k.user ≡ j.user = eqb-true k.user j.user p.0 in
    let number : k.number ≡ j.number = eqb-true k.number j.number p.1 in
    ap (λ u. record { user = u; number = k.number }) user ∙ ap (λ n. record { user = j.user; number = n }) number

-- picks are still among them with one more
with-in : (k : Pick) (js : List Pick) (i : Pick) → Contains js i → Contains (with_pick k js) i
with-in k [] i c = absurd (none-in i c)
with-in k (j ∷ js) i c = go (λ d. with-in k js i d) (is_same k j) (is_ahead k j) (split-in j js i c)
  where
    go : (Contains js i → Contains (with_pick k js) i) → (a b : Bool) → (j ≡ i) ⊎ Contains js i → Contains (cond a (j ∷ js) (cond b (k ∷ j ∷ js) (j ∷ with_pick k js))) i
    go rest true b h = c
    go rest false true h = later-in k (j ∷ js) i c
    go rest false false (inl e) = subst (λ x. Contains (x ∷ with_pick k js) i) (sym e) (first-in i (with_pick k js))
    go rest false false (inr d) = later-in j (with_pick k js) i (rest d)

more-in : (ks js : List Pick) (i : Pick) → Contains js i → Contains (with_picks ks js) i
more-in [] js i c = c
more-in (k ∷ ks) js i c = more-in ks (with_pick k js) i (with-in k js i c)

-- what is among them with one more is that one, or was among them
with-out : (k : Pick) (js : List Pick) (i : Pick) → Contains (with_pick k js) i → (k ≡ i) ⊎ Contains js i
with-out k [] i c = inl (one-in k i c)
with-out k (j ∷ js) i c = go (λ d. with-out k js i d) (is_same k j) (is_ahead k j) c
  where
    last : (k ≡ i) ⊎ Contains js i → (k ≡ i) ⊎ Contains (j ∷ js) i
    last (inl e) = inl e
    last (inr d) = inr (later-in j js i d)

    late : (Contains (with_pick k js) i → (k ≡ i) ⊎ Contains js i) → (j ≡ i) ⊎ Contains (with_pick k js) i → (k ≡ i) ⊎ Contains (j ∷ js) i
    late rest (inl e) = inr (subst (λ x. Contains (x ∷ js) i) (sym e) (first-in i js))
    late rest (inr d) = last (rest d)

    go : (Contains (with_pick k js) i → (k ≡ i) ⊎ Contains js i) → (a b : Bool) → Contains (cond a (j ∷ js) (cond b (k ∷ j ∷ js) (j ∷ with_pick k js))) i → (k ≡ i) ⊎ Contains (j ∷ js) i
    go rest true b d = inr d
    go rest false true d = split-in k (j ∷ js) i d
    go rest false false d = late rest (split-in j (with_pick k js) i d)

more-out : (ks js : List Pick) (i : Pick) → Contains (with_picks ks js) i → Contains ks i ⊎ Contains js i
more-out [] js i c = inr c
more-out (k ∷ ks) js i c = go (more-out ks (with_pick k js) i c)
  where
    one : (k ≡ i) ⊎ Contains js i → Contains (k ∷ ks) i ⊎ Contains js i
    one (inl e) = inl (subst (λ x. Contains (x ∷ ks) i) (sym e) (first-in i ks))
    one (inr d) = inr d

    go : Contains ks i ⊎ Contains (with_pick k js) i → Contains (k ∷ ks) i ⊎ Contains js i
    go (inl d) = inl (later-in k ks i d)
    go (inr d) = one (with-out k js i d)

-- it is among the picks of a core
abbrev pub IsOneOf : List (List Pick) → ℕ → Pick → Type 0
IsOneOf ss n k = (js : List Pick) × ((slice_get ss n ≡ Some js) × Contains js k)

there : (s js : List Pick) (k : Pick) → Some s ≡ Some js → Contains js k → Contains s k
there s js k e c = let is : s ≡ js = cc in subst (λ x. Contains x k) (sym is) c

-- each stale pick of a core may be entered there
pub choice-in : (ps ss : List (List Pick)) (n : ℕ) (k : Pick) → IsOneOf ss n k → IsOneOf (choices ps ss) n k
choice-in ps [] n k (js, (e, c)) = absurd cc
choice-in [] (s ∷ ss) zero k (js, (e, c)) = (s, (refl, there s js k e c))
choice-in [] (s ∷ ss) (suc n) k (js, (e, c)) = choice-in [] ss n k (js, (e, c))
choice-in (p ∷ ps) (s ∷ ss) zero k (js, (e, c)) = (with_picks p s, (refl, more-in p s k (there s js k e c)))
choice-in (p ∷ ps) (s ∷ ss) (suc n) k (js, (e, c)) = choice-in ps ss n k (js, (e, c))

-- what a core may enter is one of its picks, or among its stale picks
pub choice-out : (ps ss : List (List Pick)) (n : ℕ) (k : Pick) → IsOneOf (choices ps ss) n k → Contains (picks_at ps n) k ⊎ IsOneOf ss n k
choice-out ps [] n k (cs, (e, c)) = absurd cc
choice-out [] (s ∷ ss) zero k (cs, (e, c)) = inr (s, (refl, there s cs k e c))
choice-out [] (s ∷ ss) (suc n) k (cs, (e, c)) = go (choice-out [] ss n k (cs, (e, c)))
  where
    go : Contains (picks_at [] n) k ⊎ IsOneOf ss n k → Contains (picks_at [] (suc n)) k ⊎ IsOneOf (s ∷ ss) (suc n) k
    go (inl d) = absurd (none-in k d)
    go (inr d) = inr d
choice-out (p ∷ ps) (s ∷ ss) zero k (cs, (e, c)) = go (more-out p s k (there (with_picks p s) cs k e c))
  where
    go : Contains p k ⊎ Contains s k → Contains (picks_at (p ∷ ps) zero) k ⊎ IsOneOf (s ∷ ss) zero k
    go (inl d) = inl d
    go (inr d) = inr (s, (refl, d))
choice-out (p ∷ ps) (s ∷ ss) (suc n) k (cs, (e, c)) = choice-out ps ss n k (cs, (e, c))

pub length-choices : (ps ss : List (List Pick)) → length (choices ps ss) ≡ length ss
length-choices ps [] = refl
length-choices [] (s ∷ ss) = ap (λ n. suc n) (length-choices [] ss)
length-choices (p ∷ ps) (s ∷ ss) = ap (λ n. suc n) (length-choices ps ss)

-- what is left of them after a line
abbrev left_after : ℕ → ℕ → ℕ → List (List Pick) → List (List Pick)
left_after core user i [] = []
left_after core user i (s ∷ ss) = cond (i == core) [] (without_user user s) ∷ left_after core user (i + 1) ss

stale-left : (core user i : ℕ) (ps ss : List (List Pick)) → stale_after core user i ps ss ≡ left_after core user i (choices ps ss)
stale-left core user i ps [] = refl
stale-left core user i [] (s ∷ ss) = ap (λ r. cond (i == core) [] (without_user user s) ∷ r) (stale-left core user (i + 1) [] ss)
stale-left core user i (p ∷ ps) (s ∷ ss) = ap (λ r. cond (i == core) [] (without_user user (with_picks p s)) ∷ r) (stale-left core user (i + 1) ps ss)

-- where the cores may enter the same, the same is stale after a line
pub stale-same : (core user : ℕ) (ps ss ts : List (List Pick)) → choices ps ss ≡ choices ps ts → stale_after core user 0 ps ss ≡ stale_after core user 0 ps ts
stale-same core user ps ss ts e = stale-left core user 0 ps ss ∙ ap (λ cs. left_after core user 0 cs) e ∙ sym (stale-left core user 0 ps ts)
