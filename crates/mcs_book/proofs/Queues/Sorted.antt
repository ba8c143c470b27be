-- Lists in a strict order: two with the same members are one, and sorting gives one.
use Rattle.std.specs.Prelude.{Bool, true, false, cond, ◌≡◌, ◌≢◌, ◌⊎◌, List, [], ◌∷◌, refl, filter}
use Rattle.std.proofs.Common.{sym, ◌∙◌, ap, inl, inr, subst}
use Rattle.mcs_types.specs.declared.id.ObjId.{ObjId}
use Rattle.mcs_book.specs.Queues.{insert_by, sort_by}

-- x is a member of the list
abbrev pub In : ObjId → List ObjId → Type 0
In x [] = ⊥
In x (y ∷ ys) = (x ≡ y) ⊎ In x ys

-- no object is there twice
abbrev pub Distinct : List ObjId → Type 0
Distinct [] = Unit {0}
Distinct (x ∷ xs) = (In x xs → ⊥) × Distinct xs

-- who is kept by a filter is in the list and passes
pub filter-in : (p : ObjId → Bool) (xs : List ObjId) (u : ObjId) → In u (filter p xs) → In u xs × (p u ≡ true)
filter-in p [] u i = absurd i
filter-in p (x ∷ xs) u i = go (p x) refl i (filter-in p xs u)
  where
    go : (b : Bool) → p x ≡ b → In u (cond b (x ∷ filter p xs) (filter p xs)) → (In u (filter p xs) → In u xs × (p u ≡ true)) → In u (x ∷ xs) × (p u ≡ true)
    go true e (inl s) later = (inl s, rw s e)
    go true e (inr j) later = let (k, l) = later j in (inr k, l)
    go false e j later = let (k, l) = later j in (inr k, l)

-- who is in the list and passes is kept
pub in-filter : (p : ObjId → Bool) (xs : List ObjId) (u : ObjId) → In u xs → p u ≡ true → In u (filter p xs)
in-filter p [] u i h = i
in-filter p (x ∷ xs) u i h = go (p x) refl i (λ j. in-filter p xs u j h)
  where
    go : (b : Bool) → p x ≡ b → (u ≡ x) ⊎ In u xs → (In u xs → In u (filter p xs)) → In u (cond b (x ∷ filter p xs) (filter p xs))
    go true e (inl s) later = inl s
    go true e (inr j) later = inr (later j)
    go false e (inl s) later = let no : true ≡ false = sym h ∙ ap p s ∙ e in absurd cc
    go false e (inr j) later = later j

-- a filter keeps no thread twice
pub distinct-filter : (p : ObjId → Bool) (xs : List ObjId) → Distinct xs → Distinct (filter p xs)
distinct-filter p [] d = tt
distinct-filter p (x ∷ xs) d = go (p x) (distinct-filter p xs d.1)
  where
    go : (b : Bool) → Distinct (filter p xs) → Distinct (cond b (x ∷ filter p xs) (filter p xs))
    go true rest = (λ i. d.0 ((filter-in p xs x i).0), rest)
    go false rest = rest

module _ (ahead : ObjId → ObjId → Bool) where
  -- x is ahead of all of the list
  abbrev pub AheadOfAll : ObjId → List ObjId → Type 0
  AheadOfAll x [] = Unit {0}
  AheadOfAll x (y ∷ ys) = (ahead x y ≡ true) × AheadOfAll x ys

  -- each is ahead of all after it
  abbrev pub Sorted : List ObjId → Type 0
  Sorted [] = Unit {0}
  Sorted (x ∷ xs) = AheadOfAll x xs × Sorted xs

  -- who is ahead of all is ahead of each
  pub ahead-in : (x : ObjId) (xs : List ObjId) (u : ObjId) → AheadOfAll x xs → In u xs → ahead x u ≡ true
  ahead-in x [] u h i = absurd i
  ahead-in x (y ∷ ys) u h (inl e) = rw e h.0
  ahead-in x (y ∷ ys) u h (inr i) = ahead-in x ys u h.1 i

  -- of two members of a sorted list one is ahead of the other
  pub sorted-connected : (xs : List ObjId) (t u : ObjId) → Sorted xs → In t xs → In u xs → t ≢ u → (ahead t u ≡ true) ⊎ (ahead u t ≡ true)
  sorted-connected [] t u s i j ne = absurd i
  sorted-connected (x ∷ xs) t u s (inl e) (inl f) ne = absurd (ne (e ∙ sym f))
  sorted-connected (x ∷ xs) t u s (inl e) (inr j) ne = inl (rw e (ahead-in x xs u s.0 j))
  sorted-connected (x ∷ xs) t u s (inr i) (inl f) ne = inr (rw f (ahead-in x xs t s.0 i))
  sorted-connected (x ∷ xs) t u s (inr i) (inr j) ne = sorted-connected xs t u s.1 i j ne

  module _ (irreflexive : (x : ObjId) → ahead x x ≡ true → ⊥) (transitive : (x y z : ObjId) → ahead x y ≡ true → ahead y z ≡ true → ahead x z ≡ true) where
    -- two sorted lists with the same members are one
    pub sorted-unique : (xs ys : List ObjId) → Sorted xs → Sorted ys → ((u : ObjId) → In u xs → In u ys) → ((u : ObjId) → In u ys → In u xs) → xs ≡ ys
    sorted-unique [] [] s t f g = refl
    sorted-unique [] (y ∷ ys) s t f g = absurd (g y (inl refl))
    sorted-unique (x ∷ xs) [] s t f g = absurd (f x (inl refl))
    sorted-unique (x ∷ xs) (y ∷ ys) s t f g =
        let heads : x ≡ y = elim (f x (inl refl)) [ inl e ↦ e | inr i ↦ elim (g y (inl refl)) [ inl e ↦ sym e | inr j ↦ absurd (irreflexive x (transitive x y x (ahead-in x xs y s.0 j) (ahead-in y ys x t.0 i))) ] ] in
        let tails : xs ≡ ys = sorted-unique xs ys s.1 t.1
        (λ u i. elim (f u (inr i)) [ inl e ↦ absurd (irreflexive u (subst (λ (v : ObjId). ahead v u ≡ true) (heads ∙ sym e) (ahead-in x xs u s.0 i))) | inr j ↦ j ])
        (λ u i. elim (g u (inr i)) [ inl e ↦ absurd (irreflexive u (subst (λ (v : ObjId). ahead v u ≡ true) (sym heads ∙ sym e) (ahead-in y ys u t.0 i))) | inr j ↦ j ]) in
        λ i. heads i ∷ tails i

    -- who is in a list with one more
    insert-in : (x : ObjId) (ts : List ObjId) (u : ObjId) → In u (insert_by ahead x ts) → (u ≡ x) ⊎ In u ts
    insert-in x [] u i = i
    insert-in x (t ∷ ts) u i = go (ahead x t) i (insert-in x ts u)
      where
        go : (b : Bool) → In u (cond b (x ∷ t ∷ ts) (t ∷ insert_by ahead x ts)) → (In u (insert_by ahead x ts) → (u ≡ x) ⊎ In u ts) → (u ≡ x) ⊎ In u (t ∷ ts)
        go true i later = i
        go false (inl e) later = inr (inl e)
        go false (inr j) later = elim (later j) [ inl e ↦ inl e | inr k ↦ inr (inr k) ]

    -- the one more, and those who were there
    in-insert : (x : ObjId) (ts : List ObjId) (u : ObjId) → (u ≡ x) ⊎ In u ts → In u (insert_by ahead x ts)
    in-insert x [] u i = i
    in-insert x (t ∷ ts) u i = go (ahead x t) i (in-insert x ts u)
      where
        go : (b : Bool) → (u ≡ x) ⊎ In u (t ∷ ts) → ((u ≡ x) ⊎ In u ts → In u (insert_by ahead x ts)) → In u (cond b (x ∷ t ∷ ts) (t ∷ insert_by ahead x ts))
        go true i later = i
        go false (inl e) later = inr (later (inl e))
        go false (inr (inl e)) later = inl e
        go false (inr (inr k)) later = inr (later (inr k))

    -- sorting adds no thread
    pub sort-in : (xs : List ObjId) (u : ObjId) → In u (sort_by ahead xs) → In u xs
    sort-in [] u i = i
    sort-in (x ∷ xs) u i = elim (insert-in x (sort_by ahead xs) u i) [ inl e ↦ inl e | inr j ↦ inr (sort-in xs u j) ]

    -- sorting drops no thread
    pub in-sort : (xs : List ObjId) (u : ObjId) → In u xs → In u (sort_by ahead xs)
    in-sort [] u i = i
    in-sort (x ∷ xs) u (inl e) = in-insert x (sort_by ahead xs) u (inl e)
    in-sort (x ∷ xs) u (inr i) = in-insert x (sort_by ahead xs) u (inr (in-sort xs u i))

    -- who is ahead of each is ahead of all
    ahead-of_all : (x : ObjId) (xs : List ObjId) → ((u : ObjId) → In u xs → ahead x u ≡ true) → AheadOfAll x xs
    ahead-of_all x [] h = tt
    ahead-of_all x (y ∷ ys) h = (h y (inl refl), ahead-of_all x ys (λ u i. h u (inr i)))

    -- a sorted list with one more in its place is sorted
    insert-sorted : (x : ObjId) (ts : List ObjId) → Sorted ts → ((u : ObjId) → In u ts → (ahead x u ≡ true) ⊎ (ahead u x ≡ true)) → Sorted (insert_by ahead x ts)
    insert-sorted x [] s h = (tt, tt)
    insert-sorted x (t ∷ ts) s h = go (ahead x t) refl (insert-sorted x ts s.1 (λ u i. h u (inr i)))
      where
        go : (b : Bool) → ahead x t ≡ b → Sorted (insert_by ahead x ts) → Sorted (cond b (x ∷ t ∷ ts) (t ∷ insert_by ahead x ts))
        go true e rest = ((e, ahead-of_all x ts (λ u i. transitive x t u e (ahead-in t ts u s.0 i))), s)
        go false e rest =
            let behind : ahead t x ≡ true = elim (h t (inl refl)) [ inl f ↦ let no : true ≡ false = sym f ∙ e in absurd cc | inr f ↦ f ] in
            (ahead-of_all t (insert_by ahead x ts) (λ u i. elim (insert-in x ts u i) [ inl f ↦ rw f behind | inr j ↦ ahead-in t ts u s.0 j ]), rest)

    -- sorting gives a sorted list, where any two members are in order
    pub sort-sorted : (xs : List ObjId) → Distinct xs → ((t u : ObjId) → In t xs → In u xs → t ≢ u → (ahead t u ≡ true) ⊎ (ahead u t ≡ true)) → Sorted (sort_by ahead xs)
    sort-sorted [] d h = tt
    sort-sorted (x ∷ xs) d h =
        insert-sorted x (sort_by ahead xs) (sort-sorted xs d.1 (λ t u i j. h t u (inr i) (inr j)))
        (λ u i. let j : In u xs = sort-in xs u i in h x u (inl refl) (inr j) (λ e. d.0 (rw e j)))
