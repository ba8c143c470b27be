-- What noting an end says of all ends.
use Rattle.std.specs.Prelude.{ℕ, suc, ◌≡◌, ◌<◌, ◌+◌, ◌++◌, ◌⊎◌, Bool, true, false, List, [], ◌∷◌, Option, Some, length, set, slice_get}
use Rattle.std.proofs.Common.{refl, ap, sym, ◌∙◌, subst, inl, inr, arith}
use Rattle.mcs_turns.specs.Turns.{User, RunState}
use Rattle.mcs_explore_orders.specs.Shown.{SeenState}
use Rattle.mcs_explore_report.specs.declared.ends.Standing.{Standing}
use Rattle.mcs_explore_report.specs.Standings.{listed, standing_of, standings, standings_below}
use Rattle.mcs_explore_report.specs.Ends.{AreEndsOf, IsCounted, IsEndOf, IsFirst, IsKindAt, IsNoKind, IsNoted, IsNotedIf, Kind, with_more}
use Rattle.mcs_explore_search.proofs.Places.{at-last, at-old, at-split, at-within, some-same}
use Rattle.mcs_explore_report.proofs.Lists.{same-or-not, set-other, set-same}

-- counting changes counts alone
pub counted-back : (ks : List Kind) (i : ℕ) (x : Kind) (c : ℕ) → slice_get ks i ≡ Some x → (j : ℕ) (k : Kind) → slice_get (set ks i (with_more x c)) j ≡ Some k → (l : Kind) × ((slice_get ks j ≡ Some l) × ((l.standing ≡ k.standing) × (l.place ≡ k.place)))
counted-back ks i x c there j k at = go (same-or-not j i)
  where
    go : (j ≡ i) ⊎ (j ≡ i → ⊥) → (l : Kind) × ((slice_get ks j ≡ Some l) × ((l.standing ≡ k.standing) × (l.place ≡ k.place)))
    go (inl e) =
        let is : with_more x c ≡ k = some-same (with_more x c) k (sym (set-same ks i x (with_more x c) there) ∙ ap (λ n. slice_get (set ks i (with_more x c)) n) (sym e) ∙ at) in
        (x, (ap (λ n. slice_get ks n) e ∙ there, (ap (λ (y : Kind). y.standing) is, ap (λ (y : Kind). y.place) is)))
    go (inr ne) = (k, (sym (set-other ks i j (with_more x c) ne) ∙ at, (refl, refl)))

pub counted-there : (ks : List Kind) (i : ℕ) (x : Kind) (c : ℕ) → slice_get ks i ≡ Some x → (j : ℕ) (k : Kind) → slice_get ks j ≡ Some k → (l : Kind) × ((slice_get (set ks i (with_more x c)) j ≡ Some l) × (l.standing ≡ k.standing))
counted-there ks i x c there j k at = go (same-or-not j i)
  where
    go : (j ≡ i) ⊎ (j ≡ i → ⊥) → (l : Kind) × ((slice_get (set ks i (with_more x c)) j ≡ Some l) × (l.standing ≡ k.standing))
    go (inl e) =
        let is : x ≡ k = some-same x k (sym there ∙ ap (λ n. slice_get ks n) (sym e) ∙ at) in
        (with_more x c, (ap (λ n. slice_get (set ks i (with_more x c)) n) e ∙ set-same ks i x (with_more x c) there, ap (λ (y : Kind). y.standing) is))
    go (inr ne) = (k, (set-other ks i j (with_more x c) ne ∙ at, refl))

end-more : (users : List User) (states more : List SeenState) (k l : Kind) → l.standing ≡ k.standing → l.place ≡ k.place → IsEndOf users states l → IsEndOf users (states ++ more) k
end-more users states more k l same place e = record { number = e.number; sight = e.sight; at = at-old states more e.number e.sight e.at; over = e.over; place = e.place ∙ place; standing = e.standing ∙ same }

-- before the first state
pub no-ends : (users : List User) → AreEndsOf users [] []
no-ends users = record { each = λ i k at. absurd cc; all = λ j s at. absurd cc; apart = λ i j k l at. absurd cc }

-- a state that is not over
pub end-none : (users : List User) (states : List SeenState) (kinds : List Kind) (s : SeenState) → s.is_over ≡ false → AreEndsOf users states kinds → AreEndsOf users (states ++ s ∷ []) kinds
end-none users states kinds s not are = record {
  each = λ i k at. end-more users states (s ∷ []) k k refl refl (are.each i k at);
  all = λ j t at over. all j t over (at-split states s j t at);
  apart = are.apart;
}
  where
    all : (j : ℕ) (t : SeenState) → t.is_over ≡ true → (slice_get states j ≡ Some t) ⊎ ((j ≡ length states) × (t ≡ s)) → (i : ℕ) × IsKindAt kinds (standings users t.run_state) i
    all j t over (inl h) = are.all j t h over
    all j t over (inr e) = let same : t.is_over ≡ s.is_over = ap (λ (x : SeenState). x.is_over) e.1 in absurd cc

module _ (users : List User) (states : List SeenState) (old new : List Kind) (s : SeenState) (are : AreEndsOf users states old) where
  -- a state of a kind that is there
  end-counted : IsCounted (record { standing = standings users s.run_state; count = 1; place = s.place }) old new → AreEndsOf users (states ++ s ∷ []) new
  end-counted c = subst (λ (ks : List Kind). AreEndsOf users (states ++ s ∷ []) ks) (sym c.counted) (record {
    each = λ i k at. let b = counted-back old c.place c.is.kind 1 c.is.at i k at in end-more users states (s ∷ []) k b.0 b.1.1.0 b.1.1.1 (are.each i b.0 b.1.0);
    all = λ j t at over. all j t over (at-split states s j t at);
    apart = λ i j k l a b e.
        let x = counted-back old c.place c.is.kind 1 c.is.at i k a in
        let y = counted-back old c.place c.is.kind 1 c.is.at j l b in
        are.apart i j x.0 y.0 x.1.0 y.1.0 (x.1.1.0 ∙ e ∙ sym y.1.1.0);
  })
    where
      there : (i : ℕ) (standing : List Standing) → IsKindAt old standing i → IsKindAt (set old c.place (with_more c.is.kind 1)) standing i
      there i standing k = let x = counted-there old c.place c.is.kind 1 c.is.at i k.kind k.at in record { kind = x.0; at = x.1.0; same = x.1.1 ∙ k.same }

      all : (j : ℕ) (t : SeenState) → t.is_over ≡ true → (slice_get states j ≡ Some t) ⊎ ((j ≡ length states) × (t ≡ s)) → (i : ℕ) × IsKindAt (set old c.place (with_more c.is.kind 1)) (standings users t.run_state) i
      all j t over (inl h) = let k = are.all j t h over in (k.0, there k.0 (standings users t.run_state) k.1)
      all j t over (inr e) = (c.place, there c.place (standings users t.run_state) (subst (λ (x : SeenState). IsKindAt old (standings users x.run_state) c.place) (sym e.1) c.is))

  -- a state of a new kind
  end-first : s.is_over ≡ true → IsFirst (record { standing = standings users s.run_state; count = 1; place = s.place }) old new → AreEndsOf users (states ++ s ∷ []) new
  end-first over f = subst (λ (ks : List Kind). AreEndsOf users (states ++ s ∷ []) ks) (sym f.added) (record {
    each = λ i k at. each i k (at-split old kind i k at);
    all = λ j t at is_over. all j t is_over (at-split states s j t at);
    apart = λ i j k l a b e. apart i j k l e (at-split old kind i k a) (at-split old kind j l b);
  })
    where
      kind : Kind
      kind = record { standing = standings users s.run_state; count = 1; place = s.place }

      each : (i : ℕ) (k : Kind) → (slice_get old i ≡ Some k) ⊎ ((i ≡ length old) × (k ≡ kind)) → IsEndOf users (states ++ s ∷ []) k
      each i k (inl h) = end-more users states (s ∷ []) k k refl refl (are.each i k h)
      each i k (inr e) = subst (λ (l : Kind). IsEndOf users (states ++ s ∷ []) l) (sym e.1) (record { number = length states; sight = s; at = at-last states s; over = over; place = refl; standing = refl })

      all : (j : ℕ) (t : SeenState) → t.is_over ≡ true → (slice_get states j ≡ Some t) ⊎ ((j ≡ length states) × (t ≡ s)) → (i : ℕ) × IsKindAt (old ++ kind ∷ []) (standings users t.run_state) i
      all j t is_over (inl h) = let k = are.all j t h is_over in (k.0, record { kind = k.1.kind; at = at-old old (kind ∷ []) k.0 k.1.kind k.1.at; same = k.1.same })
      all j t is_over (inr e) = (length old, record { kind = kind; at = at-last old kind; same = ap (λ (x : SeenState). standings users x.run_state) (sym e.1) })

      apart : (i j : ℕ) (k l : Kind) → k.standing ≡ l.standing → (slice_get old i ≡ Some k) ⊎ ((i ≡ length old) × (k ≡ kind)) → (slice_get old j ≡ Some l) ⊎ ((j ≡ length old) × (l ≡ kind)) → i ≡ j
      apart i j k l e (inl h) (inl g) = are.apart i j k l h g e
      apart i j k l e (inl h) (inr g) = absurd (f.none i k (at-within old i k h) h (e ∙ ap (λ (x : Kind). x.standing) g.1))
      apart i j k l e (inr h) (inl g) = absurd (f.none j l (at-within old j l g) g (sym e ∙ ap (λ (x : Kind). x.standing) h.1))
      apart i j k l e (inr h) (inr g) = h.0 ∙ sym g.0

  -- a state that is over
  pub end-noted : s.is_over ≡ true → IsNoted (standings users s.run_state) s.place old new → AreEndsOf users (states ++ s ∷ []) new
  end-noted over (inl c) = end-counted c
  end-noted over (inr f) = end-first over f

-- a state, over or not
pub state-noted : (users : List User) (states : List SeenState) (old new : List Kind) (place : ℕ) (g : RunState) (over : Bool) → IsNotedIf over (standings users g) place old new → AreEndsOf users states old
    → AreEndsOf users (states ++ (record { place = place; run_state = g; is_over = over }) ∷ []) new
state-noted users states old new place g over (inl same) are = subst (λ (ks : List Kind). AreEndsOf users (states ++ (record { place = place; run_state = g; is_over = over }) ∷ []) ks) (sym same.1) (end-none users states old (record { place = place; run_state = g; is_over = over }) same.0 are)
state-noted users states old new place g over (inr noted) are = end-noted users states old new (record { place = place; run_state = g; is_over = over }) are noted.0 noted.1

-- one kind more that is another
pub none-more : (kinds : List Kind) (standing : List Standing) (n : ℕ) (k : Kind) → slice_get kinds n ≡ Some k → (k.standing ≡ standing → ⊥) → IsNoKind kinds standing n → IsNoKind kinds standing (n + 1)
none-more kinds standing n k at other none = λ i l lt there same. go i l lt there same (same-or-not i n)
  where
    go : (i : ℕ) (l : Kind) → i < n + 1 → slice_get kinds i ≡ Some l → l.standing ≡ standing → (i ≡ n) ⊎ (i ≡ n → ⊥) → ⊥
    go i l lt there same (inl e) = other (ap (λ (x : Kind). x.standing) (some-same k l (sym at ∙ ap (λ m. slice_get kinds m) (sym e) ∙ there)) ∙ same)
    go i l lt there same (inr ne) = none i l (omega (arith, lt, ne)) there same

-- one user more
pub standings-on : (users : List User) (g : RunState) (n : ℕ) (xs ys : List Standing) (o : Option Standing) → xs ≡ standings_below users g n → o ≡ standing_of users g n → ys ≡ xs ++ listed o → ys ≡ standings_below users g (n + 1)
standings-on users g n xs ys o so_far is more =
    more ∙ ap (λ (s : List Standing). s ++ listed o) so_far ∙ ap (λ (p : Option Standing). standings_below users g n ++ listed p) is ∙ ap (λ m. standings_below users g m) (up n)
  where
    up : (n : ℕ) → suc n ≡ n + 1
    up n = omega arith

-- standings that are the same so far
pub same-more : (xs ys : List Standing) (n : ℕ) (x y : Standing) → slice_get xs n ≡ Some x → slice_get ys n ≡ Some y → x ≡ y → ((k : ℕ) (a b : Standing) → k < n → slice_get xs k ≡ Some a → slice_get ys k ≡ Some b → a ≡ b)
    → (k : ℕ) (a b : Standing) → k < n + 1 → slice_get xs k ≡ Some a → slice_get ys k ≡ Some b → a ≡ b
same-more xs ys n x y here there same before k a b lt p q = go (same-or-not k n)
  where
    go : (k ≡ n) ⊎ (k ≡ n → ⊥) → a ≡ b
    go (inl e) = some-same a x (sym p ∙ ap (λ m. slice_get xs m) e ∙ here) ∙ same ∙ some-same y b (sym there ∙ ap (λ m. slice_get ys m) (sym e) ∙ q)
    go (inr ne) = before k a b (omega (arith, lt, ne)) p q
