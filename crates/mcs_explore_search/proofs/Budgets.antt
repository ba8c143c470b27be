-- How far a search goes by its budgets.
use Rattle.std.specs.Prelude.{◌≡◌, ◌≤◌, ◌<◌, ◌+◌, ◌++◌, ◌⊎◌, Bool, ℕ, ◌∷◌, [], length, slice_get, Some}
use Rattle.std.proofs.Common.{ap, subst, sym, ◌∙◌, inl, inr, arith}
use Rattle.mcs_explore_search.specs.declared.search.Found.{Found}
use Rattle.mcs_explore_search.specs.Search.{Entries, At, AreFoundLast, AreNear, depth_at}
use Rattle.mcs_explore_search.specs.Keeping.{Adds, AreFrom, IsLonger}
use Rattle.mcs_explore_search.proofs.Places.{at-old, at-or-below, at-split, at-within, pair, within-at}
use Rattle.mcs_explore_search.proofs.Ending.{depth-is}

module _ {K L : Type 0} where
  pub from-none : (place : ℕ) (E : Entries K L) → AreFrom place E E
  from-none place E = λ i k f at beyond. let within = at-within E i (k, f) at in absurd (omega (arith, within, beyond))

  pub one-first : (eq : K → K → Bool) (E F : Entries K L) (k : K) (f : Found L) → E ≡ [] → Adds eq E k f F → length F ≡ 1
  one-first eq E F k f none (inl there) = let at = there.0.at in let none-at : slice_get [] there.0.place ≡ Some (pair there.0.other there.0.found) = ap (λ (G : Entries K L). slice_get G there.0.place) (sym none) ∙ at in absurd cc
  one-first eq E F k f none (inr new) = ap (λ (G : Entries K L). length G) (new.1 ∙ ap (λ (G : Entries K L). G ++ (k, f) ∷ []) none)

  pub near-first : (depth d : ℕ) (E : Entries K L) → d ≡ 0 → AreNear depth d E
  near-first depth d E none i lt = absurd (omega (arith, none, lt))

  pub few-first : (states d : ℕ) (E : Entries K L) → length E ≡ 1 → AreFoundLast states d E
  few-first states d E one i k f at first beyond = let within = at-within E i (k, f) at in absurd (omega (arith, within, one, first))

  -- an entry more, from the same place
  pub from-on : (eq : K → K → Bool) (place : ℕ) (D E F : Entries K L) (k : K) (f : Found L) → AreFrom place D E → IsLonger D E → f.parent ≡ place → Adds eq E k f F → AreFrom place D F
  from-on eq place D E F k f from longer parent (inl there) = subst (λ (G : Entries K L). AreFrom place D G) (sym there.1) from
  from-on eq place D E F k f from longer parent (inr new) = subst (λ (G : Entries K L). AreFrom place D G) (sym new.1) more
    where
      more : AreFrom place D (E ++ (k, f) ∷ [])
      more i c g at beyond = go (at-split E (k, f) i (c, g) at)
        where
          go : (slice_get E i ≡ Some (c, g)) ⊎ ((i ≡ length E) × (pair c g ≡ pair k f)) → g.parent ≡ place
          go (inl old) = from i c g old beyond
          go (inr last) = ap (λ (x : K × Found L). x.1.parent) last.1 ∙ parent

  -- what was found by a place is there once more is found
  depth-more : (E F : Entries K L) (i : ℕ) → IsLonger E F → i < length E → depth_at F i ≡ depth_at E i
  depth-more E F i longer within =
      let e = within-at E i within in
      ap (λ (G : Entries K L). depth_at G i) longer.1 ∙ depth-is (E ++ longer.0) i e.0.0 e.0.1 (at-old E longer.0 i e.0 e.1) ∙ sym (depth-is E i e.0.0 e.0.1 e.1)

  -- one place more was expanded, within the budgets
  pub near-on : (depth d e : ℕ) (E F : Entries K L) → e ≡ d + 1 → d < length E → depth_at E d < depth → IsLonger E F → AreNear depth d E → AreNear depth e F
  near-on depth d e E F next within near longer before i lt = go (at-or-below i d (omega (arith, lt, next)))
    where
      go : (i ≡ d) ⊎ (i < d) → depth_at F i < depth
      go (inl is) = subst (λ (n : ℕ). depth_at F n < depth) (sym is) (subst (λ (n : ℕ). n < depth) (sym (depth-more E F d longer within)) near)
      go (inr below) = subst (λ (n : ℕ). n < depth) (sym (depth-more E F i longer (omega (arith, below, within)))) (before i below)

  pub few-on : (states d e : ℕ) (E F : Entries K L) → e ≡ d + 1 → length E < states → AreFrom d E F → AreFoundLast states e F
  few-on states d e E F next few from i k f at first beyond = let parent = from i k f at (omega (arith, few, beyond)) in omega (arith, parent, next)
