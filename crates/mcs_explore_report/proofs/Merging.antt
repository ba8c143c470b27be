-- Kinds of ends that are added to others.
use Rattle.std.specs.Prelude.{ℕ, ◌≡◌, ◌<◌, ◌+◌, ◌⊎◌, Bool, true, List, [], ◌∷◌, Some, length, set, slice_get}
use Rattle.std.proofs.Common.{refl, ap, sym, ◌∙◌, subst, inl, inr, arith}
use Rattle.mcs_book.specs.Boots.{Boot}
use Rattle.mcs_turns.specs.Turns.{User}
use Rattle.mcs_explore_report.specs.declared.ends.Standing.{Standing}
use Rattle.mcs_explore_report.specs.Ends.{AreAllEnds, AreMerged, AreMergedBelow, AreRunEnds, HasKind, IsKindAt, IsMerged, IsNotedIf, IsRunEnd, Kind, with_more}
use Rattle.mcs_explore_search.proofs.Places.{at-last, at-old, at-split, at-within, some-same}
use Rattle.mcs_explore_report.proofs.Lists.{same-or-not}
use Rattle.mcs_explore_report.proofs.Noting.{counted-back, counted-there}

at-of : (i : ℕ) (old new : List Kind) → old ≡ new → slice_get old i ≡ slice_get new i
at-of i old new same = ap (λ (ks : List Kind). slice_get ks i) same

-- ends of a kind that `find` found are counted there
pub merged-again : (more : Kind) (v : List Standing) (n i : ℕ) (old new : List Kind) → v ≡ more.standing → n ≡ more.count → IsKindAt old v i → ((k : Kind) → slice_get old i ≡ Some k → new ≡ set old i (with_more k n)) → IsMerged more old new
merged-again more v n i old new same count is grown = inl (record {
  place = i;
  is = record { kind = is.kind; at = is.at; same = is.same ∙ same };
  counted = grown is.kind is.at ∙ ap (λ (m : ℕ). set old i (with_more is.kind m)) count;
})

-- ends of one kind more: each kind that was there still is
merged-kept : (more : Kind) (old new : List Kind) → IsMerged more old new → (standing : List Standing) → HasKind old standing → HasKind new standing
merged-kept more old new (inl g) standing has =
    let t = counted-there old g.place g.is.kind more.count g.is.at has.0 has.1.kind has.1.at in
    (has.0, record { kind = t.0; at = at-of has.0 new _ g.counted ∙ t.1.0; same = t.1.1 ∙ has.1.same })
merged-kept more old new (inr a) standing has = (has.0, record { kind = has.1.kind; at = at-of has.0 new _ a.added ∙ at-old old (more ∷ []) has.0 has.1.kind has.1.at; same = has.1.same })

-- theirs is
merged-there : (more : Kind) (old new : List Kind) → IsMerged more old new → HasKind new more.standing
merged-there more old new (inl g) =
    let t = counted-there old g.place g.is.kind more.count g.is.at g.place g.is.kind g.is.at in
    (g.place, record { kind = t.0; at = at-of g.place new _ g.counted ∙ t.1.0; same = t.1.1 ∙ g.is.same })
merged-there more old new (inr a) = (length old, record { kind = more; at = at-of (length old) new _ a.added ∙ at-last old more; same = refl })

-- and no other
merged-only : (more : Kind) (old new : List Kind) → IsMerged more old new → (standing : List Standing) → HasKind new standing → HasKind old standing ⊎ (more.standing ≡ standing)
merged-only more old new (inl g) standing has =
    let b = counted-back old g.place g.is.kind more.count g.is.at has.0 has.1.kind (sym (at-of has.0 new _ g.counted) ∙ has.1.at) in
    inl (has.0, record { kind = b.0; at = b.1.0; same = b.1.1.0 ∙ has.1.same })
merged-only more old new (inr a) standing has = by (at-split old more has.0 has.1.kind (sym (at-of has.0 new _ a.added) ∙ has.1.at))
  where
    by : (slice_get old has.0 ≡ Some has.1.kind) ⊎ ((has.0 ≡ length old) × (has.1.kind ≡ more)) → HasKind old standing ⊎ (more.standing ≡ standing)
    by (inl at) = inl (has.0, record { kind = has.1.kind; at = at; same = has.1.same })
    by (inr e) = inr (ap (λ (k : Kind). k.standing) (sym e.1) ∙ has.1.same)

-- one more of them
pub merged-next : (more old mid new : List Kind) (n : ℕ) (k : Kind) → slice_get more n ≡ Some k → IsMerged k mid new → AreMergedBelow more old mid n → AreMergedBelow more old new (n + 1)
merged-next more old mid new n k at is are = record {
  kept = λ standing has. merged-kept k mid new is standing (are.kept standing has);
  added = λ i x below there. added i x below there (same-or-not i n);
  only = λ standing has. only standing (merged-only k mid new is standing has);
}
  where
    added : (i : ℕ) (x : Kind) → i < n + 1 → slice_get more i ≡ Some x → (i ≡ n) ⊎ (i ≡ n → ⊥) → HasKind new x.standing
    added i x below there (inl same) =
        let kind : k ≡ x = some-same k x (sym at ∙ (ap (λ (m : ℕ). slice_get more m) (sym same) ∙ there)) in
        let has = merged-there k mid new is in
        (has.0, record { kind = has.1.kind; at = has.1.at; same = has.1.same ∙ ap (λ (y : Kind). y.standing) kind })
    added i x below there (inr other) = merged-kept k mid new is x.standing (are.added i x (omega (arith, below, other)) there)

    only : (standing : List Standing) → HasKind mid standing ⊎ (k.standing ≡ standing) → HasKind old standing ⊎ HasKind more standing
    only standing (inl has) = are.only standing has
    only standing (inr same) = inr (n, record { kind = k; at = at; same = same })

-- none yet, then those of one list, then those of another
pub all-merged : (kept deep mid ends : List Kind) → AreMerged kept [] mid → AreMerged deep mid ends → AreAllEnds kept deep ends
all-merged kept deep mid ends first then = record {
  kept = λ i k at. then.kept k.standing (first.added i k (at-within kept i k at) at);
  deep = λ i k at. then.added i k (at-within deep i k at) at;
  only = λ standing has. by standing (then.only standing has);
}
  where
    empty : (standing : List Standing) → HasKind [] standing → ⊥
    empty standing has = let at = has.1.at in absurd cc

    old : (standing : List Standing) → HasKind [] standing ⊎ HasKind kept standing → HasKind kept standing
    old standing (inl has) = absurd (empty standing has)
    old standing (inr has) = has

    by : (standing : List Standing) → HasKind mid standing ⊎ HasKind deep standing → HasKind kept standing ⊎ HasKind deep standing
    by standing (inl has) = inl (old standing (first.only standing has))
    by standing (inr has) = inr has

-- ends of runs, and one more, if that is one
pub noted-runs : (users : List User) (boot : Boot) (over : Bool) (v : List Standing) (place : ℕ) (old new : List Kind) → IsNotedIf over v place old new → (over ≡ true → IsRunEnd users boot v) → AreRunEnds users boot old → AreRunEnds users boot new
noted-runs users boot over v place old new (inl none) run are = subst (λ (ks : List Kind). AreRunEnds users boot ks) (sym none.1) are
noted-runs users boot over v place old new (inr one) run are = λ standing has. by standing (merged-only (record { standing = v; count = 1; place = place }) old new one.1 standing has)
  where
    by : (standing : List Standing) → HasKind old standing ⊎ (v ≡ standing) → IsRunEnd users boot standing
    by standing (inl has) = are standing has
    by standing (inr same) = subst (λ (s : List Standing). IsRunEnd users boot s) same (run one.0)

-- ends of runs in two lists
pub all-runs : (users : List User) (boot : Boot) (kept deep ends : List Kind) → AreAllEnds kept deep ends → AreRunEnds users boot kept → AreRunEnds users boot deep → AreRunEnds users boot ends
all-runs users boot kept deep ends all of_kept of_deep = λ standing has. by standing (all.only standing has)
  where
    by : (standing : List Standing) → HasKind kept standing ⊎ HasKind deep standing → IsRunEnd users boot standing
    by standing (inl has) = of_kept standing has
    by standing (inr has) = of_deep standing has

pub none-runs : (users : List User) (boot : Boot) → AreRunEnds users boot []
none-runs users boot = λ standing has. let at = has.1.at in absurd cc
