-- Slots that have no capability to an object, and how objects are named.
use Rattle.std.specs.Prelude.{ℕ, ◌≡◌, ◌<◌, ◌≤◌, ◌+◌, ◌-◌, ◌++◌, ◌⊎◌, false, List, [], ◌∷◌, Some, length, slice_get}
use Rattle.std.proofs.Common.{ap, sym, ◌∙◌, inl, inr, arith, subst}
use Rattle.std.proofs.lemmas.List.{length-append}
use Rattle.mcs_types.specs.declared.id.ObjId.{ObjId}
use Rattle.mcs_book.specs.Logs.{Log}
use Rattle.mcs_explore_report.specs.Origins.{AreSo, HasNone, HaveNone, cnode, has_cap}
use Rattle.mcs_explore_search.proofs.Places.{at-split, some-same}
use Rattle.mcs_explore_report.proofs.Lists.{same-or-not}

-- one slot more
pub none-next : (R : Log) (o c : ObjId) (n : ℕ) → has_cap R o c n ≡ false → HasNone R o c n → HasNone R o c (n + 1)
none-next R o c n none before = λ i lt. by i lt (same-or-not i n)
  where
    by : (i : ℕ) → i < n + 1 → (i ≡ n) ⊎ (i ≡ n → ⊥) → has_cap R o c i ≡ false
    by i lt (inl same) = ap (has_cap R o c) same ∙ none
    by i lt (inr other) = before i (omega (arith, lt, other))

pub none-to : (R : Log) (o c : ObjId) (m n : ℕ) → m ≡ n → HasNone R o c m → HasNone R o c n
none-to R o c m n same none = subst (λ (k : ℕ). HasNone R o c k) same none

-- one more of them is so
pub so-next : {A B : Type 0} (Is : A → B → Type 0) (xs : List A) (n : ℕ) (ys : List B) (x : A) (y : B) → slice_get xs n ≡ Some x → Is x y
    → AreSo Is xs n ys → AreSo Is xs (n + 1) (ys ++ y ∷ [])
so-next {A} {B} Is xs n ys x y at is so = record {
  long = length-append ys (y ∷ []) ∙ ap (λ k. k + 1) so.long;
  each = λ i u v a b. go i u v a (at-split ys y i v b);
}
  where
    go : (i : ℕ) (u : A) (v : B) → slice_get xs i ≡ Some u → (slice_get ys i ≡ Some v) ⊎ ((i ≡ length ys) × (v ≡ y)) → Is u v
    go i u v a (inl old) = so.each i u v a old
    go i u v a (inr last) =
        let here : slice_get xs n ≡ Some u = subst (λ k. slice_get xs k ≡ Some u) (last.0 ∙ so.long) a in
        subst (λ w. Is u w) (sym last.1) (subst (λ w. Is w y) (some-same x u (sym at ∙ here)) is)

-- one CNode more has no slot with one
pub have-next : (R : Log) (o : ObjId) (n : ℕ) → 1 ≤ n → HasNone R o (cnode n) 256 → HaveNone R o (n - 1) → HaveNone R o n
have-next R o n low none before = λ c least most. by c least most (same-or-not c n)
  where
    by : (c : ℕ) → 1 ≤ c → c ≤ n → (c ≡ n) ⊎ (c ≡ n → ⊥) → HasNone R o (cnode c) 256
    by c least most (inl same) = subst (λ k. HasNone R o (cnode k) 256) (sym same) none
    by c least most (inr other) = before c least (omega (arith, most, other))

pub have-to : (R : Log) (o : ObjId) (m n : ℕ) → m ≡ n → HaveNone R o m → HaveNone R o n
have-to R o m n same have = subst (λ (k : ℕ). HaveNone R o k) same have
