-- Changed and equal lists.
use Rattle.std.specs.Prelude.{ℕ, zero, suc, ◌≡◌, ◌<◌, ◌+◌, ◌++◌, ◌&&◌, ◌⊎◌, Bool, true, false, List, [], ◌∷◌, Some, drop, length, set, slice_get}
use Rattle.std.specs.List.{list_all}
use Rattle.std.proofs.Common.{refl, ap, ◌∙◌, inl, inr, arith}
use Rattle.mcs_explore_search.proofs.Places.{some-same}

pub set-same : {A : Type 0} (xs : List A) (i : ℕ) (x v : A) → slice_get xs i ≡ Some x → slice_get (set xs i v) i ≡ Some v
set-same [] i x v h = absurd cc
set-same (e ∷ xs) zero x v h = refl
set-same (e ∷ xs) (suc i) x v h = set-same xs i x v h

pub set-other : {A : Type 0} (xs : List A) (i j : ℕ) (v : A) → (j ≡ i → ⊥) → slice_get (set xs i v) j ≡ slice_get xs j
set-other [] i j v ne = refl
set-other (e ∷ xs) zero zero v ne = absurd (ne refl)
set-other (e ∷ xs) zero (suc j) v ne = refl
set-other (e ∷ xs) (suc i) zero v ne = refl
set-other (e ∷ xs) (suc i) (suc j) v ne = set-other xs i j v (λ e. ne (ap (λ n. suc n) e))

-- the rest of a list from a place on begins with the item there
pub from-on : {A : Type 0} (xs : List A) (n : ℕ) (x : A) → slice_get xs n ≡ Some x → drop n xs ≡ x ∷ drop (n + 1) xs
from-on xs n x at = by-suc xs n x at ∙ ap (λ k. x ∷ drop k xs) (up n)
  where
    up : (n : ℕ) → suc n ≡ n + 1
    up n = omega arith

    by-suc : {A : Type 0} (xs : List A) (n : ℕ) (x : A) → slice_get xs n ≡ Some x → drop n xs ≡ x ∷ drop (suc n) xs
    by-suc [] n x at = absurd cc
    by-suc (y ∷ xs) zero x at = ap (λ z. z ∷ xs) (some-same y x at)
    by-suc (y ∷ xs) (suc n) x at = by-suc xs n x at

-- numbers are the same or not
pub same-or-not : (i j : ℕ) → (i ≡ j) ⊎ (i ≡ j → ⊥)
same-or-not zero zero = inl refl
same-or-not zero (suc j) = inr (λ e. absurd (omega (arith, e)))
same-or-not (suc i) zero = inr (λ e. absurd (omega (arith, e)))
same-or-not (suc i) (suc j) = go (same-or-not i j)
  where
    go : (i ≡ j) ⊎ (i ≡ j → ⊥) → (suc i ≡ suc j) ⊎ (suc i ≡ suc j → ⊥)
    go (inl e) = inl (ap (λ n. suc n) e)
    go (inr ne) = inr (λ e. ne (omega (arith, e)))

-- lists with the same in each place are the same
pub same-lists : {A : Type 0} (xs ys : List A) → length xs ≡ length ys → ((i : ℕ) (x y : A) → slice_get xs i ≡ Some x → slice_get ys i ≡ Some y → x ≡ y) → xs ≡ ys
same-lists [] [] long each = refl
same-lists [] (y ∷ ys) long each = absurd (omega (arith, long))
same-lists (x ∷ xs) [] long each = absurd (omega (arith, long))
same-lists {A} (x ∷ xs) (y ∷ ys) long each =
    ap (λ (z : A). z ∷ xs) (each 0 x y refl refl) ∙ ap (λ (zs : List A). y ∷ zs) (same-lists xs ys (omega (arith, long)) (λ i u v a b. each (suc i) u v a b))

-- one of a list is not so
pub record SomeNot {A : Type 0} (f : A → Bool) (xs : List A) : Type 0 where
  pub place : ℕ
  pub one : A
  pub at : slice_get xs place ≡ Some one
  pub is : f one ≡ false

not-first : (b c : Bool) → b ≡ true → (b && c) ≡ false → c ≡ false
not-first true c is none = none
not-first false c is none = absurd cc

some-next : {A : Type 0} (f : A → Bool) (x : A) (xs : List A) → SomeNot f xs → SomeNot f (x ∷ xs)
some-next f x xs n = record { place = suc n.place; one = n.one; at = n.at; is = n.is }

-- where not all are so, one is not
pub some-not : {A : Type 0} (f : A → Bool) (xs : List A) → list_all f xs ≡ false → SomeNot f xs
some-not f [] all = absurd cc
some-not f (x ∷ xs) all = by (f x) refl (λ rest. some-not f xs rest)
  where
    by : (b : Bool) → f x ≡ b → (list_all f xs ≡ false → SomeNot f xs) → SomeNot f (x ∷ xs)
    by false is more = record { place = zero; one = x; at = refl; is = is }
    by true is more = some-next f x xs (more (not-first (f x) (list_all f xs) is all))
