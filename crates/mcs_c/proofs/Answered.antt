-- Lists that agree place by place.
use Rattle.std.proofs.Common.{◌≡◌, ℕ, ◌+◌, ◌<◌, List, [], ◌∷◌, ◌++◌, length, map, take, slice_get, Some, None, zero, suc, arith, sym, ap, subst, ◌∙◌}

-- so much and one more
pub mapped_next : {X Y : Type 0} (f : X → Y) (xs : List X) (i : ℕ) (x : X) → slice_get xs i ≡ Some x → map f (take (i + 1) xs) ≡ map f (take i xs) ++ f x ∷ []
mapped_next f [] i x h = absurd cc
mapped_next f (y ∷ ys) zero x h = cc
mapped_next f (y ∷ ys) (suc i) x h =
    let one : suc (i + 1) ≡ suc i + 1 = omega arith in
    subst (λ (k : ℕ). map f (take k (y ∷ ys)) ≡ map f (take (suc i) (y ∷ ys)) ++ f x ∷ []) one (ap (λ zs. f y ∷ zs) (mapped_next f ys i x h))

-- the same of lists that grow
pub mapped_on : {X Y : Type 0} (f : X → Y) (xs : List X) (i : ℕ) (x : X) (old new : List Y) (y : Y)
    → slice_get xs i ≡ Some x → y ≡ f x → old ≡ map f (take i xs) → new ≡ old ++ y ∷ [] → new ≡ map f (take (i + 1) xs)
mapped_on f xs i x old new y there is before grown = grown ∙ ap (λ zs. zs ++ y ∷ []) before ∙ ap (λ z. map f (take i xs) ++ z ∷ []) is ∙ sym (mapped_next f xs i x there)

-- within a list there is something
pub none_within : {X : Type 0} (xs : List X) (i : ℕ) → slice_get xs i ≡ None → i < length xs → ⊥
none_within [] i h less = omega (arith, less)
none_within (y ∷ ys) zero h less = absurd cc
none_within (y ∷ ys) (suc i) h less = none_within ys i h (omega (arith, less))
