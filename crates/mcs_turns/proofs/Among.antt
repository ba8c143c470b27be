-- What is among the elements of a list, by the first one.
use Rattle.std.specs.Prelude.{◌≡◌, ◌⊎◌, List, [], ◌∷◌}
use Rattle.std.specs.List.{Contains}
use Rattle.std.proofs.Common.{arith, inl, inr}
use Rattle.std.proofs.lemmas.List.Elements.{Contains-append_left, Contains-append_right, Contains-append_cases, Contains-push, Contains-push_cases}

pub none-in : {A : Type 0} (x : A) → Contains [] x → ⊥
none-in x c = let low = c.1 in absurd (omega (arith, low))

pub first-in : {A : Type 0} (x : A) (xs : List A) → Contains (x ∷ xs) x
first-in x xs = Contains-append_left (x ∷ []) xs x (Contains-push [] x)

pub later-in : {A : Type 0} (y : A) (xs : List A) (x : A) → Contains xs x → Contains (y ∷ xs) x
later-in y xs x c = Contains-append_right (y ∷ []) xs x c

pub one-in : {A : Type 0} (y x : A) → Contains (y ∷ []) x → y ≡ x
one-in y x c = go (Contains-push_cases [] y x c)
  where
    go : Contains [] x ⊎ (y ≡ x) → y ≡ x
    go (inl n) = absurd (none-in x n)
    go (inr e) = e

pub split-in : {A : Type 0} (y : A) (xs : List A) (x : A) → Contains (y ∷ xs) x → (y ≡ x) ⊎ Contains xs x
split-in y xs x c = go (Contains-append_cases (y ∷ []) xs x c)
  where
    go : Contains (y ∷ []) x ⊎ Contains xs x → (y ≡ x) ⊎ Contains xs x
    go (inl n) = inl (one-in y x n)
    go (inr n) = inr n
