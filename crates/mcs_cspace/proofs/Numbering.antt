-- Tests of numbers that hold together.
use Rattle.std.specs.Prelude.{ℕ, ◌≡◌, ◌==◌, Bool, true, false}
use Rattle.std.proofs.Common.{refl, sym, ◌∙◌}
use Rattle.std.proofs.lemmas.Bool.{eqb-true, eq-eqb}

-- two tests of numbers that hold together are the same
pub same-test : (x y u v : ℕ) → (x ≡ y → u ≡ v) → (u ≡ v → x ≡ y) → (x == y) ≡ (u == v)
same-test x y u v f g = go (x == y) refl (u == v) refl
  where
    go : (a : Bool) → (x == y) ≡ a → (b : Bool) → (u == v) ≡ b → a ≡ b
    go true p true q = refl
    go false p false q = refl
    go true p false q = let e : u ≡ v = f (eqb-true x y p) in let no : true ≡ false = sym (eq-eqb u v e) ∙ q in absurd cc
    go false p true q = let e : x ≡ y = g (eqb-true u v q) in let no : true ≡ false = sym (eq-eqb x y e) ∙ p in absurd cc

-- a test of numbers that differ fails
pub different : (x y : ℕ) → (x ≡ y → ⊥) → (x == y) ≡ false
different x y ne = go (x == y) refl
  where
    go : (a : Bool) → (x == y) ≡ a → a ≡ false
    go true p = absurd (ne (eqb-true x y p))
    go false p = refl
