-- The steps of a ring.
use Rattle.std.specs.Prelude.{◌++◌, ◌≡◌, ◌<◌, ◌+◌, ℕ, zero, suc, Bool, true, false, List, [], ◌∷◌, Some, slice_get}
use Rattle.std.proofs.Common.{refl, ap, sym, ◌∙◌, arith}
use Rattle.mcs_explore_search.specs.Paths.{Path}
use Rattle.mcs_explore_search.specs.Search.{IsNext, IsAmong, AreNexts}
use Rattle.mcs_explore_search.proofs.Places.{some-same}
use Rattle.mcs_test_examples.specs.Rings.{turned, turned_all, StandsAt, Turns}

-- where a path leads
pub path-place : (n : ℕ) (ls : List Bool) (s t : ℕ × ℕ) → Path (Turns n) s ls t → t.0 ≡ turned_all n ls s.0
path-place n [] s t path = ap (λ (x : ℕ × ℕ). x.0) (sym path)
path-place n (l ∷ ls) s t path = path-place n ls path.0 t path.1.1 ∙ ap (λ (k : ℕ). turned_all n ls k) path.1.0.1

-- an empty ring has no steps
pub no-turns : (n : ℕ) (s : ℕ × ℕ) → n ≡ 0 → AreNexts (Turns n) StandsAt s []
no-turns n s none = record {
  each = λ i l k h. absurd cc;
  all = λ l t step. absurd (let some = step.0 in omega (arith, none, some));
}

-- each other has two
pub two-turns : (n k : ℕ) (s : ℕ × ℕ) → 0 < n → s.0 ≡ k → AreNexts (Turns n) StandsAt s ((false, turned n false k) ∷ (true, turned n true k) ∷ [])
two-turns n k s some is = record { each = each; all = all }
  where
    next : (l : Bool) (c : ℕ) → turned n l k ≡ c → IsNext (Turns n) StandsAt s l c
    next l c h = record { state = (c, s.1 + 1); step = (some, sym h ∙ ap (λ (x : ℕ). turned n l x) (sym is), refl); key = refl }

    each : (i : ℕ) (l : Bool) (c : ℕ) → slice_get {X = Bool × ℕ} ((false, turned n false k) ∷ (true, turned n true k) ∷ []) i ≡ Some (l, c) → IsNext (Turns n) StandsAt s l c
    each zero false c h = next false c (ap (λ (x : Bool × ℕ). x.1) (some-same (false, turned n false k) (false, c) h))
    each zero true c h = absurd (let e : false ≡ true = ap (λ (x : Bool × ℕ). x.0) (some-same (false, turned n false k) (true, c) h) in cc)
    each (suc zero) true c h = next true c (ap (λ (x : Bool × ℕ). x.1) (some-same (true, turned n true k) (true, c) h))
    each (suc zero) false c h = absurd (let e : true ≡ false = ap (λ (x : Bool × ℕ). x.0) (some-same (true, turned n true k) (false, c) h) in cc)
    each (suc (suc i)) l c h = absurd cc

    all : (l : Bool) (t : ℕ × ℕ) → Turns n l s t → IsAmong StandsAt ((false, turned n false k) ∷ (true, turned n true k) ∷ []) l t
    all false t step = record { place = 0; key = turned n false k; at = refl; is = step.1 ∙ ap (λ (x : ℕ). turned n false x) is }
    all true t step = record { place = 1; key = turned n true k; at = refl; is = step.1 ∙ ap (λ (x : ℕ). turned n true x) is }

-- what was pushed, by one and one
pub pushed : (n k a b : ℕ) (xs ys zs : List (Bool × ℕ)) → xs ≡ [] → ys ≡ xs ++ (false, a) ∷ [] → zs ≡ ys ++ (true, b) ∷ [] → a ≡ turned n false k → b ≡ turned n true k
    → zs ≡ (false, turned n false k) ∷ (true, turned n true k) ∷ []
pushed n k a b xs ys zs none one two is also =
    two ∙ ap (λ (l : List (Bool × ℕ)). l ++ (true, b) ∷ []) (one ∙ ap (λ (l : List (Bool × ℕ)). l ++ (false, a) ∷ []) none)
    ∙ ap (λ (c : ℕ). (false, c) ∷ (true, b) ∷ []) is ∙ ap (λ (c : ℕ). (false, turned n false k) ∷ (true, c) ∷ []) also
