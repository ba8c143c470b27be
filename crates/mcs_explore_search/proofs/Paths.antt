-- Paths of labels, step by step.
use Rattle.std.specs.Prelude.{◌≡◌, ◌++◌, ℕ, zero, suc, List, [], ◌∷◌, length}
use Rattle.std.proofs.Common.{refl, sym, ◌∙◌, subst}
use Rattle.mcs_explore_search.specs.Paths.{Run, Path, Steps}

-- a run that begins with one more step
pub run-front : {A : Type 0} (Step : A → A → Type 0) (s u : A) (n : ℕ) (t : A) → Step s u → Run Step u n t → Run Step s (suc n) t
run-front {A = A} Step s u zero t step run = (s, (refl, subst (λ (x : A). Step s x) run step))
run-front Step s u (suc n) t step run = (run.0, (run-front Step s u n run.0 step run.1.0, run.1.1))

module _ {A L : Type 0} (Leads : L → A → A → Type 0) where
  -- a path that goes on by one step
  pub path-on : (s : A) (p : List L) (u t : A) (l : L) → Path Leads s p u → Leads l u t → Path Leads s (p ++ l ∷ []) t
  path-on s [] u t l path step = (t, (subst (λ (x : A). Leads l x t) (sym path) step, refl))
  path-on s (k ∷ p) u t l path step = (path.0, (path.1.0, path-on path.0 p u t l path.1.1 step))

  -- the last step of a path
  pub path-cut : (s : A) (p : List L) (t : A) (l : L) → Path Leads s (p ++ l ∷ []) t → (u : A) × (Path Leads s p u × Leads l u t)
  path-cut s [] t l path = (s, (refl, subst (λ (x : A). Leads l s x) path.1.1 path.1.0))
  path-cut s (k ∷ p) t l path = let r = path-cut path.0 p t l path.1.1 in (r.0, ((path.0, (path.1.0, r.1.0)), r.1.1))

  -- a path is a run of as many steps
  pub path-run : (s : A) (p : List L) (t : A) → Path Leads s p t → Run (Steps Leads) s (length p) t
  path-run s [] t path = path
  path-run s (l ∷ p) t path = run-front (Steps Leads) s path.0 (length p) t (l, path.1.0) (path-run path.0 p t path.1.1)

  -- where a label leads to one state alone, so does a path
  pub path-one : ((l : L) (s t u : A) → Leads l s t → Leads l s u → t ≡ u) → (s : A) (p : List L) (t u : A) → Path Leads s p t → Path Leads s p u → t ≡ u
  path-one one s [] t u path other = sym path ∙ other
  path-one one s (l ∷ p) t u path other = path-one one path.0 p t u path.1.1 (subst (λ (x : A). Path Leads x p u) (one l s other.0 path.0 other.1.0 path.1.0) other.1.1)
