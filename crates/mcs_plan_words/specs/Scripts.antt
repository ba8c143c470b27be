-- What a text is that came of a plan.
use Rattle.std.specs.Prelude.{◌≡◌, ℕ, List, ◌++◌}
use Rattle.mcs_plan_layout.specs.declared.laid.PlanLayout.{PlanLayout}
use Rattle.mcs_plan_validate.specs.Reading.{IsVouched}

-- a text is the script of a plan that is laid out: what of it was read back, a script of steps
-- without a fault with the plan's boot, in which each name leads to what its slot holds; and the
-- lines of users after it, if it has some
pub record IsScriptOfPlan (text : List ℕ) : Type 0 where
  pub laid : PlanLayout
  pub read : List ℕ
  pub users : List ℕ
  pub is : text ≡ read ++ users
  pub vouched : IsVouched read laid
