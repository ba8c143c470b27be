-- What was reported of the script of a plan is what is reported of the plan.
use Rattle.std.specs.Prelude.{ℕ, List}
use Rattle.std.proofs.Common.{inr}
use Rattle.mcs_plan_words.specs.Alignment.{HasLinesOf}
use Rattle.mcs_plan_words.specs.Scripts.{IsScriptOfPlan}
use Rattle.mcs_c.specs.declared.output.Ending.{Ending}
use Rattle.mcs_c.specs.Checks.{IsChecked, IsReported}
use Rattle.mcs_c.specs.Explores.{IsExplored}
use Rattle.mcs_c.specs.Plans.{IsInPlan, IsPlanChecked, IsPlanExplored, IsPlanReported}

pub script_checked : (script : List ℕ) (ending e : Ending) → IsScriptOfPlan script → IsChecked script ending → IsInPlan ending e → IsPlanChecked e
script_checked script ending e of_plan checked in_plan = inr (record {
  script = script;
  ending = ending;
  of_plan = of_plan;
  checked = checked;
  in_plan = in_plan;
})

pub script_reported : (ending e : Ending) → IsReported ending → IsInPlan ending e → IsPlanReported e
script_reported ending e reported in_plan = inr (record {
  ending = ending;
  reported = reported;
  in_plan = in_plan;
})

pub script_explored : (script asked : List ℕ) (ending e : Ending) → IsScriptOfPlan script → HasLinesOf script asked → IsExplored asked ending → IsInPlan ending e → IsPlanExplored e
script_explored script asked ending e of_plan same explored in_plan = inr (record {
  script = script;
  asked = asked;
  ending = ending;
  of_plan = of_plan;
  same = same;
  explored = explored;
  in_plan = in_plan;
})
