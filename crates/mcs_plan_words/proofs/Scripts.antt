-- What was read back and the lines of users are the script of a plan, and a text has its own lines.
use Rattle.std.specs.Prelude.{◌≡◌, ℕ, true, false, List, ◌++◌}
use Rattle.std.proofs.Common.{ap}
use Rattle.mcs_text.specs.Reading.{lines_of}
use Rattle.mcs_plan_layout.specs.declared.laid.PlanLayout.{PlanLayout}
use Rattle.mcs_plan_validate.specs.Reading.{IsVouched}
use Rattle.mcs_plan_words.specs.Alignment.{HasLinesOf, kept}
use Rattle.mcs_plan_words.specs.Scripts.{IsScriptOfPlan}

pub script_of_plan : (laid : PlanLayout) (read users text : List ℕ) → text ≡ read ++ users → IsVouched read laid → IsScriptOfPlan text
script_of_plan laid read users text is vouched = record {
  laid = laid;
  read = read;
  users = users;
  is = is;
  vouched = vouched;
}

pub own_lines : (text copy : List ℕ) → copy ≡ text → HasLinesOf text copy
own_lines text copy is = record {
  questions = ap (λ t. kept true (lines_of t)) is;
  others = ap (λ t. kept false (lines_of t)) is;
}
