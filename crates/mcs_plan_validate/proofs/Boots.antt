-- A boot that is compared with a script's is that of its plan.
use Rattle.std.proofs.Common.{◌∙◌}
use Rattle.mcs_book.specs.Boots.{Boot}
use Rattle.mcs_plan_compile.specs.declared.script.Script.{Script}
use Rattle.mcs_plan_compile.specs.Scripts.{HasBootOfPlan}
use Rattle.mcs_plan_validate.specs.Reading.{IsBootOf, IsPlansBoot}

pub plans_boot : (s : Script) (boot : Boot) → IsBootOf s boot → HasBootOfPlan s → IsPlansBoot s.laid boot
plans_boot s boot same own = record { cores = same.cores ∙ own.cores; lines = same.lines ∙ own.boot }
