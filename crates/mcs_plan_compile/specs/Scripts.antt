-- What a script has of its plan.
use Rattle.std.specs.Prelude.{◌≡◌, ℕ, List, Ok}
use Rattle.mcs_plan_source.specs.Saying.{Said, said}
use Rattle.mcs_plan_layout.specs.Laid.{IsLaid, laid_said}
use Rattle.mcs_plan_layout.specs.Naming.{cores_of}
use Rattle.mcs_plan_layout.specs.Boot.{boot_of}
use Rattle.mcs_plan_layout.specs.Starting.{IsStarted}
use Rattle.mcs_plan_compile.specs.declared.script.Script.{Script}
use Rattle.mcs_plan_compile.specs.declared.compiler.Entries.{Entries}
use Rattle.mcs_plan_compile.specs.Opening.{after_said, are_users}
use Rattle.mcs_plan_compile.specs.Reading.{plan_said}
use Rattle.mcs_plan_compile.specs.Telling.{lines_in}

-- the cores and the boot of a script are those of its plan
pub record HasBootOfPlan (s : Script) : Type 0 where
  pub cores : s.cores ≡ cores_of s.laid.plan.cores s.laid.plan.contexts.items
  pub boot : s.boot.items ≡ boot_of s.laid.plan s.laid.layouts.items

-- the steps that make threads passive, and the lines from the first step on, are taken; a script
-- says whether these are of users
pub record HasStepsOf (found : List (List ℕ)) (s : Script) : Type 0 where
  pub entries : Entries
  pub taken : after_said (laid_said s.laid) found ≡ Ok entries
  pub users : s.is_users ≡ are_users entries

-- the plan of a script is what lines say before the first step, and the thread that makes others
-- passive where one is; its spaces are laid out, and what each thread can name is what its space
-- has
pub record HasPlanOfLines (found : List (List ℕ)) (s : Script) : Type 0 where
  pub plan : Said
  pub says : plan_said found ≡ Ok plan
  pub started : IsStarted plan (said s.laid.plan)
  pub laid : IsLaid s.laid
  pub steps : HasStepsOf found s

-- the plan of a script is what the lines of a text say
pub record HasPlanOf (bytes : List ℕ) (s : Script) : Type 0 where
  pub found : List (List ℕ)
  pub are : lines_in bytes ≡ Ok found
  pub says : HasPlanOfLines found s
