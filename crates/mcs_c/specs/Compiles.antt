-- What compiling a plan returns.
use Rattle.std.specs.Prelude.{◌≡◌, ◌⊎◌, ℕ, List}
use Rattle.mcs_types.specs.declared.boot.BootFault.TheVariants as boot_fault
use Rattle.mcs_phases.specs.declared.fault.SimFault.TheVariants as sim_fault
use Rattle.mcs_plan_source.specs.declared.fault.PlanError.{PlanError}
use Rattle.mcs_plan_source.specs.declared.fault.PlanError.TheVariants as why
use Rattle.mcs_plan_source.specs.declared.fault.PlanFault.{PlanFault}
use Rattle.mcs_plan_validate.specs.declared.fault.CompileFault.{CompileFault}
use Rattle.mcs_plan_validate.specs.declared.fault.CompileFault.TheVariants as fault
use Rattle.mcs_plan_words.specs.Scripts.{IsScriptOfPlan}
use Rattle.mcs_c.specs.declared.output.Ending.{Ending}
use Rattle.mcs_c.specs.declared.output.McsEnd.{McsEnd}
use Rattle.mcs_c.specs.Handing.{Ends, HandsOut, at_line, with_status}

-- how a call ends by a line of a plan that is refused, or by memory
abbrev pub why_ending : ℕ → PlanError → Ending
why_ending line why.OutOfMemory = with_status 6
why_ending line w = at_line line 13

abbrev pub plan_ending : PlanFault → Ending
plan_ending f = why_ending f.line f.why

-- how a call ends if a plan does not compile
abbrev pub compile_ending : CompileFault → Ending
compile_ending (fault.Plan f) = plan_ending f
compile_ending (fault.Script sim_fault.OutOfMemory) = with_status 6
compile_ending (fault.Boot boot_fault.OutOfMemory) = with_status 6
compile_ending fault.OutOfMemory = with_status 6
compile_ending f = with_status 7

-- a call ends so by some fault of a plan, and memory was not refused
pub record IsPlanRefused (e : Ending) : Type 0 where
  pub fault : CompileFault
  pub is : e ≡ compile_ending fault
  pub granted : e.status ≡ 6 → ⊥

-- a plan became a script with this text, or there is none
abbrev pub IsCompiled : List ℕ → Ending → Type 0
IsCompiled text e = ((e ≡ with_status 0) × IsScriptOfPlan text) ⊎ IsPlanRefused e

-- what `mcs_compile` leaves: of the script of a plan, or of why there is none, as much as fits
pub record Compiles (status : ℕ) (old new : List ℕ) (end : McsEnd) : Type 0 where
  pub text : List ℕ
  pub ending : Ending
  pub wrote : HandsOut text old new end.length
  pub ends : Ends ending status end
  pub is : IsCompiled text ending

-- of a plan that became a script the lines were numbered, or there is none
abbrev pub IsNumbered : Ending → Type 0
IsNumbered e = (e ≡ with_status 0) ⊎ IsPlanRefused e

-- what `mcs_number` leaves: of a text as much as fits, with how a plan was compiled
pub record Numbers (status : ℕ) (old new : List ℕ) (end : McsEnd) : Type 0 where
  pub text : List ℕ
  pub ending : Ending
  pub wrote : HandsOut text old new end.length
  pub ends : Ends ending status end
  pub is : IsNumbered ending
