-- A fault ends a search with none of the statuses of a verdict.
use Rattle.std.specs.Prelude.{◌≡◌, ◌≤◌, ℕ, List, Result, Ok, Err}
use Rattle.std.specs.Result.{IfOk}
use Rattle.std.proofs.Common.{ap, arith}
use Rattle.mcs_explore_questions.specs.declared.fault.ExploreFault.{ExploreFault}
use Rattle.mcs_explore_questions.specs.declared.fault.ExploreFault.TheVariants as explore
use Rattle.mcs_c.specs.declared.output.Ending.{Ending}
use Rattle.mcs_c.specs.Explores.{IsExplored, explore_fault_ending}
use Rattle.mcs_c.proofs.Checked.{lab-above}

above : (f : ExploreFault) → 2 ≤ (explore_fault_ending f).status
above (explore.Lab f) = lab-above f
above (explore.Question line why) = omega arith
above (explore.Program line why) = omega arith

-- what a fault leaves is what such an answer of a search leaves
pub refused-explored : {X E : Type 0} (script : List ℕ) (f : ExploreFault) (r : Result X E) (ending : X → Ending)
    → IfOk r (λ h. ending h ≡ explore_fault_ending f) → IfOk r (λ h. (ending h).status ≡ 6 → ⊥) → IfOk r (λ h. IsExplored script (ending h))
refused-explored script f (Ok h) ending is granted = record {
  answer = Err f;
  is = is;
  granted = granted;
  holds = λ holds. let e = ap (λ (x : Ending). x.status) is in let low = above f in absurd (omega (arith, holds, e, low));
  fails = λ fails. let e = ap (λ (x : Ending). x.status) is in let low = above f in absurd (omega (arith, fails, e, low));
}
refused-explored script f (Err e) ending is granted = tt
