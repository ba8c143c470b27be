-- What the answer of a check, if it is confirmed, or a fault means for a script.
use Rattle.std.specs.Prelude.{◌≡◌, ◌≤◌, ℕ, Bool, true, false, List, Result, Ok, Err}
use Rattle.std.specs.Result.{IfOk}
use Rattle.std.proofs.Common.{inl, inr, ap, sym, ◌∙◌, arith}
use Rattle.mcs_lab_check.specs.declared.fault.LabFault.{LabFault}
use Rattle.mcs_lab_check.specs.declared.fault.LabFault.TheVariants as fault
use Rattle.mcs_c.specs.declared.output.Ending.{Ending}
use Rattle.mcs_c.specs.Checks.{IsChecked, check_ending, lab_ending}
use Rattle.mcs_c.specs.Handing.{with_status}
use Rattle.mcs_c.specs.Verdicts.{holds_throughout}

-- a fault ends a check with none of the statuses of a verdict
pub lab-above : (f : LabFault) → 2 ≤ (lab_ending f).status
lab-above (fault.Script line why) = omega arith
lab-above (fault.Form line) = omega arith
lab-above (fault.Flawed line why flaw) = omega arith
lab-above (fault.NoLine line count) = omega arith
lab-above (fault.NoBookLine line count) = omega arith
lab-above fault.Read = omega arith
lab-above fault.Write = omega arith
lab-above fault.BookFull = omega arith
lab-above fault.OutOfMemory = omega arith

-- an answer that agrees with the definition
pub checked_met : (script : List ℕ) (met : Bool) (e : Ending) → e ≡ check_ending (Ok met) → met ≡ holds_throughout script → IsChecked script e
checked_met script true e is so = record {
  answer = Ok true;
  is = inl is;
  granted = λ six. let s = ap (λ (x : Ending). x.status) is in omega (arith, six, s);
  holds = λ zero. sym so;
  fails = λ one. let s = ap (λ (x : Ending). x.status) is in absurd (omega (arith, one, s));
}
checked_met script false e is so = record {
  answer = Ok false;
  is = inl is;
  granted = λ six. let s = ap (λ (x : Ending). x.status) is in omega (arith, six, s);
  holds = λ zero. let s = ap (λ (x : Ending). x.status) is in absurd (omega (arith, zero, s));
  fails = λ one. sym so;
}

-- another
pub checked_wrong : (script : List ℕ) (e : Ending) → e ≡ with_status 7 → IsChecked script e
checked_wrong script e is = record {
  answer = Err fault.Read;
  is = inr is;
  granted = λ six. let s = ap (λ (x : Ending). x.status) is in omega (arith, six, s);
  holds = λ zero. let s = ap (λ (x : Ending). x.status) is in absurd (omega (arith, zero, s));
  fails = λ one. let s = ap (λ (x : Ending). x.status) is in absurd (omega (arith, one, s));
}

-- a fault, which is none of memory
pub checked_fault : {E : Type 0} (script : List ℕ) (f : LabFault) (ending : Ending) (r : Result Ending E)
    → ending ≡ lab_ending f → IfOk r (λ e. e ≡ ending) → IfOk r (λ e. e.status ≡ 6 → ⊥) → IfOk r (λ e. IsChecked script e)
checked_fault script f ending (Ok e) ends same granted = record {
  answer = Err f;
  is = inl (same ∙ ends);
  granted = granted;
  holds = λ zero. let s = ap (λ (x : Ending). x.status) (same ∙ ends) in let low = lab-above f in absurd (omega (arith, zero, s, low));
  fails = λ one. let s = ap (λ (x : Ending). x.status) (same ∙ ends) in let low = lab-above f in absurd (omega (arith, one, s, low));
}
checked_fault script f ending (Err e) ends same granted = tt
