-- What checking a script returns.
use Rattle.std.specs.Prelude.{◌≡◌, ◌⊎◌, ℕ, Bool, true, false, List, Option, Some, None, Result, Ok, Err}
use Rattle.mcs_text.specs.Faults.{fault_number}
use Rattle.mcs_text.specs.declared.fault.LineFault.{LineFault}
use Rattle.mcs_lab_check.specs.declared.fault.LabFault.{LabFault}
use Rattle.mcs_lab_check.specs.declared.fault.LabFault.TheVariants as fault
use Rattle.mcs_c.specs.declared.output.Ending.{Ending}
use Rattle.mcs_c.specs.declared.output.McsEnd.{McsEnd}
use Rattle.mcs_c.specs.Handing.{Ends, HandsOut, at_line, with_status}
use Rattle.mcs_c.specs.Verdicts.{holds_throughout}

-- the number of a fault of a line; 10 where it has the form of no question and of no name
abbrev pub why_number : Option LineFault → ℕ
why_number (Some why) = fault_number why
why_number None = 10

-- how a call ends by a fault of a script that is checked or explored
abbrev pub lab_ending : LabFault → Ending
lab_ending (fault.Script line why) = at_line line (fault_number why)
lab_ending (fault.Form line) = at_line line 10
lab_ending (fault.Flawed line why flaw) = at_line line (why_number why)
lab_ending (fault.NoLine line count) = with_status 7
lab_ending (fault.NoBookLine line count) = with_status 7
lab_ending fault.Read = with_status 7
lab_ending fault.Write = with_status 6
lab_ending fault.BookFull = with_status 5
lab_ending fault.OutOfMemory = with_status 6

-- how a call ends where a check was answered so
abbrev pub check_ending : Result Bool LabFault → Ending
check_ending (Ok true) = with_status 0
check_ending (Ok false) = with_status 1
check_ending (Err f) = lab_ending f

-- a call ends so by some answer of a check, or with status 7, and memory was not refused. Status 0
-- says that all lines of the script hold, by the definition of verdicts, and 1 that some does not
pub record IsChecked (script : List ℕ) (e : Ending) : Type 0 where
  pub answer : Result Bool LabFault
  pub is : (e ≡ check_ending answer) ⊎ (e ≡ with_status 7)
  pub granted : e.status ≡ 6 → ⊥
  pub holds : e.status ≡ 0 → holds_throughout script ≡ true
  pub fails : e.status ≡ 1 → holds_throughout script ≡ false

-- what `mcs_check` leaves: of a text as much as fits, with how a check was answered
pub record Checks (script : List ℕ) (status : ℕ) (old new : List ℕ) (end : McsEnd) : Type 0 where
  pub text : List ℕ
  pub ending : Ending
  pub wrote : HandsOut text old new end.length
  pub ends : Ends ending status end
  pub is : IsChecked script ending

-- a call ends so by some answer, and memory was not refused
pub record IsReported (e : Ending) : Type 0 where
  pub answer : Result Bool LabFault
  pub is : e ≡ check_ending answer
  pub granted : e.status ≡ 6 → ⊥

-- what a call leaves that explains, shows or draws a script: of a text as much as fits, with how it
-- was answered
pub record Tells (status : ℕ) (old new : List ℕ) (end : McsEnd) : Type 0 where
  pub text : List ℕ
  pub ending : Ending
  pub wrote : HandsOut text old new end.length
  pub ends : Ends ending status end
  pub is : IsReported ending
