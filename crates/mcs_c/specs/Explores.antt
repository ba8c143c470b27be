-- What exploring all orders of a script of users returns.
use Rattle.std.specs.Prelude.{◌≡◌, ℕ, false, List, [], Option, Some, Result, Ok, Err}
use Rattle.mcs_explore_questions.specs.declared.fault.ExploreFault.{ExploreFault}
use Rattle.mcs_explore_questions.specs.declared.fault.ExploreFault.TheVariants as fault
use Rattle.mcs_explore_report.specs.declared.report.Explored.{Explored}
use Rattle.mcs_explore_report.specs.declared.report.Explored.TheVariants as explored
use Rattle.mcs_explore_report.specs.Failing.{HasReadFailing}
use Rattle.mcs_explore_report.specs.Holding.{HasReadHolding}
use Rattle.mcs_c.specs.declared.output.Ending.{Ending}
use Rattle.mcs_c.specs.declared.output.McsEnd.{McsEnd}
use Rattle.mcs_c.specs.Checks.{lab_ending}
use Rattle.mcs_c.specs.Handing.{Ends, HandsOut, at_line, with_status}

-- how a call ends by the result of a search
abbrev pub explored_ending : Explored → Ending
explored_ending explored.Holds = with_status 0
explored_ending explored.Fails = with_status 1
explored_ending explored.Stopped = with_status 3

-- how a call ends where a script is not explored to the end
abbrev pub explore_fault_ending : ExploreFault → Ending
explore_fault_ending (fault.Lab f) = lab_ending f
explore_fault_ending (fault.Question line why) = at_line line 11
explore_fault_ending (fault.Program line why) = at_line line 12

-- how a call ends where a search was answered so
abbrev pub explore_ending : Result Explored ExploreFault → Ending
explore_ending (Ok e) = explored_ending e
explore_ending (Err f) = explore_fault_ending f

-- a call ends so by the answer of a search, and memory was not refused. By proved keys: status 0
-- says that the whole script was read, and all that it asks is so in each run of its users; status
-- 1 that some run shows it fails
pub record IsExplored (script : List ℕ) (e : Ending) : Type 0 where
  pub answer : Result Explored ExploreFault
  pub is : e ≡ explore_ending answer
  pub granted : e.status ≡ 6 → ⊥
  pub holds : e.status ≡ 0 → HasReadHolding false (Some script) (Some [])
  pub fails : e.status ≡ 1 → HasReadFailing false (Some script) (Some [])

-- what `mcs_explore` leaves: of a text as much as fits, with how a search was answered
pub record Explores (script : List ℕ) (status : ℕ) (old new : List ℕ) (end : McsEnd) : Type 0 where
  pub text : List ℕ
  pub ending : Ending
  pub wrote : HandsOut text old new end.length
  pub ends : Ends ending status end
  pub is : IsExplored script ending
