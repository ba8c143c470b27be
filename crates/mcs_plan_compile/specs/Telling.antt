-- What is reported of a text that does not compile to a script.
use Rattle.std.specs.Prelude.{◌≡◌, ◌+◌, ◌==◌, ◌⊎◌, ℕ, List, Ok, Err, length, take, count_by, nat_lt, if◌then◌else◌}
use Rattle.std.specs.Str.{is_utf8}
use Rattle.std.specs.Str.Lossy.{utf8_valid_len}
use Rattle.std.specs.Str.Lines.{lines}
use Rattle.mcs_plan_source.specs.declared.fault.PlanFault.{PlanFault}
use Rattle.mcs_plan_source.specs.Refusals.{Refuses, limit, no_text}
use Rattle.mcs_plan_source.specs.Saying.{Said}
use Rattle.mcs_plan_layout.specs.Fitting.{boot_fits}
use Rattle.mcs_plan_layout.specs.Laid.{LaidPlan, laid_of}
use Rattle.mcs_plan_layout.specs.Starting.{IsStarted, RefusesStarter}
use Rattle.mcs_plan_compile.specs.declared.compiler.Entries.{Entries}
use Rattle.mcs_plan_compile.specs.declared.compiler.TheConstants.{LINES}
use Rattle.mcs_plan_compile.specs.Opening.{after_said}
use Rattle.mcs_plan_compile.specs.Reading.{ReadAt, RefusesAt, plan_said}

-- the number of the line in which a byte is
abbrev pub line_of : List ℕ → ℕ → ℕ
line_of bytes place = count_by (λ b. b == 10) (take place bytes) + 1

-- lines that are not too many
abbrev pub few_lines : List (List ℕ) → ReadAt (List (List ℕ))
few_lines found = if nat_lt LINES (length found) then Err (LINES + 1, limit LINES) else Ok found

-- the lines of bytes that are text
abbrev pub lines_in : List ℕ → ReadAt (List (List ℕ))
lines_in bytes = if is_utf8 bytes then few_lines (lines bytes) else Err (line_of bytes (utf8_valid_len bytes), no_text)

-- all lines are taken, and the boot is refused, which is reported at the last: a machine may not
-- have what it makes
pub record RefusesBoot (laid : LaidPlan) (found : List (List ℕ)) (fault : PlanFault) : Type 0 where
  pub entries : Entries
  pub taken : after_said laid found ≡ Ok entries
  pub line : fault.line ≡ length found
  pub error : Refuses (boot_fits laid.plan) fault.why

-- what is refused of a plan that is laid out: the first step or line that may not be taken, or in
-- the end its boot
abbrev pub RefusesLaid : LaidPlan → List (List ℕ) → PlanFault → Type 0
RefusesLaid laid found fault = RefusesAt (after_said laid found) fault ⊎ RefusesBoot laid found fault

-- what is refused of a plan that is laid out with the thread that makes others passive, where one
-- is
pub record RefusesStarted (plan : Said) (found : List (List ℕ)) (fault : PlanFault) : Type 0 where
  pub new : Said
  pub started : IsStarted plan new
  pub error : RefusesLaid (laid_of new) found fault

-- what is refused after the lines before the first step, which say this plan
pub record RefusesAfter (found : List (List ℕ)) (fault : PlanFault) : Type 0 where
  pub plan : Said
  pub says : plan_said found ≡ Ok plan
  pub error : RefusesStarter plan fault ⊎ RefusesStarted plan found fault

-- the fault that is reported for lines: it names the first refused line
abbrev pub TellsLines : List (List ℕ) → PlanFault → Type 0
TellsLines found fault = RefusesAt (plan_said found) fault ⊎ RefusesAfter found fault

-- the fault that is reported for bytes: that they are no text, that they have too many lines, or
-- the fault of their lines
pub record TellsOfLines (bytes : List ℕ) (fault : PlanFault) : Type 0 where
  pub found : List (List ℕ)
  pub are : lines_in bytes ≡ Ok found
  pub error : TellsLines found fault

abbrev pub TellsPlan : List ℕ → PlanFault → Type 0
TellsPlan bytes fault = RefusesAt (lines_in bytes) fault ⊎ TellsOfLines bytes fault
