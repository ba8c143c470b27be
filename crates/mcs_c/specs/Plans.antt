-- What checking, explaining, showing, drawing or exploring a plan returns.
use Rattle.std.specs.Prelude.{◌≡◌, ◌⊎◌, ℕ, List}
use Rattle.mcs_plan_words.specs.Alignment.{HasLinesOf}
use Rattle.mcs_plan_words.specs.Scripts.{IsScriptOfPlan}
use Rattle.mcs_c.specs.declared.output.Ending.{Ending}
use Rattle.mcs_c.specs.declared.output.McsEnd.{McsEnd}
use Rattle.mcs_c.specs.Checks.{IsChecked, IsReported}
use Rattle.mcs_c.specs.Compiles.{IsPlanRefused}
use Rattle.mcs_c.specs.Explores.{IsExplored}
use Rattle.mcs_c.specs.Handing.{Ends, HandsOut}

-- an ending in the lines of a plan: its status and its fault stay, and a line is named only where
-- it names one
pub record IsInPlan (e e' : Ending) : Type 0 where
  pub status : e'.status ≡ e.status
  pub why : e'.fault ≡ e.fault
  pub line : e.line ≡ 0 → e'.line ≡ 0

-- a plan became a script that another call reads: of users, or of steps
pub record IsOfOtherKind (e : Ending) : Type 0 where
  pub status : e.status ≡ 2
  pub why : e.fault ≡ 14

-- a plan became no script that the call reads
abbrev pub IsUnread : Ending → Type 0
IsUnread e = IsPlanRefused e ⊎ IsOfOtherKind e

-- the script of a plan was checked
pub record IsScriptChecked (e : Ending) : Type 0 where
  pub script : List ℕ
  pub ending : Ending
  pub of_plan : IsScriptOfPlan script
  pub checked : IsChecked script ending
  pub in_plan : IsInPlan ending e

-- a call ends so that checks a plan
abbrev pub IsPlanChecked : Ending → Type 0
IsPlanChecked e = IsUnread e ⊎ IsScriptChecked e

-- what `mcs_check_plan` leaves: of a text as much as there is room for, with how the script of the
-- plan was checked, or why it was not
pub record ChecksPlan (status : ℕ) (old new : List ℕ) (end : McsEnd) : Type 0 where
  pub text : List ℕ
  pub ending : Ending
  pub wrote : HandsOut text old new end.length
  pub ends : Ends ending status end
  pub is : IsPlanChecked ending

-- the script of a plan was explained, shown or drawn
pub record IsScriptReported (e : Ending) : Type 0 where
  pub ending : Ending
  pub reported : IsReported ending
  pub in_plan : IsInPlan ending e

-- a call ends so that explains, shows or draws a plan
abbrev pub IsPlanReported : Ending → Type 0
IsPlanReported e = IsUnread e ⊎ IsScriptReported e

-- what a call leaves that explains, shows or draws a plan: of a text as much as there is room for,
-- with how it was answered
pub record TellsPlan (status : ℕ) (old new : List ℕ) (end : McsEnd) : Type 0 where
  pub text : List ℕ
  pub ending : Ending
  pub wrote : HandsOut text old new end.length
  pub ends : Ends ending status end
  pub is : IsPlanReported ending

-- the script of a plan was explored, with the same lines: its questions in their order, and its
-- other lines in theirs
pub record IsScriptExplored (e : Ending) : Type 0 where
  pub script : List ℕ
  pub asked : List ℕ
  pub ending : Ending
  pub of_plan : IsScriptOfPlan script
  pub same : HasLinesOf script asked
  pub explored : IsExplored asked ending
  pub in_plan : IsInPlan ending e

-- a call ends so that explores a plan
abbrev pub IsPlanExplored : Ending → Type 0
IsPlanExplored e = IsUnread e ⊎ IsScriptExplored e

-- what `mcs_explore_plan` leaves: of a text as much as there is room for, with how a search was
-- answered
pub record ExploresPlan (status : ℕ) (old new : List ℕ) (end : McsEnd) : Type 0 where
  pub text : List ℕ
  pub ending : Ending
  pub wrote : HandsOut text old new end.length
  pub ends : Ends ending status end
  pub is : IsPlanExplored ending
