-- What is kept of a search (own).
use Rattle.std.specs.Prelude.{List, Option}
use Rattle.mcs_turns.specs.Turns.{User}
use Rattle.mcs_explore_orders.specs.Shown.{Shown}
use Rattle.mcs_explore_script.specs.declared.questions.AskedLine.{AskedLine}
use Rattle.mcs_explore_report.specs.declared.judgement.Sighting.{Sighting}
use Rattle.mcs_explore_script.specs.declared.lives.Live.{Live}
use Rattle.mcs_explore_report.specs.Answers.{AreAnswersOf, AreMailOf, Tables}
use Rattle.mcs_explore_report.specs.Ends.{AreEndsOf, Kind}
use Rattle.mcs_explore_report.specs.Firsts.{AreFirst}
use Rattle.mcs_explore_report.specs.Judged.{AreJudged}
use Rattle.mcs_explore_report.specs.Stuck.{AreNotedBy, Noted}

-- the ends, the answers and the mail of all that was shown, and where questions failed in it, each
-- where it was shown first
pub record IsKept (users : List User) (questions : List AskedLine) (shown : Shown) (kinds : List Kind) (tables : Tables) (failed : List (Option Sighting)) : Type 0 where
  pub ends : AreEndsOf users shown.states kinds
  pub answers : AreAnswersOf users shown.turns tables
  pub mail : AreMailOf users shown.turns tables
  pub judged : AreJudged users questions shown failed
  pub first : AreFirst users questions shown kinds tables failed

-- the same, and what is noted of users that may get stuck
pub record HasKept (users : List User) (questions : List AskedLine) (lives : List Live) (shown : Shown) (kinds : List Kind) (tables : Tables) (failed : List (Option Sighting)) (notes : List Noted) : Type 0 where
  pub kept : IsKept users questions shown kinds tables failed
  pub noted : AreNotedBy users lives shown notes

-- what a search goes by: its questions, and the users that may get stuck
pub record Aims : Type 0 where
  pub asked : List AskedLine
  pub lives : List Live
