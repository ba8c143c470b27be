-- The scripts of runs (own).
use Rattle.std.specs.Prelude.{ℕ, ◌≡◌, List}
use Rattle.mcs_turns.specs.Turns.{RunState, beginning}
use Rattle.mcs_explore_search.specs.Paths.{Path}
use Rattle.mcs_explore_walk.specs.declared.walk.Turn.{Turn}
use Rattle.mcs_explore_equivalence.specs.Runs.{IsReached}
use Rattle.mcs_explore_orders.specs.Trails.{Leads}
use Rattle.mcs_explore_script.specs.declared.script.UserScript.{UserScript}
use Rattle.mcs_explore_script.specs.RunTexts.{run_text}

-- a text is the script of the run to which these turns lead, if they do: after a comment and the
-- names its boot, and its steps with their answers
pub record IsScriptBy (s : UserScript) (turns : List Turn) (comment text : List ℕ) : Type 0 where
  pub run_state : RunState
  pub reached : IsReached s.users s.boot run_state
  pub path : (g : RunState) → Path (Leads s.users) (beginning s.users s.boot) turns g → run_state ≡ g
  pub is : text ≡ run_text comment s.names run_state.book

-- a text is the script of some run
abbrev pub IsRunScript : UserScript → List ℕ → Type 0
IsRunScript s text = (turns : List Turn) × ((comment : List ℕ) × IsScriptBy s turns comment text)
