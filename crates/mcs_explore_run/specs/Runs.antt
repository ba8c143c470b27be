-- What a run that is drawn is (own).
use Rattle.std.specs.Prelude.{ℕ, ◌≡◌, ◌≤◌, Bool, true, false, List}
use Rattle.mcs_book.specs.Boots.{Boot}
use Rattle.mcs_turns.specs.Turns.{RunState, IsOver, IsRun, IsTurn, User}
use Rattle.mcs_explore_walk.specs.declared.walk.Turn.{Turn}
use Rattle.mcs_explore_script.specs.declared.script.UserScript.{UserScript}
use Rattle.mcs_explore_script.specs.RunTexts.{run_text}
use Rattle.mcs_explore_run.specs.declared.run.Drawn.{Drawn}

-- a turn is possible
abbrev pub CanTurn : List User → RunState → Turn → Type 0
CanTurn users g t = (h : RunState) × IsTurn users t.core t.pick g h

-- a run of n turns, as many as were asked for or fewer where no further turn is possible
pub record IsRunUpTo (users : List User) (boot : Boot) (most n : ℕ) (is_over : Bool) (g : RunState) : Type 0 where
  pub run : IsRun users boot n g
  pub few : n ≤ most
  pub over : is_over ≡ true → IsOver users g
  pub all : is_over ≡ false → n ≡ most

-- a script that shows such a run, after a comment and the names
pub record IsDrawn (s : UserScript) (comment : List ℕ) (most : ℕ) (d : Drawn) : Type 0 where
  pub run_state : RunState
  pub run : IsRunUpTo s.users s.boot most d.turns d.is_over run_state
  pub is : d.text.items ≡ run_text comment s.names run_state.book
