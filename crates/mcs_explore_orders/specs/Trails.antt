-- Paths of turns, and the points along them (own).
use Rattle.std.specs.Prelude.{◌≡◌, ◌++◌, List, [], ◌∷◌}
use Rattle.mcs_turns.specs.Turns.{User, RunState, IsTurn}
use Rattle.mcs_explore_search.specs.Paths.{Path}
use Rattle.mcs_explore_walk.specs.declared.walk.Turn.{Turn}

-- a turn leads from a point to another
abbrev pub Leads : List User → Turn → RunState → RunState → Type 0
Leads users t g h = IsTurn users t.core t.pick g h

-- some turns, and the point after them
pub record Point : Type 0 where
  pub turns : List Turn
  pub run_state : RunState

-- where a path begins, and points along it
pub record Points : Type 0 where
  pub start : RunState
  pub points : List Point

-- the turns along it
abbrev pub turns_of : List Point → List Turn
turns_of [] = []
turns_of (p ∷ ps) = p.turns ++ turns_of ps

-- the last point from a start on
abbrev pub last_point : RunState → List Point → RunState
last_point g [] = g
last_point g (p ∷ ps) = last_point p.run_state ps

-- the turns of each point lead to it from the one before
abbrev pub IsTrail : List User → RunState → List Point → Type 0
IsTrail users g [] = Unit {0}
IsTrail users g (p ∷ ps) = Path (Leads users) g p.turns p.run_state × IsTrail users p.run_state ps

-- some turns more, from the last point to another
pub record Adds (users : List User) (ts : List Turn) (old new : Points) : Type 0 where
  pub run_state : RunState
  pub leads : Path (Leads users) (last_point old.start old.points) ts run_state
  pub added : new ≡ record old { points = old.points ++ (record { turns = ts; run_state = run_state }) ∷ [] }
