-- Steps of a search (own).
use Rattle.std.specs.Prelude.{◌≡◌, ◌⊎◌, List}
use Rattle.mcs_turns.specs.Turns.{User, RunState, Follows}

-- nothing has changed, or some core made a turn
abbrev pub Moves : List User → RunState → RunState → Type 0
Moves users g h = (h ≡ g) ⊎ Follows users g h
