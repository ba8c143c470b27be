-- Runs that no later turn distinguishes (own).
use Rattle.std.specs.Prelude.{ℕ, ◌≡◌, Bool, List, ◌∷◌}
use Rattle.mcs_types.specs.declared.id.CoreId.{CoreId}
use Rattle.mcs_book.specs.Boots.{Boot}
use Rattle.mcs_book.specs.History.{Line, Book, log_of}
use Rattle.mcs_turns.specs.declared.position.Pick.{Pick}
use Rattle.mcs_turns.specs.Due.{choices}
use Rattle.mcs_turns.specs.Turns.{User, RunState, ArePicks, IsRun, IsTurn}
use Rattle.mcs_explore_equivalence.specs.Likeness.{AlikeBy}
use Rattle.mcs_explore_equivalence.specs.Books.{outcome_of}
use Rattle.mcs_explore_equivalence.specs.ButNumbers.{SameButNumbers}

-- some run gets so far
pub record IsReached (users : List User) (boot : Boot) (g : RunState) : Type 0 where
  pub turns : ℕ
  pub run : IsRun users boot turns g

-- two runs have alike logs, in which numbers of messages are distinguished or not, and their users
-- are where those of the other are: so their cores have the same picks
pub record AreClose (numbered : Bool) (users : List User) (boot : Boot) (g h : RunState) : Type 0 where
  pub left : IsReached users boot g
  pub right : IsReached users boot h
  pub logs : AlikeBy numbered (log_of g.book) (log_of h.book)
  pub places : g.places ≡ h.places

-- two runs are close, and each core may enter the same in both: its picks are as good as stale ones
pub record AreAlike (numbered : Bool) (users : List User) (boot : Boot) (g h : RunState) : Type 0 where
  pub close : AreClose numbered users boot g h
  pub choices : (picks : List (List Pick)) → ArePicks users g picks → choices picks g.stale ≡ choices picks h.stale

-- the newest lines of two books have the same answer, and the same records but for the numbers of
-- messages
abbrev pub SameNewest : Book → Book → Type 0
SameNewest b c = AreSame b.lines c.lines
  where
    AreSame : List Line → List Line → Type 0
    AreSame (l ∷ ls) (m ∷ ms) = SameButNumbers (outcome_of l) (outcome_of m)
    AreSame ls ms = ⊥

-- a core makes the same turn in another run as one that led to t: it is answered the same, with the
-- same records but for the numbers of messages, and what is after it is alike
pub record IsSameTurn (numbered : Bool) (users : List User) (boot : Boot) (core : CoreId) (k : Pick) (t h : RunState) : Type 0 where
  pub run_state : RunState
  pub turn : IsTurn users core k h run_state
  pub newest : SameNewest t.book run_state.book
  pub alike : AreAlike numbered users boot t run_state

-- each turn of one of two alike runs can be made in the other
abbrev pub AreSameTurns : Bool → List User → Boot → Type 0
AreSameTurns numbered users boot = (g h t : RunState) (core : CoreId) (k : Pick) → AreAlike numbered users boot g h → IsTurn users core k g t → IsSameTurn numbered users boot core k t h
