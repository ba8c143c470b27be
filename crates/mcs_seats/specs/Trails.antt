-- The calls of cores, which are followed beside a book that is made again line by line.
use Rattle.std.specs.Prelude.{ℕ, ◌≡◌, ◌+◌, ◌-◌, ◌≤◌, ◌<◌, List, [], ◌∷◌, length, drop, reverse, Some, slice_index_or}
use Rattle.mcs_types.specs.declared.id.CoreId.{CoreId}
use Rattle.mcs_types.specs.Limits.{line_limit}
use Rattle.mcs_book.specs.History.{Book, Line, IsLegal, line_of_number}
use Rattle.mcs_seats.specs.Seats.{Seat}
use Rattle.mcs_seats.specs.declared.call.Outcome.{Outcome}
use Rattle.mcs_seats.specs.declared.call.Outcome.TheVariants.{Entered, Away}
use Rattle.mcs_seats.specs.declared.call.Call.{Call}
use Rattle.mcs_seats.specs.declared.retrace.LineCopy.{LineCopy}
use Rattle.mcs_seats.specs.declared.retrace.Progress.{Progress}
use Rattle.mcs_seats.specs.declared.retrace.Progress.TheVariants.{Right, Torn}
use Rattle.mcs_seats.specs.Settling.{Note, notes_from, notes_of, cut, AreRight, IsTornAt}

-- a book as a kernel has it
pub record IsKernelBook (b : Book) : Type 0 where
  pub legal : IsLegal b
  pub few : length b.lines < line_limit

-- a replay has made the lines of a book before that of this number
pub record StandsAt (b r : Book) (at : ℕ) : Type 0 where
  pub some : 1 ≤ at
  pub few : at ≤ length b.lines + 1
  pub is : r ≡ cut b (at - 1)

-- a book, and the number of the line before which it was made again
pub record Place : Type 0 where
  pub book : Book
  pub at : ℕ

-- this is a copy of the line there
pub record IsLineAt (p : Place) (c : LineCopy) : Type 0 where
  pub line : Line
  pub is : line_of_number p.book p.at ≡ Some line
  pub step : c.step ≡ line.step
  pub answer : c.answer ≡ line.answer

-- the calls of a core, the oldest first, which were followed past the lines of a book before that
-- of number `at`
pub record Trail : Type 0 where
  pub book : Book
  pub core : CoreId
  pub calls : List Call
  pub at : ℕ

-- where it was made again as far as the calls were followed
abbrev pub place_of : Trail → Place
place_of w = record { book = w.book; at = w.at }

-- the calls of a seat
abbrev pub trail_of : Book → ℕ → Seat → Trail
trail_of b at s = record { book = b; core = s.core; calls = reverse s.calls; at = at }

-- one line further
abbrev pub past_line : Trail → Trail
past_line w = record w { at = w.at + 1 }

-- calls that were followed as far as the book was made again
pub record IsBeside (p : Place) (w : Trail) : Type 0 where
  pub book : w.book ≡ p.book
  pub at : w.at ≡ p.at

-- what is reported to the core from there on
abbrev pub notes_ahead : Trail → List Note
notes_ahead w = notes_from w.book w.core w.at

-- all calls agree with the book
abbrev pub AllRight : Trail → Type 0
AllRight w = AreRight w.book w.core (notes_of w.book w.core) 1 w.calls

-- the n-th call is the first that does not
abbrev pub IsTornOf : Trail → ℕ → Type 0
IsTornOf w n = IsTornAt w.book w.core (notes_of w.book w.core) 1 w.calls n

-- the calls of a core among these, of which the n-th is the first that does not
pub record HasTornTrail (trails : List Trail) (c : CoreId) (n : ℕ) : Type 0 where
  pub place : ℕ
  pub trail : Trail
  pub few : place < length trails
  pub is : trail ≡ slice_index_or trails place trail
  pub core : trail.core ≡ c
  pub torn : IsTornOf trail n

-- these calls are right from there on
abbrev pub AreRightFrom : Trail → List Call → Type 0
AreRightFrom w xs = AreRight w.book w.core (notes_ahead w) w.at xs

-- the n-th of them is the first that is not
abbrev pub IsTornFrom : Trail → List Call → ℕ → Type 0
IsTornFrom w xs n = IsTornAt w.book w.core (notes_ahead w) w.at xs n

-- the first k calls are right, so the others decide
pub record AreRightTo (w : Trail) (k : ℕ) : Type 0 where
  pub few : k ≤ length w.calls
  pub right : AreRightFrom w (drop k w.calls) → AllRight w
  pub torn : (n : ℕ) → IsTornFrom w (drop k w.calls) n → IsTornOf w (n + k)

-- how far the calls are right
abbrev pub IsProgress : Trail → Progress → Type 0
IsProgress w (Right k) = AreRightTo w k
IsProgress w (Torn n) = IsTornOf w n

-- a call that this became was not skipped before this line
abbrev pub CameLater : ℕ → Outcome → Type 0
CameLater at (Entered a) = Unit {0}
CameLater at (Away n f) = at < n

-- the next of these calls was not
abbrev pub IsLater : ℕ → List Call → Type 0
IsLater at [] = Unit {0}
IsLater at (x ∷ xs) = CameLater at x.outcome

-- how far the calls are right, when none that is left was skipped before the next line
abbrev pub IsReady : Trail → Progress → Type 0
IsReady w (Right k) = AreRightTo w k × IsLater w.at (drop k w.calls)
IsReady w (Torn n) = IsTornOf w n

-- calls that were followed
pub record IsFollowed (b : Book) (c : CoreId) (calls : List Call) (at : ℕ) (p : Progress) : Type 0 where
  pub kept : IsKernelBook b
  pub some : 1 ≤ at
  pub progress : IsProgress (record { book = b; core = c; calls = calls; at = at }) p
