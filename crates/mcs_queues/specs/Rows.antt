-- All lines in one list of rows.
use Rattle.std.specs.Prelude.{ℕ, ◌≡◌, ◌<◌, ◌==◌, ◌&&◌, nat_lt, Bool, cond, List, [], ◌∷◌, Option, Some, None}
use Rattle.mcs_types.specs.Waiters.{Waiter}
use Rattle.mcs_queues.specs.declared.plain.Row.{Row}

-- the rows in order, and how many threads and lines there may be
pub record Rows : Type 0 where
  pub rows : List Row
  pub threads : ℕ
  pub lines : ℕ

-- the threads of a line
abbrev pub line_in : List Row → ℕ → List Waiter
line_in [] k = []
line_in (r ∷ rs) k = cond (r.line.0 == k) (record { thread = r.thread.0; priority = r.priority } ∷ line_in rs k) (line_in rs k)

-- the line of a thread
abbrev pub place_in : List Row → ℕ → Option ℕ
place_in [] u = None
place_in (r ∷ rs) u = cond (r.thread.0 == u) (Some r.line.0) (place_in rs u)

-- no thread has two rows, and the numbers are within their rooms
abbrev pub Kept : ℕ → ℕ → List Row → Type 0
Kept threads lines [] = Unit {0}
Kept threads lines (r ∷ rs) = (r.thread.0 < threads) × (r.line.0 < lines) × (place_in rs r.thread.0 ≡ None) × Kept threads lines rs

-- whether a row is that of a thread
abbrev pub is_of : ℕ → Row → Bool
is_of t r = r.thread.0 == t

-- whether a row is in a line with a priority below a given one
abbrev pub is_lower : ℕ → ℕ → Row → Bool
is_lower k p r = (r.line.0 == k) && nat_lt r.priority p

-- after all of its line with its priority or a greater one
abbrev pub enters : Row → List Row → List Row
enters r [] = r ∷ []
enters r (v ∷ vs) = cond (is_lower r.line.0 r.priority v) (r ∷ v ∷ vs) (v ∷ enters r vs)

-- all but the first row of a thread
abbrev pub leaves : ℕ → List Row → List Row
leaves t [] = []
leaves t (v ∷ vs) = cond (is_of t v) vs (v ∷ leaves t vs)
