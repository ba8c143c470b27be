-- The standings of users where a run ends (own).
use Rattle.std.specs.Prelude.{ℕ, zero, suc, ◌++◌, ◌&&◌, ◌||◌, Bool, true, false, cond, nat_lt, is_some, List, [], ◌∷◌, Option, Some, None, length, slice_get}
use Rattle.mcs_types.specs.declared.record.Status.{Status}
use Rattle.mcs_types.specs.declared.record.Status.TheVariants as status
use Rattle.mcs_book.specs.History.{log_of}
use Rattle.mcs_book.specs.Statuses.{status_of}
use Rattle.mcs_turns.specs.declared.position.Position.{Position}
use Rattle.mcs_turns.specs.Due.{due_by}
use Rattle.mcs_turns.specs.Turns.{User, RunState}
use Rattle.mcs_explore_report.specs.declared.ends.Standing.{Standing}
use Rattle.mcs_explore_report.specs.Judging.{answered_by}

-- whether a thread neither runs nor restarts
abbrev pub is_blocked : Option Status → Bool
is_blocked (Some status.Running) = false
is_blocked (Some status.Restart) = false
is_blocked _ = true

-- the standing of a user whose thread has this status; none if it has given all its entries and
-- waits for nothing
abbrev pub standing_by : User → Option Status → Position → Option Standing
standing_by u st p = cond (left || (is_blocked st && is_some p.waited)) (Some (record { thread = u.thread; status = st; has_entries = left; answered = answered_by st p })) None
  where
    left : Bool
    left = nat_lt (due_by st p) (length u.entries)

-- the standing of the user in a place
abbrev pub standing_of : List User → RunState → ℕ → Option Standing
standing_of users g i = elim (slice_get users i) [
  | None ↦ None
  | Some u ↦ elim (slice_get g.places i) [ None ↦ None | Some p ↦ standing_by u (status_of (log_of g.book) u.thread) p ]
]

-- a standing, if there is one, as a list
abbrev pub listed : Option Standing → List Standing
listed None = []
listed (Some s) = s ∷ []

-- the standings of the users in the first n places, and those of all
abbrev pub standings_below : List User → RunState → ℕ → List Standing
standings_below users g zero = []
standings_below users g (suc n) = standings_below users g n ++ listed (standing_of users g n)

abbrev pub standings : List User → RunState → List Standing
standings users g = standings_below users g (length users)
