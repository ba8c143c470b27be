-- Which entry of a user is due, what a line moves, and which picks of a core are stale (own).
use Rattle.std.specs.Prelude.{ℕ, zero, suc, ◌+◌, ◌==◌, ◌&&◌, ◌||◌, Bool, not, cond, nat_lt, filter, List, [], ◌∷◌, Option, Some, None, slice_get, unwrap_or}
use Rattle.mcs_types.specs.declared.entry.Answer.{Answer}
use Rattle.mcs_types.specs.declared.entry.Answer.TheVariants as answer
use Rattle.mcs_types.specs.declared.record.Status.{Status}
use Rattle.mcs_types.specs.declared.record.Status.TheVariants as status
use Rattle.mcs_turns.specs.declared.position.Position.{Position}
use Rattle.mcs_turns.specs.Programs.{nothing_saved}
use Rattle.mcs_turns.specs.declared.position.Pick.{Pick}

-- the number of the entry that a user gives now: the last one again where its thread waited and was
-- restarted
abbrev pub due_by : Option Status → Position → ℕ
due_by (Some status.Restart) p = unwrap_or p.waited p.next
due_by _ p = p.next

-- before the first entry
abbrev pub begun : Position
begun = record { next = 0; waited = None; saved = nothing_saved }

-- after an entry that was accepted with an answer
abbrev pub moved_past : ℕ → Answer → Position
moved_past number answer.Waits = record { next = number + 1; waited = Some number; saved = nothing_saved }
moved_past number _ = record { next = number + 1; waited = None; saved = nothing_saved }

-- whether two picks are one entry of one user
abbrev pub is_same : Pick → Pick → Bool
is_same k j = (k.user == j.user) && (k.number == j.number)

-- the lower user comes first, and then the lower entry
abbrev pub is_ahead : Pick → Pick → Bool
is_ahead k j = nat_lt k.user j.user || ((k.user == j.user) && nat_lt k.number j.number)

-- picks in order, with one more, unless it is among them
abbrev pub with_pick : Pick → List Pick → List Pick
with_pick k [] = k ∷ []
with_pick k (j ∷ js) = cond (is_same k j) (j ∷ js) (cond (is_ahead k j) (k ∷ j ∷ js) (j ∷ with_pick k js))

-- picks in order, with more, but for those that are among them
abbrev pub with_picks : List Pick → List Pick → List Pick
with_picks [] js = js
with_picks (k ∷ ks) js = with_picks ks (with_pick k js)

-- the picks of the core of the number i; none if there is no such core
abbrev pub picks_at : List (List Pick) → ℕ → List Pick
picks_at ps i = unwrap_or (slice_get ps i) []

-- what each core may enter: its stale picks and its picks, in order
abbrev pub choices : List (List Pick) → List (List Pick) → List (List Pick)
choices ps [] = []
choices [] (s ∷ ss) = s ∷ choices [] ss
choices (p ∷ ps) (s ∷ ss) = with_picks p s ∷ choices ps ss

-- those of all users but one
abbrev pub without_user : ℕ → List Pick → List Pick
without_user user js = filter (λ (j : Pick). not (j.user == user)) js

-- the stale picks of each core from the number i on, after a line by the user on the core: that
-- core has none; each other keeps its own and what it would have picked before the line, without
-- those of the user, who has moved
abbrev pub stale_after : ℕ → ℕ → ℕ → List (List Pick) → List (List Pick) → List (List Pick)
stale_after core user i ps [] = []
stale_after core user i [] (s ∷ ss) = cond (i == core) [] (without_user user s) ∷ stale_after core user (i + 1) [] ss
stale_after core user i (p ∷ ps) (s ∷ ss) = cond (i == core) [] (without_user user (with_picks p s)) ∷ stale_after core user (i + 1) ps ss

-- this many cores without a stale pick
abbrev pub none_stale : ℕ → List (List Pick)
none_stale zero = []
none_stale (suc n) = [] ∷ none_stale n
