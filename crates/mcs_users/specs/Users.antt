-- Users.
use Rattle.std.specs.Prelude.{ℕ, zero, suc, ◌+◌, ◌≡◌, ◌≤◌, ◌||◌, Bool, true, false, nat_lt, cond, List, [], ◌∷◌, ◌++◌, Option, Some, None, if◌then◌else◌, length, position, set, slice_get}
use Rattle.std.specs.List.{AllByRecursion, list_any}
use Rattle.mcs_types.specs.declared.id.ObjId.{ObjId}
use Rattle.mcs_types.specs.declared.entry.Entry.{Entry}
use Rattle.mcs_types.specs.Ids.{same}
use Rattle.mcs_types.specs.Changes.{changes_slots}
use Rattle.mcs_turns.specs.declared.program.Fill.{Fill}
use Rattle.mcs_turns.specs.declared.program.Op.{Op}
use Rattle.mcs_turns.specs.declared.program.Op.TheVariants as op
use Rattle.mcs_turns.specs.declared.position.Schedule.{Schedule}
use Rattle.mcs_turns.specs.declared.position.Schedule.TheVariants as schedule
use Rattle.mcs_turns.specs.Turns.{User, is_program}

-- a thread with one entry
abbrev pub begun_with : ObjId → Entry → User
begun_with t e = record { thread = t; entries = e ∷ []; again = None; ops = []; fills = []; schedule = schedule.Serial }

-- a user with an entry more, at the end
abbrev pub with_more : User → Entry → User
with_more u e = record u { entries = u.entries ++ e ∷ [] }

-- users with an entry more: at the end of its thread's list, or in a list of its own before the
-- first one of a later thread
abbrev pub with_entry : List User → ObjId → Entry → List User
with_entry [] t e = begun_with t e ∷ []
with_entry (u ∷ us) t e =
    if same u.thread t then with_more u e ∷ us
    else (if nat_lt t.serial u.thread.serial then begun_with t e ∷ u ∷ us else u ∷ with_entry us t e)

-- users of which the one in a place goes on with its entry of this number, if it has one
abbrev pub again_at : List User → ℕ → ℕ → List User
again_at us i n = elim (slice_get us i) [
  | None ↦ us
  | Some u ↦ cond (nat_lt n (length u.entries)) (set us i (record u { again = Some n })) us
]

-- users of which that of a thread does
abbrev pub with_again : List User → ObjId → ℕ → List User
with_again us t n = elim (position (λ (u : User). same u.thread t) us) [ None ↦ us | Some i ↦ again_at us i n ]

-- users of which the one in a place has this program
abbrev pub program_at : List User → ℕ → List Op → List Fill → List User
program_at us i os fs = elim (slice_get us i) [ None ↦ us | Some u ↦ set us i (record u { ops = os; fills = fs }) ]

-- users of which that of a thread has it
abbrev pub with_program : List User → ObjId → List Op → List Fill → List User
with_program us t os fs = elim (position (λ (u : User). same u.thread t) us) [ None ↦ us | Some i ↦ program_at us i os fs ]

-- a user whose thread is picked by this schedule
abbrev pub scheduled : Schedule → User → User
scheduled by u = record u { schedule = by }

-- lines that give n entries, one after the other, from that of the number i on
abbrev pub gives_from : ℕ → ℕ → List Op
gives_from i zero = []
gives_from i (suc n) = op.Give i ∷ gives_from (i + 1) n

-- the line that goes on with an entry, if there is one
abbrev pub goes_again : Option ℕ → List Op
goes_again None = []
goes_again (Some first) = op.Jump first ∷ []

-- the program of a list
abbrev pub straight : User → List Op
straight u = gives_from 0 (length u.entries) ++ goes_again u.again

-- a user with the program of its list, if it has none: so it gives no entry again that was answered
abbrev pub straightened : User → User
straightened u = cond (is_program u.ops) u (record u { ops = straight u })

-- whether its thread is picked by the serial schedule
abbrev pub is_serial : User → Bool
is_serial u = serial_by u.schedule
  where
    serial_by : Schedule → Bool
    serial_by schedule.Serial = true
    serial_by schedule.Equal = false
    serial_by schedule.Any = false

-- whether it is the user of a thread, or one of a later thread
abbrev pub is_place_for : ObjId → User → Bool
is_place_for t u = same u.thread t || nat_lt t.serial u.thread.serial

-- v follows u: its thread is another one, of no lower serial
pub record IsAfter (u v : User) : Type 0 where
  pub other : same u.thread v.thread ≡ false
  pub serial : u.thread.serial ≤ v.thread.serial

-- each user follows all before it
abbrev pub AreInOrder : List User → Type 0
AreInOrder [] = Unit {0}
AreInOrder (u ∷ us) = AllByRecursion (IsAfter u) us × AreInOrder us

-- whether some entry of a user changes slots
abbrev pub user_changes_slots : User → Bool
user_changes_slots u = list_any changes_slots u.entries

-- whether some entry of some user does
abbrev pub change_slots : List User → Bool
change_slots us = list_any user_changes_slots us
