-- What a walk finds of its users.
use Rattle.std.specs.Prelude.{ℕ, zero, suc, Bool, true, false, not, ◌≡◌, ◌<◌, ◌⊎◌, ◌==◌, ◌++◌, cond, length, map, List, [], ◌∷◌, Option, Some, None, slice_get}
use Rattle.std.specs.List.{Contains, list_any}
use Rattle.mcs_types.specs.declared.id.ObjId.{ObjId}
use Rattle.mcs_types.specs.declared.id.CoreId.{CoreId}
use Rattle.mcs_types.specs.declared.entry.Answer.{Answer}
use Rattle.mcs_types.specs.declared.entry.Entry.{Entry}
use Rattle.mcs_types.specs.declared.entry.Step.{Step}
use Rattle.mcs_book.specs.History.{Book, Line, log_of}
use Rattle.mcs_book.specs.Logs.{Log}
use Rattle.mcs_book.specs.Statuses.{may_enter}
use Rattle.mcs_book.specs.Picking.{GoesBefore}
use Rattle.mcs_turns.specs.declared.position.Position.{Position}
use Rattle.mcs_turns.specs.declared.position.Pick.{Pick}
use Rattle.mcs_turns.specs.Due.{is_same, picks_at, with_picks, without_user}
use Rattle.mcs_turns.specs.Turns.{User, RunState, CanGive, IsStale, IsTurn, due}
use Rattle.mcs_kernel.specs.declared.fault.EnterFault.{EnterFault}
use Rattle.mcs_kernel.specs.declared.fault.EnterFault.TheVariants.{BookFull, OutOfMemory}
use Rattle.mcs_explore_walk.specs.declared.walk.Candidate.{Candidate}
use Rattle.mcs_explore_walk.specs.declared.walk.Turn.{Turn}

-- there is a core on which the thread may enter
pub record EntersSomewhere (R : Log) (t : ObjId) : Type 0 where
  pub core : CoreId
  pub enters : may_enter R core t ≡ true

-- the user in a place can give this entry on the core, and has this thread
pub record Gives (users : List User) (g : RunState) (core : CoreId) (i : ℕ) (k : Pick) (t : ObjId) : Type 0 where
  pub user : User
  pub place : Position
  pub can : CanGive users g core i user place
  pub number : k ≡ record { user = i; number = due (log_of g.book) user place }
  pub thread : t ≡ user.thread

-- a thread may enter on this core, and on no other
abbrev pub IsEntryCore : Log → ObjId → Option CoreId → Type 0
IsEntryCore R t None = (core : CoreId) → may_enter R core t ≡ true → ⊥
IsEntryCore R t (Some c) = (may_enter R c t ≡ true) × ((core : CoreId) → may_enter R core t ≡ true → core ≡ c)

-- what the user in a place can give, on one core
abbrev pub IsOffer : List User → RunState → ℕ → Option Candidate → Type 0
IsOffer users g i None = (core : CoreId) (u : User) (p : Position) → CanGive users g core i u p → ⊥
IsOffer users g i (Some o) = Gives users g o.core i o.pick o.thread
    × ((core : CoreId) (u : User) (p : Position) → CanGive users g core i u p → core ≡ o.core)

-- the best that those below n can give on a core
abbrev pub IsBestBelow : List User → RunState → CoreId → ℕ → Option Pick → Type 0
IsBestBelow users g core n None = (i : ℕ) (u : User) (p : Position) → i < n → CanGive users g core i u p → ⊥
IsBestBelow users g core n (Some k) = (t : ObjId) × Gives users g core k.user k t
    × ((i : ℕ) (u : User) (p : Position) → i < n → CanGive users g core i u p → GoesBefore (log_of g.book) t u.thread)

-- for each core the best that the users below n can give there
pub record AreBestBelow (users : List User) (g : RunState) (n : ℕ) (picks : List (Option Pick)) : Type 0 where
  pub each : (core : CoreId) (k : Option Pick) → slice_get picks core.0 ≡ Some k → IsBestBelow users g core n k

-- a pick is the due entry of a user that can give one, and whose thread precedes those of all
-- others that can
pub record IsBest (users : List User) (g : RunState) (core : CoreId) (k : Pick) : Type 0 where
  pub user : User
  pub place : Position
  pub can : CanGive users g core k.user user place
  pub number : k.number ≡ due (log_of g.book) user place
  pub best : (i : ℕ) (v : User) (q : Position) → CanGive users g core i v q → GoesBefore (log_of g.book) user.thread v.thread

-- the best of a core; none where no thread can give an entry there
abbrev pub IsBestOf : List User → RunState → CoreId → Option Pick → Type 0
IsBestOf users g core None = (i : ℕ) (u : User) (p : Position) → CanGive users g core i u p → ⊥
IsBestOf users g core (Some k) = IsBest users g core k

-- the best of each of all cores
pub record AreBest (users : List User) (g : RunState) (best : List (Option Pick)) : Type 0 where
  pub cores : length best ≡ g.book.boot.cores
  pub each : (core : CoreId) (k : Option Pick) → slice_get best core.0 ≡ Some k → IsBestOf users g core k

-- the best of a core among those of all
abbrev pub best_at : List (Option Pick) → ℕ → Option Pick
best_at ks i = best_by (slice_get ks i)
  where
    best_by : Option (Option Pick) → Option Pick
    best_by None = None
    best_by (Some k) = k

-- whether the thread may enter, if its entry is skipped for this reason or is not skipped
abbrev pub is_let_in : Option EnterFault → Bool
is_let_in None = true
is_let_in (Some BookFull) = true
is_let_in (Some _) = false

-- an entry of a thread that may enter is skipped for this
abbrev pub IsLimit : EnterFault → Type 0
IsLimit f = (f ≡ BookFull) ⊎ (f ≡ OutOfMemory)

-- the stale picks of the core in a place after a line by a user on the core, where these were the
-- picks
abbrev pub left_stale : ℕ → ℕ → List (List Pick) → ℕ → List Pick → List Pick
left_stale core user picks i stale = cond (i == core) [] (without_user user (with_picks (picks_at picks i) stale))

-- an entry is among what a core picks, or picked before
abbrev pub IsPicked : RunState → List (List Pick) → CoreId → Pick → Type 0
IsPicked g picks core k = Contains (picks_at picks core.0) k ⊎ IsStale g core k

-- an entry of a user on a core
abbrev pub step_of : CoreId → User → Entry → Step
step_of core u e = record { core = core; thread = u.thread; entry = e }

-- the answer to the last entry of a book, if there is one
abbrev pub last_answer : Book → Option Answer
last_answer b = answer_of b.lines
  where
    answer_of : List Line → Option Answer
    answer_of [] = None
    answer_of (l ∷ ls) = Some l.answer

-- the rule has this turn, where the cores have these picks: it enters this entry of this user
pub record IsEntrant (users : List User) (g : RunState) (picks : List (List Pick)) (t : Turn) (u : User) (e : Entry) : Type 0 where
  pub is_user : slice_get users t.pick.user ≡ Some u
  pub is_entry : slice_get u.entries t.pick.number ≡ Some e
  pub picked : IsPicked g picks t.core t.pick
  pub enters : may_enter (log_of g.book) t.core u.thread ≡ true

-- the rule has no such turn
abbrev pub HasNoTurn : List User → RunState → CoreId → Pick → Type 0
HasNoTurn users g core k = (h : RunState) → IsTurn users core k g h → ⊥

-- an entry of a user on a core
abbrev pub turn_of : CoreId → Pick → Turn
turn_of core k = record { core = core; pick = k }

-- whether it is none of these
abbrev pub is_other : List Pick → Pick → Bool
is_other ks j = not (list_any (is_same j) ks)

-- the turns of a core that enter what it picked before, but for what it picks now
abbrev pub stale_turns : CoreId → List Pick → List Pick → List Turn
stale_turns core now [] = []
stale_turns core now (j ∷ js) = cond (is_other now j) (turn_of core j ∷ stale_turns core now js) (stale_turns core now js)

-- the turns of a core that picks these now and picked those before
abbrev pub turns_of : CoreId → List Pick → List Pick → List Turn
turns_of core now js = map (turn_of core) now ++ stale_turns core now js

-- the turns of a core, where the cores have these picks
abbrev pub turns_on : RunState → List (List Pick) → ℕ → List Turn
turns_on g picks i = turns_of (record { 0 = i }) (picks_at picks i) (picks_at g.stale i)

-- those of the first n cores
abbrev pub turns_below : RunState → List (List Pick) → ℕ → List Turn
turns_below g picks zero = []
turns_below g picks (suc n) = turns_below g picks n ++ turns_on g picks n

-- each turn that the rule has is among these
abbrev pub HasEachTurn : List User → RunState → List Turn → Type 0
HasEachTurn users g ts = (core : CoreId) (k : Pick) (h : RunState) → IsTurn users core k g h → Contains ts (turn_of core k)

-- each of these turns enters what its core picks, or picked before
abbrev pub ArePicked : RunState → List (List Pick) → List Turn → Type 0
ArePicked g picks ts = (t : Turn) → Contains ts t → IsPicked g picks t.core t.pick
