-- Runs of users: each turn enters what a core picks, or what it picked since its last line and
-- whose user has not moved (own).
use Rattle.std.specs.Prelude.{ℕ, zero, suc, ◌≡◌, ◌==◌, ◌<◌, ◌≤◌, ◌+◌, ◌⊎◌, Bool, true, false, cond, nat_lt, map, length, List, [], ◌∷◌, Option, Some, None, slice_get, unwrap_or}
use Rattle.std.specs.List.{AllPairs, Contains}
use Rattle.mcs_types.specs.declared.id.ObjId.{ObjId}
use Rattle.mcs_types.specs.declared.id.CoreId.{CoreId}
use Rattle.mcs_types.specs.declared.entry.Answer.{Answer}
use Rattle.mcs_types.specs.declared.entry.Answer.TheVariants as answer
use Rattle.mcs_types.specs.declared.entry.Entry.{Entry}
use Rattle.mcs_types.specs.declared.entry.Step.{Step}
use Rattle.mcs_types.specs.Ids.{same}
use Rattle.mcs_types.specs.Ranges.{InRange}
use Rattle.mcs_book.specs.Boots.{Boot}
use Rattle.mcs_book.specs.History.{Book, log_of, line_for}
use Rattle.mcs_book.specs.Logs.{Log}
use Rattle.mcs_book.specs.Pieces.{Outcome}
use Rattle.mcs_book.specs.Picking.{GoesBefore}
use Rattle.mcs_book.specs.Statuses.{status_of, may_enter}
use Rattle.mcs_book.specs.Threads.{prio_of}
use Rattle.mcs_book.specs.Table.{does}
use Rattle.mcs_types.specs.Changes.{is_send}
use Rattle.mcs_turns.specs.declared.position.Position.{Position}
use Rattle.mcs_turns.specs.declared.position.Pick.{Pick}
use Rattle.mcs_turns.specs.declared.position.Schedule.{Schedule}
use Rattle.mcs_turns.specs.declared.position.Schedule.TheVariants as schedule
use Rattle.mcs_turns.specs.declared.program.Fill.{Fill}
use Rattle.mcs_turns.specs.declared.program.Op.{Op}
use Rattle.mcs_turns.specs.declared.program.Saved.{Saved}
use Rattle.mcs_turns.specs.declared.program.Settled.{Settled}
use Rattle.mcs_turns.specs.declared.reached.Reached.{Reached}
use Rattle.mcs_turns.specs.Due.{due_by, begun, moved_past, none_stale, picks_at, stale_after}
use Rattle.mcs_turns.specs.Mail.{reached_from}
use Rattle.mcs_turns.specs.Programs.{filled, goes_on, nothing_saved, starts}

-- a thread, its entries, the number of the entry with which a list goes on after the last (none
-- where the last is its last), its program with what it fills in, and when its core picks it: where
-- it has no program, the user gives its entries one after the other
pub record User : Type 0 where
  pub thread : ObjId
  pub entries : List Entry
  pub again : Option ℕ
  pub ops : List Op
  pub fills : List Fill
  pub schedule : Schedule

-- whether there is a program
abbrev pub is_program : List Op → Bool
is_program [] = false
is_program (o ∷ os) = true

-- how far a run is: its book, the position of each user, and the stale picks of each core
pub record RunState : Type 0 where
  pub book : Book
  pub places : List Position
  pub stale : List (List Pick)

-- the number of the entry that a user gives now
abbrev pub due : Log → User → Position → ℕ
due R u p = due_by (status_of R u.thread) p

-- the user of the number i has an entry left, and its thread may enter on the core
pub record CanGive (users : List User) (g : RunState) (core : CoreId) (i : ℕ) (u : User) (p : Position) : Type 0 where
  pub user : slice_get users i ≡ Some u
  pub place : slice_get g.places i ≡ Some p
  pub left : due (log_of g.book) u p < length u.entries
  pub enters : may_enter (log_of g.book) core u.thread ≡ true

-- a core may pick a thread beside another one that may enter there
abbrev pub MayPrecede : Schedule → Log → ObjId → ObjId → Type 0
MayPrecede schedule.Serial R t u = GoesBefore R t u
MayPrecede schedule.Equal R t u = prio_of R u ≤ prio_of R t
MayPrecede schedule.Any R t u = Unit {0}

-- a pick is the due entry of a user who can give one, and whose thread the core may pick beside
-- those of all others who can
pub record CanBePicked (users : List User) (g : RunState) (core : CoreId) (k : Pick) : Type 0 where
  pub user : User
  pub place : Position
  pub can : CanGive users g core k.user user place
  pub number : k.number ≡ due (log_of g.book) user place
  pub best : (i : ℕ) (v : User) (q : Position) → CanGive users g core i v q → MayPrecede user.schedule (log_of g.book) user.thread v.thread

-- picks of lower users come first, and each user has one
abbrev pub AreAscending : List Pick → Type 0
AreAscending ks = AllPairs (λ (k j : Pick). k.user < j.user) ks

-- all that a core may pick, in order
pub record ArePicksOf (users : List User) (g : RunState) (core : CoreId) (ks : List Pick) : Type 0 where
  pub picked : (k : Pick) → Contains ks k → CanBePicked users g core k
  pub all : (k : Pick) → CanBePicked users g core k → Contains ks k
  pub ascending : AreAscending ks

-- the picks of all cores
pub record ArePicks (users : List User) (g : RunState) (picks : List (List Pick)) : Type 0 where
  pub cores : length picks ≡ g.book.boot.cores
  pub each : (core : CoreId) (ks : List Pick) → slice_get picks core.0 ≡ Some ks → ArePicksOf users g core ks

-- a pick is a stale pick of the core
pub record IsStale (g : RunState) (core : CoreId) (k : Pick) : Type 0 where
  pub picks : List Pick
  pub stale : slice_get g.stale core.0 ≡ Some picks
  pub among : Contains picks k

-- a list with another element in a place, if it has the place
abbrev pub put_at : {A : Type 0} → ℕ → A → List A → List A
put_at i x [] = []
put_at zero x (y ∷ ys) = x ∷ ys
put_at (suc i) x (y ∷ ys) = y ∷ put_at i x ys

-- what a step does
abbrev pub outcome : Book → Step → Outcome
outcome b s = does (log_of b) s.core s.thread s.entry

-- the number of the entry after one that is not the last: the next, and after the last that with
-- which the user goes on
abbrev pub again_by : Option ℕ → ℕ → ℕ → ℕ
again_by None entries next = next
again_by (Some first) entries next = cond (nat_lt next entries) next first

-- where a program continues from a position, which waits with nothing; if there is none, that
-- position
abbrev pub gone_on : Option Settled → User → Position → Position
gone_on None u p = p
gone_on (Some x) u p = record { next = unwrap_or x.number (length u.entries); waited = None; saved = x.saved }

-- the first position of a user
abbrev pub started : User → Position
started u = gone_on (starts u.ops) u begun

-- the position of a list after an entry that was accepted with an answer
abbrev pub listed_after : User → ℕ → Saved → Answer → Position
listed_after u number s a = record (moved_past number a) { next = again_by u.again (length u.entries) (number + 1); saved = s }

-- the position of a user whose entry waits: which entry its program gives next is not known yet
abbrev pub waiting_after : List Op → User → ℕ → Saved → Position
waiting_after [] u number s = listed_after u number s answer.Waits
waiting_after (o ∷ os) u number s = record (moved_past number answer.Waits) { next = length u.entries + 1; saved = s }

-- the position of a user after an entry that was accepted with an answer: a program continues by
-- the result
abbrev pub position_after : User → ℕ → Saved → Answer → Position
position_after u number s answer.Waits = waiting_after u.ops u number s
position_after u number s a = gone_on (goes_on u.ops number s a) u (listed_after u number s a)

-- whether the entry of a user with this number is Send
abbrev pub is_send_at : User → ℕ → Bool
is_send_at u number = elim (slice_get u.entries number) [ None ↦ false | Some e ↦ is_send e ]

-- whether this is the result of an entry that waited: that a thread continues is a result of Send
-- alone
abbrev pub comes_of : User → ℕ → Answer → Bool
comes_of u number answer.Done = is_send_at u number
comes_of u number a = true

-- the position of a user whom something reached: where its entry waited, its program continues by
-- it
abbrev pub answered : User → Answer → Position → Position
answered u a p = elim p.waited [
  | None ↦ p
  | Some number ↦ cond (comes_of u number a) (gone_on (goes_on u.ops number p.saved a) u p) p
]

-- the position of a user after something that reached a thread
abbrev pub answered_if : User → Reached → Position → Position
answered_if u r p = cond (same u.thread r.thread) (answered u r.answer p) p

-- the position of a user after all that reached threads
abbrev pub answered_all : List Reached → User → Position → Position
answered_all [] u p = p
answered_all (r ∷ rs) u p = answered_all rs u (answered_if u r p)

-- that of the user of the number i, but for the one that entered
abbrev pub place_answered : List Reached → ℕ → List User → ℕ → Position → Position
place_answered rs own users i p = cond (i == own) p (elim (slice_get users i) [ None ↦ p | Some u ↦ answered_all rs u p ])

-- those of all users from the number i on
abbrev pub all_answered : List Reached → ℕ → ℕ → List User → List Position → List Position
all_answered rs own i users [] = []
all_answered rs own i users (p ∷ ps) = place_answered rs own users i p ∷ all_answered rs own (i + 1) users ps

-- the words that the user of a number keeps
abbrev pub saved_at : RunState → ℕ → Saved
saved_at g i = elim (slice_get g.places i) [ None ↦ nothing_saved | Some p ↦ p.saved ]

-- an entry of a user as it gives it now
abbrev pub given : RunState → User → Pick → Entry → Entry
given g u k e = filled u.fills k.number (saved_at g k.user) e

-- the positions after an entry of a user with this outcome
abbrev pub places_after : List User → Outcome → User → Pick → RunState → List Position
places_after users o u k g =
    all_answered (reached_from None o.records) k.user 0 users
    (put_at k.user (position_after u k.number (saved_at g k.user) o.answer) g.places)

-- how far a run is after an entry of a user on a core, where the cores had these picks
abbrev pub entered : List User → List (List Pick) → User → Step → Pick → RunState → RunState
entered users picks u s k g = record {
  book = record g.book { lines = line_for s (outcome g.book s) ∷ g.book.lines };
  places = places_after users (outcome g.book s) u k g;
  stale = stale_after s.core.0 k.user 0 picks g.stale;
}

-- one turn: a core enters one of its picks, or a stale one of its own
pub record IsTurn (users : List User) (core : CoreId) (k : Pick) (g h : RunState) : Type 0 where
  pub user : User
  pub entry : Entry
  pub picks : List (List Pick)
  pub is_user : slice_get users k.user ≡ Some user
  pub is_entry : slice_get user.entries k.number ≡ Some entry
  pub are_picks : ArePicks users g picks
  pub picked : Contains (picks_at picks core.0) k ⊎ IsStale g core k
  pub enters : may_enter (log_of g.book) core user.thread ≡ true
  pub after : h ≡ entered users picks user (record { core = core; thread = user.thread; entry = given g user k entry }) k g

-- the beginning of a run
abbrev pub beginning : List User → Boot → RunState
beginning users boot = record {
  book = record { boot = boot; lines = [] };
  places = map started users;
  stale = none_stale boot.cores;
}

-- some core makes a turn
pub record Follows (users : List User) (g h : RunState) : Type 0 where
  pub core : CoreId
  pub pick : Pick
  pub turn : IsTurn users core pick g h

-- a run of n turns after a boot
abbrev pub IsRun : List User → Boot → ℕ → RunState → Type 0
IsRun users boot zero g = g ≡ beginning users boot
IsRun users boot (suc n) h = (g : RunState) × (IsRun users boot n g × Follows users g h)

-- no turn is possible
abbrev pub IsOver : List User → RunState → Type 0
IsOver users g = (h : RunState) → Follows users g h → ⊥

-- the numbers of all entries are in their ranges
abbrev pub AreInRange : List User → Type 0
AreInRange users = (i j : ℕ) (u : User) (e : Entry) → slice_get users i ≡ Some u → slice_get u.entries j ≡ Some e → InRange e

-- no two users have one thread
abbrev pub AreApart : List User → Type 0
AreApart users = (i j : ℕ) (u v : User) → slice_get users i ≡ Some u → slice_get users j ≡ Some v → same u.thread v.thread ≡ true → i ≡ j
