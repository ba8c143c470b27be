-- The answers that entries get (own).
use Rattle.std.specs.Prelude.{ℕ, ◌≡◌, ◌==◌, ◌++◌, ◌⊎◌, Bool, true, false, cond, map, set, unwrap_or, List, [], ◌∷◌, Option, Some, None, slice_get}
use Rattle.mcs_types.specs.declared.entry.Answer.{Answer}
use Rattle.mcs_types.specs.declared.entry.Answer.TheVariants as answer
use Rattle.mcs_types.specs.declared.entry.Entry.{Entry}
use Rattle.mcs_turns.specs.declared.position.Position.{Position}
use Rattle.mcs_turns.specs.declared.position.Pick.{Pick}
use Rattle.mcs_turns.specs.Turns.{User, RunState, is_send_at}
use Rattle.mcs_explore_walk.specs.declared.walk.Turn.{Turn}
use Rattle.mcs_explore_orders.specs.Shown.{Made}
use Rattle.mcs_explore_report.specs.declared.answers.Witness.{Witness}
use Rattle.mcs_turns.specs.declared.reached.Reached.{Reached}
use Rattle.mcs_explore_script.specs.UserLists.{user_of}
use Rattle.mcs_turns.specs.Mail.{brought}

-- the answers of the entries of all users
abbrev pub Tables : Type 0
Tables = List (List (List Witness))

-- no answer of any entry
abbrev pub no_answers : List User → Tables
no_answers users = map (λ (u : User). map (λ (e : Entry). []) u.entries) users

-- the answers of an entry, if there is such an entry
abbrev pub table_of : Tables → ℕ → ℕ → Option (List Witness)
table_of tables user number = slice_get (unwrap_or (slice_get tables user) []) number

-- this answer is among those
pub record IsAmong (witnesses : List Witness) (a : Answer) : Type 0 where
  pub place : ℕ
  pub one : Witness
  pub at : slice_get witnesses place ≡ Some one
  pub same : one.answer ≡ a

-- an answer is noted, if it is new
pub record IsNew (t : Witness) (old new : List Witness) : Type 0 where
  pub none : IsAmong old t.answer → ⊥
  pub added : new ≡ old ++ t ∷ []

abbrev pub IsNoted : Witness → List Witness → List Witness → Type 0
IsNoted t old new = (IsAmong old t.answer × (new ≡ old)) ⊎ IsNew t old new

-- what is in a place is changed so, if something does, and nothing else is changed
pub record IsChanged {A : Type 0} (Change : A → A → Type 0) (i : ℕ) (old new : List A) : Type 0 where
  pub before : A
  pub after : A
  pub at : slice_get old i ≡ Some before
  pub change : Change before after
  pub changed : new ≡ set old i after

abbrev pub IsChangedAt : {A : Type 0} → (A → A → Type 0) → ℕ → List A → List A → Type 0
IsChangedAt Change i old new = ((slice_get old i ≡ None) × (new ≡ old)) ⊎ IsChanged Change i old new

-- an answer of an entry of a user is noted, if there is such an entry, and no other
abbrev pub IsNotedIn : ℕ → Witness → List (List Witness) → List (List Witness) → Type 0
IsNotedIn number t old new = IsChangedAt (IsNoted t) number old new

abbrev pub IsNotedOf : ℕ → ℕ → Witness → Tables → Tables → Type 0
IsNotedOf user number t old new = IsChangedAt (IsNotedIn number t) user old new

-- what a turn was answered is noted, but for Waits
abbrev pub IsNotedTurn : Witness → Tables → Tables → Type 0
IsNotedTurn t old new = ((t.answer ≡ answer.Waits) × (new ≡ old)) ⊎ IsNotedOf t.turn.pick.user t.turn.pick.number t old new

-- the number of an entry of a user
pub record IsEntry (users : List User) (user number : ℕ) : Type 0 where
  pub one : User
  pub entry : Entry
  pub is_user : slice_get users user ≡ Some one
  pub is_entry : slice_get one.entries number ≡ Some entry

-- what a turn was answered itself
pub record IsOwnAnswer (m : Made) (i n : ℕ) (a : Answer) : Type 0 where
  pub user : m.turn.pick.user ≡ i
  pub number : m.turn.pick.number ≡ n
  pub answer : m.answer ≡ a

-- whether the entry of a user with this number is Send
abbrev pub gave_send : List User → ℕ → ℕ → Bool
gave_send users user number = elim (slice_get users user) [
  | None ↦ false
  | Some u ↦ is_send_at u number
]

-- whether this is the result of an entry that waited: that a thread continues is a result of Send
-- alone
abbrev pub comes_to : List User → ℕ → ℕ → Answer → Bool
comes_to users user number answer.Done = gave_send users user number
comes_to users user number a = true

-- the number of the entry with which a user waited before a turn of another user
abbrev pub waiting : List Position → ℕ → Turn → Option ℕ
waiting from user t = cond (user == t.pick.user) None (elim (slice_get from user) [ None ↦ None | Some p ↦ p.waited ])

-- the entry of a user that waited whose result is what reached its thread, if there is one
abbrev pub mailed_to : List User → List Position → Turn → Reached → Option Pick
mailed_to users from t r = elim (user_of users r.thread) [
  | None ↦ None
  | Some user ↦ elim (waiting from user t) [
    | None ↦ None
    | Some number ↦ cond (comes_to users user number r.answer) (Some (record { user = user; number = number })) None
  ]
]

-- what is learned is noted for this entry, if there is one
abbrev pub IsNotedFor : Option Pick → Witness → Tables → Tables → Type 0
IsNotedFor None t old new = new ≡ old
IsNotedFor (Some e) t old new = IsNotedOf e.user e.number t old new

-- what reached a thread by a turn from the state in a place is noted of the entry that comes to it
abbrev pub IsNotedMail : List User → List Position → ℕ → Turn → Reached → Tables → Tables → Type 0
IsNotedMail users from place t r old new = IsNotedFor (mailed_to users from t r) (record { answer = r.answer; place = place; turn = t }) old new

-- everything that reached a thread by a turn is noted, one after another
abbrev pub AreNotedMail : List User → List Position → ℕ → Turn → List Reached → Tables → Tables → Type 0
AreNotedMail users from place t [] old new = new ≡ old
AreNotedMail users from place t (r ∷ rs) old new = (mid : Tables) × (IsNotedMail users from place t r old mid × AreNotedMail users from place t rs mid new)

-- by a turn from these positions to this state this answer reached a thread, and this entry of its
-- user waited before it and comes to it
pub record IsMailed (users : List User) (from : List Position) (g : RunState) (user number : ℕ) (t : Turn) (a : Answer) : Type 0 where
  pub index : ℕ
  pub reached : Reached
  pub at : slice_get (brought g.book) index ≡ Some reached
  pub to : mailed_to users from t reached ≡ Some (record { user = user; number = number })
  pub answer : reached.answer ≡ a

-- an answer of an entry is that of a turn that was shown
pub record IsAnswerOf (users : List User) (turns : List Made) (user number : ℕ) (t : Witness) : Type 0 where
  pub index : ℕ
  pub made : Made
  pub at : slice_get turns index ≡ Some made
  pub place : made.place ≡ t.place
  pub turn : made.turn ≡ t.turn
  pub is : IsOwnAnswer made user number t.answer ⊎ IsMailed users made.from made.run_state user number made.turn t.answer

-- each answer of an entry is that of a turn that was shown, and each answer of such a turn but
-- Waits is among those of its entry
pub record AreAnswersOf (users : List User) (turns : List Made) (tables : Tables) : Type 0 where
  pub entries : (user number : ℕ) → IsEntry users user number → (witnesses : List Witness) × (table_of tables user number ≡ Some witnesses)
  pub each : (user number : ℕ) (witnesses : List Witness) (i : ℕ) (t : Witness) → table_of tables user number ≡ Some witnesses → slice_get witnesses i ≡ Some t → IsAnswerOf users turns user number t
  pub all : (j : ℕ) (m : Made) (witnesses : List Witness) → slice_get turns j ≡ Some m → (m.answer ≡ answer.Waits → ⊥) → table_of tables m.turn.pick.user m.turn.pick.number ≡ Some witnesses → IsAmong witnesses m.answer

-- what a turn that was shown delivered to an entry that waited is among the answers of that entry
abbrev pub AreMailOf : List User → List Made → Tables → Type 0
AreMailOf users turns tables = (j : ℕ) (m : Made) (user number : ℕ) (a : Answer) (witnesses : List Witness) → slice_get turns j ≡ Some m → IsMailed users m.from m.run_state user number m.turn a → table_of tables user number ≡ Some witnesses → IsAmong witnesses a
