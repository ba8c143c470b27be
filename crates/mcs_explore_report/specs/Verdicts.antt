-- What is reported about questions (own).
use Rattle.std.specs.Prelude.{ℕ, ◌≡◌, ◌-◌, ◌<◌, ◌&&◌, ◌⊎◌, nat_lt, Bool, true, false, is_none, is_some, unwrap_or, List, [], Option, Some, None, length, slice_get}
use Rattle.std.specs.List.{list_any}
use Rattle.mcs_types.specs.declared.entry.Answer.{Answer}
use Rattle.mcs_types.specs.Ids.{same}
use Rattle.mcs_turns.specs.Turns.{User}
use Rattle.mcs_explore_report.specs.declared.answers.Witness.{Witness}
use Rattle.mcs_explore_questions.specs.declared.questions.Asked.{Asked}
use Rattle.mcs_explore_questions.specs.declared.questions.Asked.TheVariants as asked
use Rattle.mcs_explore_questions.specs.declared.questions.Event.{Event}
use Rattle.mcs_explore_report.specs.declared.ends.Standing.{Standing}
use Rattle.mcs_explore_report.specs.declared.judgement.Sighting.{Sighting}
use Rattle.mcs_explore_report.specs.declared.verdicts.Verdict.{Verdict}
use Rattle.mcs_explore_report.specs.Answers.{Tables, table_of}
use Rattle.mcs_explore_report.specs.Ends.{Kind}
use Rattle.mcs_explore_script.specs.UserLists.{user_of}
use Rattle.mcs_explore_questions.specs.Patterns.{is_match}
use Rattle.mcs_explore_report.specs.Saying.{said}

-- whether a pattern matches an answer
abbrev pub is_said : List ℕ → Answer → Bool
is_said pattern a = is_match pattern (said a)

-- an answer that a pattern matches, or does not match, as the question asks, and the turn that gave
-- it
pub record IsFoundIn (witnesses : List Witness) (pattern : List ℕ) (wanted : Bool) (seen : Sighting) : Type 0 where
  pub index : ℕ
  pub one : Witness
  pub at : slice_get witnesses index ≡ Some one
  pub is : is_said pattern one.answer ≡ wanted
  pub seen_is : seen ≡ record { place = one.place; turn = Some one.turn }

-- none of the first n answers matches as the question asks
abbrev pub IsNotIn : List Witness → List ℕ → Bool → ℕ → Type 0
IsNotIn witnesses pattern wanted n = (i : ℕ) (t : Witness) → i < n → slice_get witnesses i ≡ Some t → is_said pattern t.answer ≡ wanted → ⊥

-- the answers of an entry
abbrev pub answers_of : List User → Tables → Event → List Witness
answers_of users tables e = elim (user_of users e.thread) [ None ↦ [] | Some i ↦ unwrap_or (table_of tables i (e.number - 1)) [] ]

-- what a search for such an answer gave: where it is, or none
abbrev pub IsSearched : List Witness → List ℕ → Bool → Option Sighting → Type 0
IsSearched witnesses pattern wanted None = IsNotIn witnesses pattern wanted (length witnesses)
IsSearched witnesses pattern wanted (Some seen) = IsFoundIn witnesses pattern wanted seen

-- where a question failed first, if it did
abbrev pub failed_at : List (Option Sighting) → ℕ → Option Sighting
failed_at failed number = elim (slice_get failed number) [ None ↦ None | Some f ↦ f ]

-- whether a user with this standing in an end has no answer for an entry
abbrev pub lacks_one : Event → Standing → Bool
lacks_one e s = same s.thread e.thread && nat_lt s.answered e.number

-- whether an end with these standings comes without an answer of an entry
abbrev pub lacks : Event → List Standing → Bool
lacks e standing = list_any (lacks_one e) standing

-- none of the first n kinds of ends does
abbrev pub HasEach : List Kind → Event → ℕ → Type 0
HasEach kinds e n = (i : ℕ) (k : Kind) → i < n → slice_get kinds i ≡ Some k → lacks e k.standing ≡ false

-- one of them does, and none before it: the state in which it came first
pub record IsWithout (kinds : List Kind) (e : Event) (seen : Sighting) : Type 0 where
  pub index : ℕ
  pub kind : Kind
  pub at : slice_get kinds index ≡ Some kind
  pub lacks : lacks e kind.standing ≡ true
  pub before : HasEach kinds e index
  pub seen_is : seen ≡ record { place = kind.place; turn = None }

-- what a search for such an end gave: where it is, or none
abbrev pub IsEndSearched : List Kind → Event → Option Sighting → Type 0
IsEndSearched kinds e None = HasEach kinds e (length kinds)
IsEndSearched kinds e (Some seen) = IsWithout kinds e seen

-- an answer that is not of the pattern, or an end without one; none if there is neither
abbrev pub IsAlways : List Witness → List ℕ → List Kind → Event → Option Sighting → Type 0
IsAlways witnesses pattern kinds e None = IsNotIn witnesses pattern false (length witnesses) × HasEach kinds e (length kinds)
IsAlways witnesses pattern kinds e (Some seen) = IsFoundIn witnesses pattern false seen ⊎ IsWithout kinds e seen

-- the verdict on a question: the place where it failed first, if it did, and the first place where
-- its user is stuck, if there is one
abbrev pub IsVerdict : List User → List Kind → Tables → Option Sighting → Option Sighting → Asked → Verdict → Type 0
IsVerdict users kinds tables f stuck (asked.Idle thread entries) v = v ≡ record { holds = true; seen = None }
IsVerdict users kinds tables f stuck (asked.Again event) v = v ≡ record { holds = true; seen = None }
IsVerdict users kinds tables f stuck (asked.Ruled rule) v = v ≡ record { holds = true; seen = None }
IsVerdict users kinds tables f stuck (asked.Live thread number) v = v ≡ record { holds = is_none stuck; seen = stuck }
IsVerdict users kinds tables f stuck (asked.Answer event pattern) v = (v.holds ≡ is_none v.seen) × IsAlways (answers_of users tables event) pattern.items kinds event v.seen
IsVerdict users kinds tables f stuck (asked.AnswerIf event pattern) v = (v.holds ≡ is_none v.seen) × IsSearched (answers_of users tables event) pattern.items false v.seen
IsVerdict users kinds tables f stuck (asked.Some event pattern) v = (v.holds ≡ is_some v.seen) × IsSearched (answers_of users tables event) pattern.items true v.seen
IsVerdict users kinds tables f stuck _ v = v ≡ record { holds = is_none f; seen = f }
