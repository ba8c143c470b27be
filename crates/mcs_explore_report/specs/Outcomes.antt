-- The results of questions (own).
use Rattle.std.specs.Prelude.{ℕ, ◌≡◌, ◌<◌, ◌≤◌, ◌++◌, ◌⊎◌, ◌&&◌, ◌||◌, Bool, true, false, not, cond, is_none, is_some, List, [], ◌∷◌, Option, Some, None, length, slice_get, take}
use Rattle.std.specs.List.{filter, list_all, list_any}
use Rattle.mcs_turns.specs.Turns.{User}
use Rattle.mcs_explore_search.specs.declared.search.Edge.{Edge}
use Rattle.mcs_explore_walk.specs.declared.walk.Turn.{Turn}
use Rattle.mcs_explore_questions.specs.declared.questions.Asked.{Asked}
use Rattle.mcs_explore_questions.specs.Asking.{is_live, is_question}
use Rattle.mcs_explore_script.specs.declared.questions.AskedLine.{AskedLine}
use Rattle.mcs_explore_report.specs.declared.findings.Judged.{Judged}
use Rattle.mcs_explore_report.specs.declared.judgement.Sighting.{Sighting}
use Rattle.mcs_explore_report.specs.declared.outcomes.Outcome.{Outcome}
use Rattle.mcs_explore_report.specs.declared.outcomes.Outcome.TheVariants as outcome
use Rattle.mcs_explore_report.specs.declared.verdicts.Verdict.{Verdict}
use Rattle.mcs_explore_report.specs.Answers.{Tables}
use Rattle.mcs_explore_report.specs.Endings.{are_idle}
use Rattle.mcs_explore_report.specs.Ends.{Kind}
use Rattle.mcs_explore_report.specs.Stuck.{IsFirstUnled, Noted, first_marks}
use Rattle.mcs_explore_report.specs.Verdicts.{IsVerdict, failed_at}

-- whether a question holds, as far as was seen
abbrev pub holds : Outcome → Bool
holds outcome.Holds = true
holds (outcome.HoldsSince why) = true
holds _ = false

-- whether something shows that it does not
abbrev pub fails : Outcome → Bool
fails outcome.Fails = true
fails _ = false

-- the result of a question that does not hold by what was found: of a search that is not whole, the
-- answer that it asks for may still come
abbrev pub missed : Bool → Option Sighting → Outcome
missed whole seen = cond (is_none seen && not whole) outcome.NotSeen outcome.Fails

-- a verdict by which a question holds, which failed first here, if it did
pub record IsHeld (users : List User) (kinds : List Kind) (tables : Tables) (f : Option Sighting) (q : Asked) : Type 0 where
  pub stuck : Option Sighting
  pub verdict : Verdict
  pub is : IsVerdict users kinds tables f stuck q verdict
  pub holds : verdict.holds ≡ true

-- each of the first n lines that is a question holds
abbrev pub AreHeldBelow : List User → List Kind → Tables → List (Option Sighting) → List AskedLine → ℕ → Type 0
AreHeldBelow users kinds tables failed questions n = (i : ℕ) (q : AskedLine) → i < n → slice_get questions i ≡ Some q → is_question q.asked ≡ true → IsHeld users kinds tables (failed_at failed i) q.asked

-- a verdict by which a question does not hold, and what shows it: something that was seen, or that
-- all states were expanded; it is stuck only where not all users are live
pub record IsMissed (users : List User) (kinds : List Kind) (tables : Tables) (f : Option Sighting) (live : Bool) (states done : ℕ) (q : Asked) : Type 0 where
  pub stuck : Option Sighting
  pub verdict : Verdict
  pub is : IsVerdict users kinds tables f stuck q verdict
  pub stuck_is : is_some stuck ≡ true → live ≡ false
  pub fails : verdict.holds ≡ false
  pub shown : (is_some verdict.seen ≡ true) ⊎ (states ≤ done)

-- one of the questions does not hold
pub record HasMissed (users : List User) (kinds : List Kind) (tables : Tables) (failed : List (Option Sighting)) (questions : List AskedLine) (live : Bool) (states done : ℕ) : Type 0 where
  pub index : ℕ
  pub line : AskedLine
  pub at : slice_get questions index ≡ Some line
  pub is : IsMissed users kinds tables (failed_at failed index) live states done line.asked

-- how many of the first n lines ask that a user never gets stuck
abbrev pub count_lives : List AskedLine → ℕ → ℕ
count_lives questions n = length (filter (λ (q : AskedLine). is_live q.asked) (take n questions))

-- where the user is stuck first of which the line with this number asks, by the first places of all
abbrev pub stuck_of : List AskedLine → List (Option ℕ) → ℕ → Option Sighting
stuck_of questions places n = elim (slice_get places (count_lives questions n)) [
  | None ↦ None
  | Some o ↦ elim o [ None ↦ None | Some place ↦ Some (record { place = place; turn = None }) ]
]

-- for each user that must not get stuck the first place from which no edges lead to an answer
pub record AreFirstPlaces (edges : List (Edge Turn)) (states : ℕ) (notes : List Noted) (count : ℕ) (places : List (Option ℕ)) : Type 0 where
  pub long : length places ≡ count
  pub each : (i : ℕ) (n : Noted) (o : Option ℕ) → slice_get notes i ≡ Some n → slice_get places i ≡ Some o → IsFirstUnled edges (first_marks states n) o

-- whether each question holds, as far as was seen
abbrev pub all_hold : List Judged → Bool
all_hold js = list_all (λ (j : Judged). holds j.outcome) js

-- whether one of them does not
abbrev pub any_fails : List Judged → Bool
any_fails js = list_any (λ (j : Judged). fails j.outcome) js

-- whether no user has a first place from which on it is stuck
abbrev pub are_live : List (Option ℕ) → Bool
are_live places = list_all is_none places

-- whether in each kind of end each user is done, or may wait there for ever
abbrev pub are_done : List AskedLine → List Kind → Bool
are_done questions kinds = list_all (λ (k : Kind). are_idle questions k.standing) kinds

-- whether something was found that is not as it is asked
abbrev pub has_failure : List Judged → List (Option ℕ) → List AskedLine → List Kind → Bool
has_failure js places questions kinds = (any_fails js || not (are_live places)) || not (are_done questions kinds)

-- a question more was judged, that of this line
pub record AddsJudged (users : List User) (kinds : List Kind) (tables : Tables) (failed : List (Option Sighting)) (questions : List AskedLine) (live : Bool) (states done number : ℕ) (old new : List Judged) : Type 0 where
  pub judged : Judged
  pub added : new ≡ old ++ judged ∷ []
  pub held : (q : AskedLine) → slice_get questions number ≡ Some q → holds judged.outcome ≡ true → IsHeld users kinds tables (failed_at failed number) q.asked
  pub missed : (q : AskedLine) → slice_get questions number ≡ Some q → fails judged.outcome ≡ true → IsMissed users kinds tables (failed_at failed number) live states done q.asked

-- one line more is judged, if it asks something that holds or not; another line is left out
pub record IsJudgedMore (users : List User) (kinds : List Kind) (tables : Tables) (failed : List (Option Sighting)) (questions : List AskedLine) (live : Bool) (states done number : ℕ) (old new : List Judged) : Type 0 where
  pub asks : (q : AskedLine) → slice_get questions number ≡ Some q → is_question q.asked ≡ true → AddsJudged users kinds tables failed questions live states done number old new
  pub other : (q : AskedLine) → slice_get questions number ≡ Some q → is_question q.asked ≡ false → new ≡ old
