-- What `holds` means of a script: all that it asks is so in each run of its users (own).
use Rattle.std.specs.Prelude.{ℕ, ◌≡◌, ◌-◌, ◌⊎◌, Bool, true, false, List, Option, Some, slice_get}
use Rattle.mcs_types.specs.declared.entry.Answer.{Answer}
use Rattle.mcs_book.specs.Boots.{Boot}
use Rattle.mcs_turns.specs.Turns.{User, RunState, IsOver, IsRun}
use Rattle.mcs_explore_walk.specs.declared.walk.Turn.{Turn}
use Rattle.mcs_explore_orders.specs.Trails.{Leads}
use Rattle.mcs_explore_questions.specs.declared.questions.Asked.{Asked}
use Rattle.mcs_explore_questions.specs.declared.questions.Asked.TheVariants as asked
use Rattle.mcs_explore_questions.specs.declared.questions.Event.{Event}
use Rattle.mcs_explore_script.specs.declared.questions.AskedLine.{AskedLine}
use Rattle.mcs_explore_script.specs.declared.lives.Live.{Live}
use Rattle.mcs_explore_script.specs.declared.script.UserScript.{UserScript}
use Rattle.mcs_explore_script.specs.Scripts.{IsScript}
use Rattle.mcs_explore_script.specs.UserLists.{user_of}
use Rattle.mcs_explore_report.specs.declared.modes.Mode.TheVariants.{Proved}
use Rattle.mcs_explore_report.specs.Answers.{IsMailed}
use Rattle.mcs_explore_report.specs.Endings.{are_idle}
use Rattle.mcs_explore_report.specs.Found.{IsAnswered, IsGiven, IsHeldInRuns}
use Rattle.mcs_explore_report.specs.Modes.{mode_of}
use Rattle.mcs_explore_report.specs.Standings.{standings}
use Rattle.mcs_explore_report.specs.Stuck.{IsLive}
use Rattle.mcs_explore_report.specs.Verdicts.{is_said, lacks}

-- each answer of an entry, in each run, is one that the pattern matches, or does not match, as the
-- question asks
abbrev pub AllAnswersAre : List User → Boot → Event → List ℕ → Bool → Type 0
AllAnswersAre users boot e pattern wanted = (user n : ℕ) (t : Turn) (g h : RunState) (a : Answer) → user_of users e.thread ≡ Some user → IsRun users boot n g → Leads users t g h → IsGiven users t g h user (e.number - 1) a → is_said pattern a ≡ wanted

-- each run that is over has answered an entry for good
abbrev pub EachEndIsAnswered : List User → Boot → Event → Type 0
EachEndIsAnswered users boot e = (n : ℕ) (g : RunState) → IsRun users boot n g → IsOver users g → lacks e (standings users g) ≡ false

-- some answer of an entry, in some run, is one that the pattern matches, or does not match, as the
-- question asks
pub record SomeAnswerIs (users : List User) (boot : Boot) (e : Event) (pattern : List ℕ) (wanted : Bool) : Type 0 where
  pub user : ℕ
  pub of : user_of users e.thread ≡ Some user
  pub turns : ℕ
  pub state : RunState
  pub run : IsRun users boot turns state
  pub turn : Turn
  pub run_state : RunState
  pub leads : Leads users turn state run_state
  pub answer : Answer
  pub is : IsAnswered turn run_state user (e.number - 1) answer ⊎ IsMailed users state.places run_state user (e.number - 1) turn answer
  pub said : is_said pattern answer ≡ wanted

-- a question holds in all runs; what `live` asks is among the lives of the script
abbrev pub HoldsInRuns : List User → Boot → Asked → Type 0
HoldsInRuns users boot (asked.Idle thread entries) = Unit {0}
HoldsInRuns users boot (asked.Again event) = Unit {0}
HoldsInRuns users boot (asked.Ruled rule) = Unit {0}
HoldsInRuns users boot (asked.Live thread number) = Unit {0}
HoldsInRuns users boot (asked.Answer event pattern) = AllAnswersAre users boot event pattern.items true × EachEndIsAnswered users boot event
HoldsInRuns users boot (asked.AnswerIf event pattern) = AllAnswersAre users boot event pattern.items true
HoldsInRuns users boot (asked.Some event pattern) = SomeAnswerIs users boot event pattern.items true
HoldsInRuns users boot q = IsHeldInRuns users boot q

-- a script holds: in each run that is over each user is done, or waits where a question lets it
-- wait for ever; each question holds; and from each state each user that may not get stuck can go
-- on
pub record IsHolding (s : UserScript) : Type 0 where
  pub ends : (n : ℕ) (g : RunState) → IsRun s.users s.boot n g → IsOver s.users g → are_idle s.asked.items (standings s.users g) ≡ true
  pub questions : (i : ℕ) (q : AskedLine) → slice_get s.asked.items i ≡ Some q → HoldsInRuns s.users s.boot q.asked
  pub lives : (i n : ℕ) (l : Live) (g : RunState) → slice_get s.lives.items i ≡ Some l → IsRun s.users s.boot n g → IsLive s.users l g

-- a script holds, if its states are distinguished by proved keys
abbrev pub IsProvedToHold : Bool → UserScript → Type 0
IsProvedToHold exact s = (numbered : Bool) → mode_of s.boot s.users s.asked.items exact ≡ Proved numbered → IsHolding s

-- a script was read, and it holds, if its states are
pub record HasReadHolding (exact : Bool) (left left' : Option (List ℕ)) : Type 0 where
  pub script : UserScript
  pub is : IsScript left left' script
  pub holds : IsProvedToHold exact script
