-- The result of a whole search in which every question holds.
use Rattle.std.specs.Prelude.{ℕ, zero, suc, ◌≡◌, ◌<◌, ◌-◌, Bool, true, false, not, is_none, is_some, unwrap_or, List, [], ◌∷◌, Option, Some, None, length, slice_get}
use Rattle.std.specs.List.{list_all}
use Rattle.std.proofs.Common.{refl, ap, sym, ◌∙◌, subst, inl, inr, arith}
use Rattle.std.proofs.lemmas.Bool.{and_parts}
use Rattle.mcs_types.specs.declared.entry.Answer.{Answer}
use Rattle.mcs_book.specs.Boots.{Boot}
use Rattle.mcs_turns.specs.Turns.{User, RunState, IsOver, IsRun, beginning}
use Rattle.mcs_explore_search.specs.declared.search.Edge.{Edge}
use Rattle.mcs_explore_search.specs.Search.{Entries, path_of}
use Rattle.mcs_explore_search.proofs.Paths.{path-run}
use Rattle.mcs_explore_walk.specs.declared.walk.Turn.{Turn}
use Rattle.mcs_explore_orders.specs.Trails.{Leads}
use Rattle.mcs_explore_orders.proofs.Whole.{steps-run}
use Rattle.mcs_explore_questions.specs.declared.questions.Asked.{Asked}
use Rattle.mcs_explore_questions.specs.declared.questions.Asked.TheVariants as asked
use Rattle.mcs_explore_questions.specs.declared.questions.Event.{Event}
use Rattle.mcs_explore_questions.specs.Asking.{is_question}
use Rattle.mcs_explore_script.specs.declared.questions.AskedLine.{AskedLine}
use Rattle.mcs_explore_script.specs.declared.lives.Live.{Live}
use Rattle.mcs_explore_script.specs.declared.script.UserScript.{UserScript}
use Rattle.mcs_explore_script.specs.UserLists.{user_of}
use Rattle.mcs_explore_report.specs.declared.answers.Witness.{Witness}
use Rattle.mcs_explore_report.specs.declared.judgement.Sighting.{Sighting}
use Rattle.mcs_explore_report.specs.declared.verdicts.Verdict.{Verdict}
use Rattle.mcs_explore_report.specs.Answers.{Tables, table_of}
use Rattle.mcs_explore_report.specs.Endings.{are_idle}
use Rattle.mcs_explore_report.specs.Ends.{HasKind, Kind}
use Rattle.mcs_explore_report.specs.Found.{AreAnswersFound, AreAnswersInRuns, AreEndsInRuns, AreHeldInRuns, IsAt, IsGiven, IsHeldInRuns, IsKeptOf}
use Rattle.mcs_explore_report.specs.Holding.{AllAnswersAre, EachEndIsAnswered, HoldsInRuns, IsHolding, SomeAnswerIs}
use Rattle.mcs_explore_report.specs.Outcomes.{AreFirstPlaces, AreHeldBelow, IsHeld}
use Rattle.mcs_explore_report.specs.Standings.{standings}
use Rattle.mcs_explore_report.specs.Stuck.{AreDecided, IsLive, Noted}
use Rattle.mcs_explore_report.specs.Verdicts.{HasEach, IsAlways, IsFoundIn, IsNotIn, IsSearched, answers_of, failed_at, is_said, lacks}
use Rattle.mcs_explore_search.proofs.Places.{at-within, some-same, within-at}

pub all-at : {A : Type 0} (f : A → Bool) (xs : List A) (i : ℕ) (x : A) → slice_get xs i ≡ Some x → list_all f xs ≡ true → f x ≡ true
all-at f [] i x at all = absurd cc
all-at f (y ∷ ys) zero x at all = sym (ap f (some-same y x at)) ∙ (and_parts _ _ all).0
all-at f (y ∷ ys) (suc i) x at all = all-at f ys i x at (and_parts _ _ all).1

pub none-of : {A : Type 0} (o : Option A) → is_none o ≡ true → o ≡ None
none-of None h = refl
none-of (Some x) h = absurd cc

is-or : (b wanted : Bool) → (b ≡ not wanted → ⊥) → b ≡ wanted
is-or true true other = refl
is-or true false other = absurd (other refl)
is-or false true other = absurd (other refl)
is-or false false other = refl

-- a state at the end of a path is that of a run
pub at-run : {K : Type 0} (users : List User) (boot : Boot) (found : Entries K Turn) (place : ℕ) (g : RunState) → IsAt users boot found place g → IsRun users boot (length (path_of found place)) g
at-run users boot found place g at = steps-run users boot (length (path_of found place)) g (path-run (Leads users) (beginning users boot) (path_of found place) g at)

-- where each run that is over ends as one of these kinds says, and each of them is idle, so is each
-- run's end
pub all-idle : (users : List User) (boot : Boot) (questions : List AskedLine) (ends : List Kind) → AreEndsInRuns users boot ends
    → list_all (λ (k : Kind). are_idle questions k.standing) ends ≡ true → (n : ℕ) (g : RunState) → IsRun users boot n g → IsOver users g → are_idle questions (standings users g) ≡ true
all-idle users boot questions ends in_runs all n g run over =
    let end : HasKind ends (standings users g) = in_runs n g run over in
    ap (are_idle questions) (sym end.1.same) ∙ all-at (λ (k : Kind). are_idle questions k.standing) ends end.0 end.1.kind end.1.at all

-- ends that are kept are among these, so these are those of runs too
pub ends-among : (users : List User) (boot : Boot) (kept ends : List Kind) → AreEndsInRuns users boot kept → ((i : ℕ) (k : Kind) → slice_get kept i ≡ Some k → HasKind ends k.standing) → AreEndsInRuns users boot ends
ends-among users boot kept ends in_runs has = λ n g run over.
    let end : HasKind kept (standings users g) = in_runs n g run over in
    let there : HasKind ends end.1.kind.standing = has end.0 end.1.kind end.1.at in
    (there.0, record { kind = there.1.kind; at = there.1.at; same = there.1.same ∙ end.1.same })

-- where none of the users that may not get stuck has a first place, none does
pub all-live : {K : Type 0} (users : List User) (boot : Boot) (lives : List Live) (found : Entries K Turn) (edges : List (Edge Turn)) (notes : List Noted) (places : List (Option ℕ)) → AreDecided users boot lives found edges notes
    → AreFirstPlaces edges (length found) notes (length lives) places → list_all is_none places ≡ true → (i n : ℕ) (l : Live) (g : RunState) → slice_get lives i ≡ Some l → IsRun users boot n g → IsLive users l g
all-live users boot lives found edges notes places decided first all i n l g at run =
    let within = at-within lives i l at in
    let long = decided.long in
    let as_long = first.long in
    let note = within-at notes i (omega (arith, within, long)) in
    let place = within-at places i (omega (arith, within, as_long)) in
    let none : place.0 ≡ None = none-of place.0 (all-at is_none places i place.0 place.1 all) in
    let there : slice_get places i ≡ Some None = place.1 ∙ ap (λ (o : Option ℕ). Some o) none in
    decided.each i l note.0 None at note.1 (first.each i note.0 None note.1 there) n g run

-- the answers that are kept of an entry
module _ (users : List User) (tables : Tables) where
  pub kept-of : (e : Event) (user : ℕ) (witnesses : List Witness) → user_of users e.thread ≡ Some user → table_of tables user (e.number - 1) ≡ Some witnesses → answers_of users tables e ≡ witnesses
  kept-of e user witnesses of at = by (user_of users e.thread) (table_of tables user (e.number - 1)) of at
    where
      by : (o : Option ℕ) (t : Option (List Witness)) → o ≡ Some user → t ≡ Some witnesses → elim o [ None ↦ [] | Some i ↦ unwrap_or (table_of tables i (e.number - 1)) [] ] ≡ witnesses
      by o t is there = ap (λ (p : Option ℕ). elim p [ None ↦ [] | Some i ↦ unwrap_or (table_of tables i (e.number - 1)) [] ]) is ∙ ap (λ (p : Option (List Witness)). unwrap_or p []) at

-- each answer is kept
module _ (users : List User) (boot : Boot) (tables : Tables) (in_runs : AreAnswersInRuns users boot tables) where
  kept : (user number n : ℕ) (t : Turn) (g h : RunState) (a : Answer) → IsRun users boot n g → Leads users t g h → IsGiven users t g h user number a → IsKeptOf tables user number a
  kept user number n t g h a run turn (inl own) =
      subst (λ (i : ℕ). IsKeptOf tables i number a) own.0.user (subst (λ (m : ℕ). IsKeptOf tables t.pick.user m a) own.0.number (in_runs.own n t g h a run turn own.0.answer own.1))
  kept user number n t g h a run turn (inr mail) = in_runs.mail n t g h user number a run turn mail

  -- where none is kept that is not so, each is so
  pub all-said : (e : Event) (pattern : List ℕ) (wanted : Bool) → IsNotIn (answers_of users tables e) pattern (not wanted) (length (answers_of users tables e)) → AllAnswersAre users boot e pattern wanted
  all-said e pattern wanted none = λ user n t g h a of run turn given.
      let k = kept user (e.number - 1) n t g h a run turn given in
      let same : answers_of users tables e ≡ k.witnesses = kept-of users tables e user k.witnesses of k.at in
      let there : slice_get (answers_of users tables e) k.among.place ≡ Some k.among.one = ap (λ (ts : List Witness). slice_get ts k.among.place) same ∙ k.among.at in
      ap (is_said pattern) (sym k.among.same) ∙ is-or (is_said pattern k.among.one.answer) wanted (none k.among.place k.among.one (at-within (answers_of users tables e) k.among.place k.among.one there) there)

-- an answer that is kept came in some run
module _ {K : Type 0} (users : List User) (boot : Boot) (found : Entries K Turn) (done : ℕ) (tables : Tables) (answers : AreAnswersFound users boot found done tables) where
  pub said-once : (e : Event) (pattern : List ℕ) (wanted : Bool) (seen : Sighting) → IsFoundIn (answers_of users tables e) pattern wanted seen → SomeAnswerIs users boot e pattern wanted
  said-once e pattern wanted seen it = by (user_of users e.thread) refl
    where
      none : Option (List Witness) → List Witness
      none o = unwrap_or o []

      at-user : (user : ℕ) → user_of users e.thread ≡ Some user → (o : Option (List Witness)) → table_of tables user (e.number - 1) ≡ o → slice_get (none o) it.index ≡ Some it.one → SomeAnswerIs users boot e pattern wanted
      at-user user of None is at = absurd cc
      at-user user of (Some witnesses) is at =
          let a = answers.each user (e.number - 1) witnesses it.index it.one is at in
          record {
            user = user;
            of = of;
            turns = length (path_of found it.one.place);
            state = a.state;
            run = at-run users boot found it.one.place a.state a.at;
            turn = it.one.turn;
            run_state = a.run_state;
            leads = a.turn;
            answer = it.one.answer;
            is = a.is;
            said = it.is;
          }

      by : (o : Option ℕ) → user_of users e.thread ≡ o → SomeAnswerIs users boot e pattern wanted
      by None is =
          let empty : answers_of users tables e ≡ [] = ap (λ (p : Option ℕ). elim p [ None ↦ [] | Some i ↦ unwrap_or (table_of tables i (e.number - 1)) [] ]) is in
          let at : slice_get [] it.index ≡ Some it.one = sym (ap (λ (ts : List Witness). slice_get ts it.index) empty) ∙ it.at in
          absurd cc
      by (Some user) is =
          let same : answers_of users tables e ≡ none (table_of tables user (e.number - 1)) = ap (λ (p : Option ℕ). elim p [ None ↦ [] | Some i ↦ unwrap_or (table_of tables i (e.number - 1)) [] ]) is in
          at-user user is (table_of tables user (e.number - 1)) refl (sym (ap (λ (ts : List Witness). slice_get ts it.index) same) ∙ it.at)

module _ {K : Type 0} (users : List User) (boot : Boot) (found : Entries K Turn) (done : ℕ) (kinds : List Kind) (tables : Tables) (ends : AreEndsInRuns users boot kinds) (answers : AreAnswersFound users boot found done tables)
    (in_runs : AreAnswersInRuns users boot tables) where
  always-answered : (e : Event) → HasEach kinds e (length kinds) → EachEndIsAnswered users boot e
  always-answered e each = λ n g run over.
      let end : HasKind kinds (standings users g) = ends n g run over in
      ap (lacks e) (sym end.1.same) ∙ each end.0 end.1.kind (at-within kinds end.0 end.1.kind end.1.at) end.1.at

  answer-holds : (e : Event) (pattern : List ℕ) (v : Verdict) → v.holds ≡ true → v.holds ≡ is_none v.seen → (o : Option Sighting) → v.seen ≡ o → IsAlways (answers_of users tables e) pattern kinds e o → AllAnswersAre users boot e pattern true × EachEndIsAnswered users boot e
  answer-holds e pattern v holds by None is always = (all-said users boot tables in_runs e pattern true always.0, always-answered e always.1)
  answer-holds e pattern v holds by (Some seen) is always = let no : false ≡ true = sym (ap (λ (o : Option Sighting). is_none o) is) ∙ (sym by ∙ holds) in absurd cc

  said-holds : (e : Event) (pattern : List ℕ) (v : Verdict) → v.holds ≡ true → v.holds ≡ is_none v.seen → (o : Option Sighting) → v.seen ≡ o → IsSearched (answers_of users tables e) pattern false o → AllAnswersAre users boot e pattern true
  said-holds e pattern v holds by None is none = all-said users boot tables in_runs e pattern true none
  said-holds e pattern v holds by (Some seen) is found = let no : false ≡ true = sym (ap (λ (o : Option Sighting). is_none o) is) ∙ (sym by ∙ holds) in absurd cc

  once-holds : (e : Event) (pattern : List ℕ) (v : Verdict) → v.holds ≡ true → v.holds ≡ is_some v.seen → (o : Option Sighting) → v.seen ≡ o → IsSearched (answers_of users tables e) pattern true o → SomeAnswerIs users boot e pattern true
  once-holds e pattern v holds by None is none = let no : false ≡ true = sym (ap (λ (o : Option Sighting). is_some o) is) ∙ (sym by ∙ holds) in absurd cc
  once-holds e pattern v holds by (Some seen) is it = said-once users boot found done tables answers e pattern true seen it

  -- a question that did not fail, by the verdict on it
  not-failed : (f : Option Sighting) (v : Verdict) → v ≡ record { holds = is_none f; seen = f } → v.holds ≡ true → f ≡ None
  not-failed f v is holds = none-of f (sym (ap (λ (w : Verdict). w.holds) is) ∙ holds)

  -- a question holds in all runs of which a verdict says that it does
  pub question-holds : (f : Option Sighting) (q : Asked) → IsHeld users kinds tables f q → (f ≡ None → IsHeldInRuns users boot q) → HoldsInRuns users boot q
  question-holds f (asked.Idle thread entries) it held = tt
  question-holds f (asked.Live thread number) it held = tt
  question-holds f (asked.Answer event pattern) it held = answer-holds event pattern.items it.verdict it.holds it.is.0 it.verdict.seen refl it.is.1
  question-holds f (asked.AnswerIf event pattern) it held = said-holds event pattern.items it.verdict it.holds it.is.0 it.verdict.seen refl it.is.1
  question-holds f (asked.Some event pattern) it held = once-holds event pattern.items it.verdict it.holds it.is.0 it.verdict.seen refl it.is.1
  question-holds f (asked.Never pattern) it held = held (not-failed f it.verdict it.is it.holds)
  question-holds f (asked.Apart spans) it held = held (not-failed f it.verdict it.is it.holds)
  question-holds f (asked.Before first second) it held = held (not-failed f it.verdict it.is it.holds)
  question-holds f (asked.Again event) it held = tt
  question-holds f (asked.Ruled rule) it held = tt

-- what asks nothing that holds or does not
not-asked : (users : List User) (boot : Boot) (q : Asked) → is_question q ≡ false → HoldsInRuns users boot q
not-asked users boot (asked.Idle thread entries) h = tt
not-asked users boot (asked.Live thread number) h = absurd cc
not-asked users boot (asked.Answer event pattern) h = absurd cc
not-asked users boot (asked.AnswerIf event pattern) h = absurd cc
not-asked users boot (asked.Some event pattern) h = absurd cc
not-asked users boot (asked.Never pattern) h = absurd cc
not-asked users boot (asked.Apart spans) h = absurd cc
not-asked users boot (asked.Before first second) h = absurd cc
not-asked users boot (asked.Again event) h = tt
not-asked users boot (asked.Ruled rule) h = tt

-- where a question did not fail, that is what is kept of it
failed-none : (failed : List (Option Sighting)) (i : ℕ) → i < length failed → failed_at failed i ≡ None → slice_get failed i ≡ Some None
failed-none failed i within none =
    let f = within-at failed i within in
    f.1 ∙ ap (λ (o : Option Sighting). Some o) (sym (ap (λ (o : Option (Option Sighting)). elim o [ None ↦ None | Some g ↦ g ]) f.1) ∙ none)

-- a script holds where a whole search shows no failure, no end with a user that may not wait there
-- for ever, and no user that gets stuck
pub holding : {K : Type 0} (s : UserScript) (found : Entries K Turn) (done : ℕ) (edges : List (Edge Turn)) (notes : List Noted) (places : List (Option ℕ)) (ends : List Kind) (tables : Tables) (failed : List (Option Sighting))
    → AreEndsInRuns s.users s.boot ends → AreAnswersFound s.users s.boot found done tables → AreAnswersInRuns s.users s.boot tables → AreHeldInRuns s.users s.boot s.asked.items failed → length failed ≡ length s.asked.items
    → AreDecided s.users s.boot s.lives.items found edges notes → AreFirstPlaces edges (length found) notes (length s.lives.items) places
    → list_all (λ (k : Kind). are_idle s.asked.items k.standing) ends ≡ true → list_all is_none places ≡ true → AreHeldBelow s.users ends tables failed s.asked.items (length s.asked.items) → IsHolding s
holding s found done edges notes places ends tables failed in_runs answers answers_in_runs held long decided first idle live judged = record {
  ends = all-idle s.users s.boot s.asked.items ends in_runs idle;
  questions = λ i q at. by i q at (is_question q.asked) refl;
  lives = all-live s.users s.boot s.lives.items found edges notes places decided first live;
}
  where
    by : (i : ℕ) (q : AskedLine) → slice_get s.asked.items i ≡ Some q → (b : Bool) → is_question q.asked ≡ b → HoldsInRuns s.users s.boot q.asked
    by i q at false is = not-asked s.users s.boot q.asked is
    by i q at true is =
        let within = at-within s.asked.items i q at in
        question-holds s.users s.boot found done ends tables in_runs answers answers_in_runs (failed_at failed i) q.asked (judged i q within at is) (λ none. held i q at (failed-none failed i (omega (arith, within, long)) none))
