-- What is kept of runs shows that a script fails.
use Rattle.std.specs.Prelude.{ℕ, ◌≡◌, ◌<◌, ◌-◌, ◌⊎◌, ◌&&◌, ◌||◌, Bool, true, false, not, is_none, is_some, unwrap_or, List, [], ◌∷◌, Option, Some, None, zero, suc, length, slice_get}
use Rattle.std.specs.List.{list_all, list_any}
use Rattle.std.proofs.Common.{refl, ap, sym, ◌∙◌, subst, inl, inr, arith}
use Rattle.mcs_book.specs.Boots.{Boot}
use Rattle.mcs_turns.specs.declared.position.Position.{Position}
use Rattle.mcs_turns.specs.Turns.{User, RunState}
use Rattle.mcs_explore_walk.specs.declared.walk.Turn.{Turn}
use Rattle.mcs_explore_walk.specs.Walks.{last_answer}
use Rattle.mcs_explore_orders.specs.Shown.{IsShown, Made, Shown}
use Rattle.mcs_explore_orders.specs.Trails.{Leads}
use Rattle.mcs_explore_questions.specs.declared.questions.Asked.{Asked}
use Rattle.mcs_explore_questions.specs.declared.questions.Asked.TheVariants as asked
use Rattle.mcs_explore_questions.specs.declared.questions.Event.{Event}
use Rattle.mcs_explore_script.specs.declared.questions.AskedLine.{AskedLine}
use Rattle.mcs_explore_script.specs.declared.script.UserScript.{UserScript}
use Rattle.mcs_explore_script.specs.UserLists.{user_of}
use Rattle.mcs_explore_report.specs.declared.answers.Witness.{Witness}
use Rattle.mcs_explore_report.specs.declared.judgement.Sighting.{Sighting}
use Rattle.mcs_explore_report.specs.declared.verdicts.Verdict.{Verdict}
use Rattle.mcs_explore_report.specs.Answers.{IsAnswerOf, IsMailed, IsOwnAnswer, Tables, table_of}
use Rattle.mcs_explore_report.specs.Endings.{are_idle}
use Rattle.mcs_explore_report.specs.Ends.{IsEndOf, Kind}
use Rattle.mcs_explore_report.specs.Failing.{FailsInRun, FailsInRuns, HasBadEnd, HasFailingQuestion, IsFailing, SomeEndLacks}
use Rattle.mcs_explore_report.specs.Found.{IsAnswered, IsSeenFrom}
use Rattle.mcs_explore_report.specs.Holding.{SomeAnswerIs}
use Rattle.mcs_explore_report.specs.Judged.{HasFailed, IsJudged, IsShownBy, IsStateShown}
use Rattle.mcs_explore_report.specs.Judging.{fails}
use Rattle.mcs_explore_report.specs.Standings.{standings}
use Rattle.mcs_explore_report.specs.Verdicts.{IsAlways, IsFoundIn, IsSearched, IsWithout, answers_of, failed_at, lacks}
use Rattle.std.proofs.lemmas.Option.{slice_get_within}
use Rattle.mcs_explore_search.proofs.Places.{within-at}
use Rattle.mcs_explore_report.proofs.Lists.{some-not}
use Rattle.mcs_explore_run.specs.Samples.{HasShownFailure, IsKeptOfRuns, IsShownToFail}

module _ (s : UserScript) (kinds : List Kind) (tables : Tables) (failed : List (Option Sighting)) (of : IsKeptOfRuns s.users s.boot s.asked.items kinds tables failed) where
  -- a kind of end that is not idle is a bad end
  bad-end : list_all (λ (k : Kind). are_idle s.asked.items k.standing) kinds ≡ false → HasBadEnd s
  bad-end all =
      let one = some-not (λ (k : Kind). are_idle s.asked.items k.standing) kinds all in
      let end = of.kept.ends.each one.place one.one one.at in
      let run = of.are.states end.number end.sight end.at in
      record { turns = run.turns; state = end.sight.run_state; run = run.run; over = run.over end.over; bad = ap (are_idle s.asked.items) end.standing ∙ one.is }

  end-lacks : (e : Event) (seen : Sighting) → IsWithout kinds e seen → SomeEndLacks s.users s.boot e
  end-lacks e seen it =
      let end = of.kept.ends.each it.index it.kind it.at in
      let run = of.are.states end.number end.sight end.at in
      record { turns = run.turns; state = end.sight.run_state; run = run.run; over = run.over end.over; lacks = ap (lacks e) end.standing ∙ it.lacks }

  answered : (user number : ℕ) (t : Witness) (m : Made) → last_answer m.run_state.book ≡ Some m.answer → m.turn ≡ t.turn → IsOwnAnswer m user number t.answer ⊎ IsMailed s.users m.from m.run_state user number m.turn t.answer
      → IsAnswered t.turn m.run_state user number t.answer ⊎ IsMailed s.users m.from m.run_state user number t.turn t.answer
  answered user number t m last same (inl own) = inl (subst (λ (u : Turn). IsAnswered u m.run_state user number t.answer) same (record { user = own.user; number = own.number; answer = last ∙ ap (λ a. Some a) own.answer }))
  answered user number t m last same (inr mail) = inr (subst (λ (u : Turn). IsMailed s.users m.from m.run_state user number u t.answer) same mail)

  -- an answer that is kept came in a run
  said-once : (e : Event) (pattern : List ℕ) (wanted : Bool) (seen : Sighting) → IsFoundIn (answers_of s.users tables e) pattern wanted seen → SomeAnswerIs s.users s.boot e pattern wanted
  said-once e pattern wanted seen it = by (user_of s.users e.thread) refl
    where
      none : Option (List Witness) → List Witness
      none o = unwrap_or o []

      at-user : (user : ℕ) → user_of s.users e.thread ≡ Some user → (o : Option (List Witness)) → table_of tables user (e.number - 1) ≡ o → slice_get (none o) it.index ≡ Some it.one → SomeAnswerIs s.users s.boot e pattern wanted
      at-user user found None is at = absurd cc
      at-user user found (Some witnesses) is at =
          let a = of.kept.answers.each user (e.number - 1) witnesses it.index it.one is at in
          let run = of.are.turns a.index a.made a.at in
          record {
            user = user;
            of = found;
            turns = run.turns;
            state = run.state;
            run = run.run;
            turn = it.one.turn;
            run_state = a.made.run_state;
            leads = subst (λ (u : Turn). Leads s.users u run.state a.made.run_state) a.turn run.turn.leads;
            answer = it.one.answer;
            is = subst (λ (ps : List Position). IsAnswered it.one.turn a.made.run_state user (e.number - 1) it.one.answer ⊎ IsMailed s.users ps a.made.run_state user (e.number - 1) it.one.turn it.one.answer) run.turn.from (answered user (e.number - 1) it.one a.made run.turn.answer a.turn a.is);
            said = it.is;
          }

      by : (o : Option ℕ) → user_of s.users e.thread ≡ o → SomeAnswerIs s.users s.boot e pattern wanted
      by None is =
          let empty : answers_of s.users tables e ≡ [] = ap (λ (p : Option ℕ). elim p [ None ↦ [] | Some i ↦ unwrap_or (table_of tables i (e.number - 1)) [] ]) is in
          let at : slice_get [] it.index ≡ Some it.one = sym (ap (λ (ts : List Witness). slice_get ts it.index) empty) ∙ it.at in
          absurd cc
      by (Some user) is =
          let same : answers_of s.users tables e ≡ none (table_of tables user (e.number - 1)) = ap (λ (p : Option ℕ). elim p [ None ↦ [] | Some i ↦ unwrap_or (table_of tables i (e.number - 1)) [] ]) is in
          at-user user is (table_of tables user (e.number - 1)) refl (sym (ap (λ (ts : List Witness). slice_get ts it.index) same) ∙ it.at)

  -- a failure that is kept came in a run
  failed-by : (q : Asked) (place : ℕ) (turn : Option Turn) (h : RunState) → IsShownBy of.shown place turn h → fails s.users q turn h ≡ true → FailsInRun s.users s.boot q
  failed-by q place None h it lacks =
      let run = of.are.states it.number it.sight it.at in
      record { turns = run.turns; state = it.sight.run_state; run = run.run; turn = None; run_state = h; is = it.run_state; fails = lacks }
  failed-by q place (Some t) h it lacks =
      let run = of.are.turns it.number it.made it.at in
      let turned = subst (λ (u : Turn). Leads s.users u run.state it.made.run_state) it.turn run.turn.leads in
      record { turns = run.turns; state = run.state; run = run.run; turn = Some t; run_state = h; is = subst (λ (x : RunState). Leads s.users t run.state x) it.run_state turned; fails = lacks }

  failed-run : (i : ℕ) (q : AskedLine) → slice_get s.asked.items i ≡ Some q → (f : Option Sighting) → failed_at failed i ≡ f → is_some f ≡ true → FailsInRun s.users s.boot q.asked
  failed-run i q at None is some = absurd cc
  failed-run i q at (Some seen) is some =
      let long = of.kept.judged.long in
      let within = slice_get_within s.asked.items i q at in
      let kept = within-at failed i (omega (arith, within, long)) in
      let same : kept.0 ≡ Some seen = sym (ap (λ (o : Option (Option Sighting)). elim o [ None ↦ None | Some g ↦ g ]) kept.1) ∙ is in
      let it : HasFailed s.users q.asked of.shown seen = of.kept.judged.each i q (Some seen) at (kept.1 ∙ ap (λ (o : Option Sighting). Some o) same) in
      failed-by q.asked seen.place seen.turn it.run_state it.is it.fails

  seen-is : (f : Option Sighting) (v : Verdict) → v ≡ record { holds = is_none f; seen = f } → is_some v.seen ≡ true → is_some f ≡ true
  seen-is f v is some = sym (ap (λ (w : Verdict). is_some w.seen) is) ∙ some

  never-seen : {B : Type 0} (b : Bool) (v : Verdict) → v ≡ record { holds = b; seen = None } → is_some v.seen ≡ true → B
  never-seen b v is some = let lacks : false ≡ true = sym (ap (λ (w : Verdict). is_some w.seen) is) ∙ some in absurd cc

  answer-fails : (e : Event) (pattern : List ℕ) (o : Option Sighting) → is_some o ≡ true → IsAlways (answers_of s.users tables e) pattern kinds e o → SomeAnswerIs s.users s.boot e pattern false ⊎ SomeEndLacks s.users s.boot e
  answer-fails e pattern None some always = absurd cc
  answer-fails e pattern (Some seen) some (inl it) = inl (said-once e pattern false seen it)
  answer-fails e pattern (Some seen) some (inr it) = inr (end-lacks e seen it)

  said-fails : (e : Event) (pattern : List ℕ) (o : Option Sighting) → is_some o ≡ true → IsSearched (answers_of s.users tables e) pattern false o → SomeAnswerIs s.users s.boot e pattern false
  said-fails e pattern None some none = absurd cc
  said-fails e pattern (Some seen) some it = said-once e pattern false seen it

  once-holds : {B : Type 0} (v : Verdict) → v.holds ≡ is_some v.seen → v.holds ≡ false → is_some v.seen ≡ true → B
  once-holds v by lacks some = let both : false ≡ true = sym lacks ∙ (by ∙ some) in absurd cc

  question-fails : (i : ℕ) (q : AskedLine) → slice_get s.asked.items i ≡ Some q → (a : Asked) → q.asked ≡ a → IsShownToFail s.users kinds tables (failed_at failed i) a → FailsInRuns s a
  question-fails i q at (asked.Idle thread entries) same it = never-seen true it.verdict it.is it.seen
  question-fails i q at (asked.Again event) same it = never-seen true it.verdict it.is it.seen
  question-fails i q at (asked.Ruled rule) same it = never-seen true it.verdict it.is it.seen
  question-fails i q at (asked.Live thread number) same it = never-seen true it.verdict it.is it.seen
  question-fails i q at (asked.Answer event pattern) same it = answer-fails event pattern.items it.verdict.seen it.seen it.is.1
  question-fails i q at (asked.AnswerIf event pattern) same it = said-fails event pattern.items it.verdict.seen it.seen it.is.1
  question-fails i q at (asked.Some event pattern) same it = once-holds it.verdict it.is.0 it.fails it.seen
  question-fails i q at (asked.Never pattern) same it = subst (λ (x : Asked). FailsInRun s.users s.boot x) same (failed-run i q at (failed_at failed i) refl (seen-is (failed_at failed i) it.verdict it.is it.seen))
  question-fails i q at (asked.Apart spans) same it = subst (λ (x : Asked). FailsInRun s.users s.boot x) same (failed-run i q at (failed_at failed i) refl (seen-is (failed_at failed i) it.verdict it.is it.seen))
  question-fails i q at (asked.Before first second) same it = subst (λ (x : Asked). FailsInRun s.users s.boot x) same (failed-run i q at (failed_at failed i) refl (seen-is (failed_at failed i) it.verdict it.is it.seen))

  one-fails : HasShownFailure s.users s.asked.items kinds tables failed → HasFailingQuestion s
  one-fails it = record { index = it.index; line = it.line; at = it.at; fails = question-fails it.index it.line it.at it.line.asked refl it.is }

  -- a script fails where something that is kept of runs shows it
  pub failing : (any : Bool) → (any ≡ true → HasShownFailure s.users s.asked.items kinds tables failed) → (any || not (list_all (λ (k : Kind). are_idle s.asked.items k.standing) kinds)) ≡ true → IsFailing s
  failing true shown is = inr (inl (one-fails (shown refl)))
  failing false shown is = inl (bad-end (lacks-all (list_all (λ (k : Kind). are_idle s.asked.items k.standing) kinds) is))
    where
      lacks-all : (b : Bool) → not b ≡ true → b ≡ false
      lacks-all true h = absurd cc
      lacks-all false h = refl
