-- The result of a search that finds a failure.
use Rattle.std.specs.Prelude.{ℕ, zero, suc, ◌≡◌, ◌<◌, ◌≤◌, ◌-◌, ◌||◌, ◌&&◌, ◌⊎◌, Bool, true, false, not, is_none, is_some, List, [], ◌∷◌, Option, Some, None, length, slice_get}
use Rattle.std.specs.List.{list_all}
use Rattle.std.proofs.Common.{refl, ap, sym, ◌∙◌, subst, inl, inr, arith}
use Rattle.mcs_book.specs.Boots.{Boot}
use Rattle.mcs_turns.specs.Turns.{User, RunState}
use Rattle.mcs_explore_search.specs.declared.search.Edge.{Edge}
use Rattle.mcs_explore_search.specs.Search.{Entries, depth_at, path_of}
use Rattle.mcs_explore_walk.specs.declared.walk.Turn.{Turn}
use Rattle.mcs_explore_orders.specs.Seen.{AreFoundRuns}
use Rattle.mcs_explore_questions.specs.declared.questions.Asked.{Asked}
use Rattle.mcs_explore_questions.specs.declared.questions.Asked.TheVariants as asked
use Rattle.mcs_explore_questions.specs.declared.questions.Event.{Event}
use Rattle.mcs_explore_script.specs.declared.questions.AskedLine.{AskedLine}
use Rattle.mcs_explore_script.specs.declared.lives.Live.{Live}
use Rattle.mcs_explore_script.specs.declared.script.UserScript.{UserScript}
use Rattle.mcs_explore_report.specs.declared.judgement.Sighting.{Sighting}
use Rattle.mcs_explore_report.specs.declared.verdicts.Verdict.{Verdict}
use Rattle.mcs_explore_report.specs.Answers.{Tables}
use Rattle.mcs_explore_report.specs.Endings.{are_idle}
use Rattle.mcs_explore_report.specs.Ends.{AreRunEnds, HasKind, IsRunEnd, Kind}
use Rattle.mcs_explore_report.specs.Failing.{FailsInRun, FailsInRuns, HasBadEnd, HasFailingQuestion, HasStuckUser, IsFailing, SomeEndLacks}
use Rattle.mcs_explore_report.specs.Found.{AreAnswersFound, AreAnswersInRuns, AreEndsFound, AreJudgedFound, IsFailureFound, IsJudgedFound}
use Rattle.mcs_explore_report.specs.Holding.{AllAnswersAre, SomeAnswerIs}
use Rattle.mcs_explore_report.specs.Outcomes.{AreFirstPlaces, HasMissed, IsMissed}
use Rattle.mcs_explore_report.specs.Standings.{standings}
use Rattle.mcs_explore_report.specs.Stuck.{AreStuckUnled, Noted}
use Rattle.mcs_explore_report.specs.Verdicts.{IsAlways, IsFoundIn, IsSearched, IsWithout, answers_of, failed_at, lacks}
use Rattle.mcs_explore_report.proofs.Holding.{all-said, at-run, said-once}
use Rattle.mcs_explore_search.proofs.Places.{at-within, some-same, within-at}
use Rattle.mcs_explore_report.proofs.Lists.{some-not}
use Rattle.mcs_explore_report.proofs.Stuck.{first-marks-long}

some-of : {A : Type 0} (o : Option A) → is_none o ≡ false → (x : A) × (o ≡ Some x)
some-of None h = absurd cc
some-of (Some x) h = (x, refl)

-- ends that a search kept are those of runs
pub kept-ends : {K : Type 0} (users : List User) (boot : Boot) (found : Entries K Turn) (done : ℕ) (kinds : List Kind) → AreEndsFound users boot found done kinds → AreRunEnds users boot kinds
kept-ends users boot found done kinds are = λ standing has.
    let e = are.each has.0 has.1.kind has.1.at in
    record {
      turns = length (path_of found has.1.kind.place);
      state = e.run_state;
      run = at-run users boot found has.1.kind.place e.run_state e.is;
      over = e.over;
      is = e.standing ∙ has.1.same;
    }

-- a kind that is not idle is a bad end
bad-end : (s : UserScript) (ends : List Kind) → AreRunEnds s.users s.boot ends → list_all (λ (k : Kind). are_idle s.asked.items k.standing) ends ≡ false → HasBadEnd s
bad-end s ends real all =
    let one = some-not (λ (k : Kind). are_idle s.asked.items k.standing) ends all in
    let e : IsRunEnd s.users s.boot one.one.standing = real one.one.standing (one.place, record { kind = one.one; at = one.at; same = refl }) in
    record { turns = e.turns; state = e.state; run = e.run; over = e.over; bad = ap (are_idle s.asked.items) e.is ∙ one.is }

-- a first place from which no edges lead to an answer is that of a run in which a user is stuck
stuck-user : {K : Type 0} (s : UserScript) (found : Entries K Turn) (edges : List (Edge Turn)) (notes : List Noted) (places : List (Option ℕ)) → AreFoundRuns s.users s.boot found → AreStuckUnled s.users s.boot s.lives.items found edges notes
    → AreFirstPlaces edges (length found) notes (length s.lives.items) places → list_all is_none places ≡ false → HasStuckUser s
stuck-user s found edges notes places runs stuck first all =
    let one = some-not is_none places all in
    let place = some-of one.one one.is in
    let long = first.long in
    let notes_long = stuck.long in
    let in_places = at-within places one.place one.one one.at in
    let live = within-at s.lives.items one.place (omega (arith, in_places, long)) in
    let note = within-at notes one.place (omega (arith, in_places, long, notes_long)) in
    let there : slice_get places one.place ≡ Some (Some place.0) = one.at ∙ ap (λ (o : Option ℕ). Some o) place.1 in
    let unled = first.each one.place note.0 (Some place.0) note.1 there in
    let within : place.0 < length found = subst (λ (n : ℕ). place.0 < n) (first-marks-long (length found) note.0) unled.0 in
    let run = runs place.0 within in
    record {
      index = one.place;
      live = live.0;
      at = live.1;
      turns = depth_at found place.0;
      state = run.0;
      run = run.1.run;
      stuck = stuck.each one.place live.0 note.0 place.0 run.0 live.1 note.1 within unled.1.0 run.1.path;
    }

module _ {K : Type 0} (s : UserScript) (found : Entries K Turn) (done : ℕ) (ends : List Kind) (tables : Tables) (failed : List (Option Sighting)) (real : AreRunEnds s.users s.boot ends) (answers : AreAnswersFound s.users s.boot found done tables)
    (in_runs : length found ≤ done → AreAnswersInRuns s.users s.boot tables) (judged : AreJudgedFound s.users s.boot found done s.asked.items failed) (live : Bool) (stuck : live ≡ false → HasStuckUser s) where
  end-lacks : (e : Event) (seen : Sighting) → IsWithout ends e seen → SomeEndLacks s.users s.boot e
  end-lacks e seen it =
      let end : IsRunEnd s.users s.boot it.kind.standing = real it.kind.standing (it.index, record { kind = it.kind; at = it.at; same = refl }) in
      record { turns = end.turns; state = end.state; run = end.run; over = end.over; lacks = ap (lacks e) end.is ∙ it.lacks }

  -- a question that failed somewhere
  failed-run : (i : ℕ) (q : AskedLine) → slice_get s.asked.items i ≡ Some q → (f : Option Sighting) → failed_at failed i ≡ f → is_none f ≡ false → FailsInRun s.users s.boot q.asked
  failed-run i q at None is none = absurd cc
  failed-run i q at (Some seen) is none =
      let long = judged.long in
      let within = at-within s.asked.items i q at in
      let kept = within-at failed i (omega (arith, within, long)) in
      let same : kept.0 ≡ Some seen = sym (ap (λ (o : Option (Option Sighting)). elim o [ None ↦ None | Some g ↦ g ]) kept.1) ∙ is in
      let it : IsFailureFound s.users s.boot found done q.asked seen = judged.each i q (Some seen) at (kept.1 ∙ ap (λ (o : Option Sighting). Some o) same) in
      record {
        turns = length (path_of found seen.place);
        state = it.state;
        run = at-run s.users s.boot found seen.place it.state it.at;
        turn = seen.turn;
        run_state = it.run_state;
        is = it.is;
        fails = it.fails;
      }

  not-held : (f : Option Sighting) (v : Verdict) → v ≡ record { holds = is_none f; seen = f } → v.holds ≡ false → is_none f ≡ false
  not-held f v is fails = sym (ap (λ (w : Verdict). w.holds) is) ∙ fails

  always-holds : (v : Verdict) → v ≡ record { holds = true; seen = None } → v.holds ≡ false → ⊥
  always-holds v is fails = let no : true ≡ false = sym (ap (λ (w : Verdict). w.holds) is) ∙ fails in absurd cc

  is-stuck : (o : Option Sighting) → (is_some o ≡ true → live ≡ false) → is_none o ≡ false → HasStuckUser s
  is-stuck None is none = absurd cc
  is-stuck (Some seen) is none = stuck (is refl)

  answer-fails : (e : Event) (pattern : List ℕ) (v : Verdict) → v.holds ≡ false → v.holds ≡ is_none v.seen → (o : Option Sighting) → v.seen ≡ o → IsAlways (answers_of s.users tables e) pattern ends e o
      → SomeAnswerIs s.users s.boot e pattern false ⊎ SomeEndLacks s.users s.boot e
  answer-fails e pattern v fails by None is always = let no : true ≡ false = sym (ap (λ (o : Option Sighting). is_none o) is) ∙ (sym by ∙ fails) in absurd cc
  answer-fails e pattern v fails by (Some seen) is (inl it) = inl (said-once s.users s.boot found done tables answers e pattern false seen it)
  answer-fails e pattern v fails by (Some seen) is (inr it) = inr (end-lacks e seen it)

  said-fails : (e : Event) (pattern : List ℕ) (v : Verdict) → v.holds ≡ false → v.holds ≡ is_none v.seen → (o : Option Sighting) → v.seen ≡ o → IsSearched (answers_of s.users tables e) pattern false o → SomeAnswerIs s.users s.boot e pattern false
  said-fails e pattern v fails by None is none = let no : true ≡ false = sym (ap (λ (o : Option Sighting). is_none o) is) ∙ (sym by ∙ fails) in absurd cc
  said-fails e pattern v fails by (Some seen) is it = said-once s.users s.boot found done tables answers e pattern false seen it

  none-said : (e : Event) (pattern : List ℕ) (v : Verdict) → v.holds ≡ false → v.holds ≡ is_some v.seen → (is_some v.seen ≡ true) ⊎ (length found ≤ done) → (o : Option Sighting) → v.seen ≡ o → IsSearched (answers_of s.users tables e) pattern true o
      → AllAnswersAre s.users s.boot e pattern false
  none-said e pattern v fails by (inl seen) o is it = let no : true ≡ false = sym seen ∙ (sym by ∙ fails) in absurd cc
  none-said e pattern v fails by (inr all) None is none = all-said s.users s.boot tables (in_runs all) e pattern false none
  none-said e pattern v fails by (inr all) (Some seen) is it = let no : true ≡ false = sym (ap (λ (o : Option Sighting). is_some o) is) ∙ (sym by ∙ fails) in absurd cc

  -- a question does not hold in all runs of which a verdict says so
  question-fails : (i : ℕ) (q : AskedLine) → slice_get s.asked.items i ≡ Some q → (a : Asked) → q.asked ≡ a → IsMissed s.users ends tables (failed_at failed i) live (length found) done a → FailsInRuns s a
  question-fails i q at (asked.Idle thread entries) same it = always-holds it.verdict it.is it.fails
  question-fails i q at (asked.Again event) same it = always-holds it.verdict it.is it.fails
  question-fails i q at (asked.Ruled rule) same it = always-holds it.verdict it.is it.fails
  question-fails i q at (asked.Live thread number) same it = is-stuck it.stuck it.stuck_is (not-held it.stuck it.verdict it.is it.fails)
  question-fails i q at (asked.Answer event pattern) same it = answer-fails event pattern.items it.verdict it.fails it.is.0 it.verdict.seen refl it.is.1
  question-fails i q at (asked.AnswerIf event pattern) same it = said-fails event pattern.items it.verdict it.fails it.is.0 it.verdict.seen refl it.is.1
  question-fails i q at (asked.Some event pattern) same it = none-said event pattern.items it.verdict it.fails it.is.0 it.shown it.verdict.seen refl it.is.1
  question-fails i q at (asked.Never pattern) same it = subst (λ (x : Asked). FailsInRun s.users s.boot x) same (failed-run i q at (failed_at failed i) refl (not-held (failed_at failed i) it.verdict it.is it.fails))
  question-fails i q at (asked.Apart spans) same it = subst (λ (x : Asked). FailsInRun s.users s.boot x) same (failed-run i q at (failed_at failed i) refl (not-held (failed_at failed i) it.verdict it.is it.fails))
  question-fails i q at (asked.Before first second) same it = subst (λ (x : Asked). FailsInRun s.users s.boot x) same (failed-run i q at (failed_at failed i) refl (not-held (failed_at failed i) it.verdict it.is it.fails))

  pub one-fails : HasMissed s.users ends tables failed s.asked.items live (length found) done → HasFailingQuestion s
  one-fails it = record { index = it.index; line = it.line; at = it.at; fails = question-fails it.index it.line it.at it.line.asked refl it.is }

-- what of a failure there is
which : (fails live done : Bool) → ((fails || not live) || not done) ≡ true → (fails ≡ true) ⊎ ((live ≡ false) ⊎ (done ≡ false))
which true live done any = inl refl
which false false done any = inr (inl refl)
which false true false any = inr (inr refl)
which false true true any = absurd cc

-- a script fails where a search shows a failure
pub failing : {K : Type 0} (s : UserScript) (found : Entries K Turn) (done : ℕ) (edges : List (Edge Turn)) (notes : List Noted) (places : List (Option ℕ)) (ends : List Kind) (tables : Tables) (failed : List (Option Sighting))
    → AreFoundRuns s.users s.boot found → AreRunEnds s.users s.boot ends → AreAnswersFound s.users s.boot found done tables → (length found ≤ done → AreAnswersInRuns s.users s.boot tables) → AreJudgedFound s.users s.boot found done s.asked.items failed
    → AreStuckUnled s.users s.boot s.lives.items found edges notes → AreFirstPlaces edges (length found) notes (length s.lives.items) places → (fails : Bool)
    → (fails ≡ true → HasMissed s.users ends tables failed s.asked.items (list_all is_none places) (length found) done)
    → ((fails || not (list_all is_none places)) || not (list_all (λ (k : Kind). are_idle s.asked.items k.standing) ends)) ≡ true → IsFailing s
failing s found done edges notes places ends tables failed runs real answers in_runs judged stuck first fails missed any = by (which fails (list_all is_none places) (list_all (λ (k : Kind). are_idle s.asked.items k.standing) ends) any)
  where
    stuck-one : list_all is_none places ≡ false → HasStuckUser s
    stuck-one not_live = stuck-user s found edges notes places runs stuck first not_live

    by : (fails ≡ true) ⊎ ((list_all is_none places ≡ false) ⊎ (list_all (λ (k : Kind). are_idle s.asked.items k.standing) ends ≡ false)) → IsFailing s
    by (inl is) = inr (inl (one-fails s found done ends tables failed real answers in_runs judged (list_all is_none places) stuck-one (missed is)))
    by (inr (inl is)) = inr (inr (stuck-one is))
    by (inr (inr is)) = inl (bad-end s ends real is)
