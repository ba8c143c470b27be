-- What is kept of all that was shown.
use Rattle.std.specs.Prelude.{ℕ, zero, suc, ◌≡◌, ◌<◌, ◌≤◌, ◌++◌, ◌⊎◌, Bool, true, replicate, List, [], ◌∷◌, Option, Some, None, Result, Ok, Err, length, slice_get}
use Rattle.std.specs.Result.{OnOk}
use Rattle.std.proofs.Common.{refl, ap, sym, ◌∙◌, subst, inl, inr, arith}
use Rattle.mcs_types.specs.declared.entry.Answer.{Answer}
use Rattle.mcs_types.specs.declared.entry.Answer.TheVariants as answer
use Rattle.mcs_book.specs.Boots.{Boot}
use Rattle.mcs_turns.specs.declared.position.Position.{Position}
use Rattle.mcs_turns.specs.Turns.{User, RunState, IsOver, beginning}
use Rattle.mcs_explore_search.specs.Paths.{Path}
use Rattle.mcs_explore_search.specs.Search.{Entries, path_of, paths_below}
use Rattle.mcs_explore_walk.specs.declared.walk.Turn.{Turn}
use Rattle.mcs_explore_walk.specs.Walks.{last_answer}
use Rattle.mcs_explore_orders.specs.Trails.{Leads}
use Rattle.mcs_explore_orders.specs.Shown.{AreShown, Counting, HasCounted, HasSeenAll, Made, Shown, SeenState, nothing, with_state, with_turn, IsTurnOf}
use Rattle.mcs_explore_orders.proofs.Paths.{path-one}
use Rattle.mcs_explore_report.specs.declared.answers.Witness.{Witness}
use Rattle.mcs_explore_questions.specs.declared.questions.Asked.{Asked}
use Rattle.mcs_explore_questions.specs.declared.questions.Asked.TheVariants as asked
use Rattle.mcs_explore_script.specs.declared.questions.AskedLine.{AskedLine}
use Rattle.mcs_explore_report.specs.declared.judgement.Sighting.{Sighting}
use Rattle.mcs_turns.specs.declared.reached.Reached.{Reached}
use Rattle.mcs_explore_report.specs.Judging.{fails}
use Rattle.mcs_explore_report.specs.Judged.{AreJudged, AreJudgedBy, IsJudged, IsShownBy}
use Rattle.mcs_explore_report.specs.Standings.{standings}
use Rattle.mcs_explore_report.specs.Ends.{AreEndsOf, IsKindAt, IsNotedIf, Kind}
use Rattle.mcs_explore_report.specs.Answers.{AreAnswersOf, AreNotedMail, IsAmong, IsAnswerOf, IsNotedTurn, IsOwnAnswer, IsMailed, Tables, no_answers, table_of}
use Rattle.mcs_turns.specs.Mail.{brought}
use Rattle.mcs_explore_report.specs.Firsts.{HasGiven, IsStateBefore, IsTurnBefore}
use Rattle.mcs_explore_report.specs.Kept.{IsKept}
use Rattle.mcs_explore_report.specs.Found.{AreAnswersFound, AreCountedFound, AreEndsFound, AreJudgedFound, IsAnswerFound, IsAnswered, IsAt, IsEndFound, IsFailureFound, IsGiven, IsJudgedFound, IsMailFound, IsSeenFrom, AreFirstFound}
use Rattle.mcs_explore_search.proofs.Places.{at-last, at-old, at-split, within-at, some-same}
use Rattle.mcs_explore_report.proofs.Firsts.{answers-first, ends-first, state-failures, turn-failures}
use Rattle.mcs_explore_report.proofs.Judgments.{judged-more, none-judged, state-look, turn-look}
use Rattle.mcs_explore_report.proofs.Noting.{no-ends, state-noted}
use Rattle.mcs_explore_report.proofs.Telling.{mail-more, mail-noted, no-mail, no-turns, turn-noted}

-- a state more
pub kept-state : {E : Type 0} (r : Result (Unit {0}) E) (users : List User) (questions : List AskedLine) (place : ℕ) (g : RunState) (over : Bool) (old new : List Kind) (tables : Tables) (failed after : List (Option Sighting))
    → AreJudgedBy users questions (record { place = place; turn = None }) g failed after → OnOk r (IsNotedIf over (standings users g) place old new)
    → OnOk r ((shown : Shown) → IsKept users questions shown old tables failed → IsKept users questions (with_state place g over shown) new tables after)
kept-state (Err e) users questions place g over old new tables failed after by noted = noted
kept-state (Ok x) users questions place g over old new tables failed after by noted = λ shown kept. record {
  ends = state-noted users shown.states old new place g over noted kept.ends;
  answers = kept.answers;
  mail = kept.mail;
  judged = judged-more users questions (record { place = place; turn = None }) g shown (with_state place g over shown) (state-look users place g over shown) failed after by kept.judged;
  first = record {
    ends = ends-first users shown.states old new place g over kept.ends kept.first.ends noted;
    answers = kept.first.answers;
    failures = state-failures users questions shown place g over failed after by kept.judged kept.first.failures;
  };
}

-- a turn more
pub kept-turn : {E : Type 0} (r : Result (Unit {0}) E) (users : List User) (questions : List AskedLine) (place : ℕ) (t : Turn) (a : Answer) (from : List Position) (h : RunState) (kinds : List Kind) (start mid after : Tables) (failed then : List (Option Sighting))
    → AreJudgedBy users questions (record { place = place; turn = Some t }) h failed then → IsNotedTurn (record { answer = a; place = place; turn = t }) start mid
    → (all : List Reached) → all ≡ brought h.book → OnOk r (AreNotedMail users from place t all mid after)
    → OnOk r ((shown : Shown) → IsKept users questions shown kinds start failed → IsKept users questions (with_turn place t a from h shown) kinds after then)
kept-turn (Err e) users questions place t a from h kinds start mid after failed then by noted all is noted_mail = noted_mail
kept-turn (Ok x) users questions place t a from h kinds start mid after failed then by noted all is noted_mail = λ shown kept.
    let mail : AreNotedMail users from place t (brought h.book) mid after = subst (λ (rs : List Reached). AreNotedMail users from place t rs mid after) is noted_mail in
    let m : Made = record { place = place; turn = t; answer = a; from = from; run_state = h } in
    let own = turn-noted users shown.turns start mid m noted kept.answers in
    record {
      ends = kept.ends;
      answers = mail-noted users (shown.turns ++ m ∷ []) (length shown.turns) m (at-last shown.turns m) (brought h.book) mid after (λ i r there. (i, there)) mail own;
      mail = mail-more users shown.turns m start mid after noted mail kept.mail;
      judged = judged-more users questions (record { place = place; turn = Some t }) h shown (with_turn place t a from h shown) (turn-look users place t a from h shown) failed then by kept.judged;
      first = record {
        ends = kept.first.ends;
        answers = answers-first users shown.turns m start mid after noted mail kept.answers kept.mail kept.first.answers;
        failures = turn-failures users questions shown place t a from h failed then by kept.judged kept.first.failures;
      };
    }

one-longer : {A : Type 0} (xs : List A) (x : A) → length (xs ++ x ∷ []) ≡ suc (length xs)
one-longer [] x = refl
one-longer (y ∷ xs) x = ap (λ n. suc n) (one-longer xs x)

pub paths-long : {K L : Type 0} (found : Entries K L) (n : ℕ) → length (paths_below found n) ≡ n
paths-long found zero = refl
paths-long found (suc n) = one-longer (paths_below found n) (path_of found n) ∙ ap (λ k. suc k) (paths-long found n)

-- the paths of the first places
pub at-paths : {K L : Type 0} (found : Entries K L) (n i : ℕ) → i < n → slice_get (paths_below found n) i ≡ Some (path_of found i)
at-paths found zero i lt = absurd (omega (arith, lt))
at-paths found (suc n) i lt = go (below-or i n lt) (λ b. at-paths found n i b)
  where
    below-or : (i n : ℕ) → i < suc n → (i ≡ n) ⊎ (i < n)
    below-or zero zero lt = inl refl
    below-or zero (suc n) lt = inr (omega arith)
    below-or (suc i) zero lt = absurd (omega (arith, lt))
    below-or (suc i) (suc n) lt = up (below-or i n (omega (arith, lt)))
      where
        up : (i ≡ n) ⊎ (i < n) → (suc i ≡ suc n) ⊎ (suc i < suc n)
        up (inl e) = inl (ap (λ k. suc k) e)
        up (inr b) = inr (omega (arith, b))

    go : (i ≡ n) ⊎ (i < n) → (i < n → slice_get (paths_below found n) i ≡ Some (path_of found i)) → slice_get (paths_below found n ++ path_of found n ∷ []) i ≡ Some (path_of found i)
    go (inl e) before =
        ap (λ k. slice_get (paths_below found n ++ path_of found n ∷ []) k) (e ∙ sym (paths-long found n)) ∙ at-last (paths_below found n) (path_of found n) ∙ ap (λ k. Some (path_of found k)) (sym e)
    go (inr b) before = at-old (paths_below found n) (path_of found n ∷ []) i (path_of found i) (before b)

-- and nothing else
paths-at : {K L : Type 0} (found : Entries K L) (n i : ℕ) (p : List L) → slice_get (paths_below found n) i ≡ Some p → (i < n) × (p ≡ path_of found i)
paths-at found zero i p at = absurd cc
paths-at found (suc n) i p at = go (at-split (paths_below found n) (path_of found n) i p at) (λ h. paths-at found n i p h)
  where
    go : (slice_get (paths_below found n) i ≡ Some p) ⊎ ((i ≡ length (paths_below found n)) × (p ≡ path_of found n)) → (slice_get (paths_below found n) i ≡ Some p → (i < n) × (p ≡ path_of found i)) → (i < suc n) × (p ≡ path_of found i)
    go (inl h) before = let r = before h in let lt = r.0 in (omega (arith, lt), r.1)
    go (inr e) before = let is = e.0 ∙ paths-long found n in (omega (arith, is), e.1 ∙ ap (λ k. path_of found k) (sym is))

-- the positions before a turn that was shown are those of the state from which it leads
pub made-from : {K : Type 0} (users : List User) (boot : Boot) (found : Entries K Turn) (done place : ℕ) (g : RunState) (m : Made) → place < done → IsAt users boot found place g → m.place ≡ place → IsTurnOf users (beginning users boot) (paths_below found done) m → m.from ≡ g.places
made-from users boot found done place g m lt at here is =
    let path : is.path ≡ path_of found place = some-same is.path (path_of found place) (sym is.at ∙ ap (λ (k : ℕ). slice_get (paths_below found done) k) here ∙ at-paths found done place lt) in
    is.turn.from ∙ ap (λ (x : RunState). x.places) (path-one users (beginning users boot) (path_of found place) is.state g (subst (λ ls. Path (Leads users) (beginning users boot) ls is.state) path is.leads) at)

-- what such a turn delivered
mail-of : (users : List User) (m : Made) (t : Turn) (from : List Position) (h : RunState) (user number : ℕ) (a : Answer) → m.from ≡ from → m.turn ≡ t → m.run_state ≡ h → IsMailed users from h user number t a → IsMailed users m.from m.run_state user number m.turn a
mail-of users m t from h user number a same turn run_state mail =
    subst (λ (ps : List Position). IsMailed users ps m.run_state user number m.turn a) (sym same) (subst (λ (x : RunState). IsMailed users from x user number m.turn a) (sym run_state) (subst (λ (u : Turn). IsMailed users from h user number u a) (sym turn) mail))

-- what is found of all that is kept
pub record AreFound {K : Type 0} (users : List User) (boot : Boot) (found : Entries K Turn) (done : ℕ) (questions : List AskedLine) (kinds : List Kind) (tables : Tables) (failed : List (Option Sighting)) : Type 0 where
  pub ends : AreEndsFound users boot found done kinds
  pub answers : AreAnswersFound users boot found done tables
  pub mail : IsMailFound users boot found done tables
  pub judged : AreJudgedFound users boot found done questions failed
  pub first : AreFirstFound users boot found done questions kinds tables failed

-- a question fails in states, or by turns
one-kind : (users : List User) (q : Asked) (g h : RunState) (t : Turn) → fails users q None g ≡ true → fails users q (Some t) h ≡ true → ⊥
one-kind users (asked.Apart spans) g h t in_state by_turn = absurd cc
one-kind users _ g h t in_state by_turn = absurd cc

module _ {K : Type 0} (users : List User) (boot : Boot) (found : Entries K Turn) (done : ℕ) (questions : List AskedLine) (ends : List Kind) (tables : Tables) (failed : List (Option Sighting)) (shown : Shown)
    (kept : IsKept users questions shown ends tables failed) (are : AreShown users (beginning users boot) (paths_below found done) shown) where
  -- a state that was shown is that in its place
  ends-found : AreEndsFound users boot found done ends
  ends-found = record { each = each; all = all; apart = kept.ends.apart }
    where
      each : (i : ℕ) (k : Kind) → slice_get ends i ≡ Some k → IsEndFound users boot found done k
      each i k at =
          let e = kept.ends.each i k at in
          let s = are.states e.number e.sight e.at in
          let p = paths-at found done e.number s.path s.at in
          let place : e.number ≡ k.place = sym s.place ∙ e.place in
          record {
            within = subst (λ n. n < done) place p.0;
            run_state = e.sight.run_state;
            is = subst (λ ls. Path (Leads users) (beginning users boot) ls e.sight.run_state) (p.1 ∙ ap (λ n. path_of found n) place) s.leads;
            over = s.over.0 e.over;
            standing = e.standing;
          }

      all : (place : ℕ) (g : RunState) → place < done → IsAt users boot found place g → IsOver users g → (i : ℕ) × IsKindAt ends (standings users g) i
      all place g lt at over =
          let s = within-at shown.states place (let long = are.long in let paths = paths-long found done in omega (arith, long, paths, lt)) in
          let is = are.states place s.0 s.1 in
          let path : is.path ≡ path_of found place = some-same is.path (path_of found place) (sym is.at ∙ at-paths found done place lt) in
          let same : s.0.run_state ≡ g = path-one users (beginning users boot) (path_of found place) s.0.run_state g (subst (λ ls. Path (Leads users) (beginning users boot) ls s.0.run_state) path is.leads) at in
          subst (λ x. (i : ℕ) × IsKindAt ends (standings users x) i) same (kept.ends.all place s.0 s.1 (is.over.1 (subst (λ x. IsOver users x) (sym same) over)))

  -- a turn that was shown is one from the state in its place
  answers-found : AreAnswersFound users boot found done tables
  answers-found = record { entries = kept.answers.entries; each = each; all = all }
    where
      each : (user number : ℕ) (witnesses : List Witness) (i : ℕ) (t : Witness) → table_of tables user number ≡ Some witnesses → slice_get witnesses i ≡ Some t → IsAnswerFound users boot found done user number t
      each user number witnesses i t at there =
          let a = kept.answers.each user number witnesses i t at there in
          let m = are.turns a.index a.made a.at in
          let p = paths-at found done a.made.place m.path m.at in
          record {
            within = subst (λ n. n < done) a.place p.0;
            state = m.state;
            run_state = a.made.run_state;
            at = subst (λ ls. Path (Leads users) (beginning users boot) ls m.state) (p.1 ∙ ap (λ n. path_of found n) a.place) m.leads;
            turn = subst (λ u. Leads users u m.state a.made.run_state) a.turn m.turn.leads;
            is = subst (λ (ps : List Position). IsAnswered t.turn a.made.run_state user number t.answer ⊎ IsMailed users ps a.made.run_state user number t.turn t.answer) m.turn.from (is a m.turn.answer a.is);
          }
        where
          is : (a : IsAnswerOf users shown.turns user number t) → last_answer a.made.run_state.book ≡ Some a.made.answer → IsOwnAnswer a.made user number t.answer ⊎ IsMailed users a.made.from a.made.run_state user number a.made.turn t.answer
              → IsAnswered t.turn a.made.run_state user number t.answer ⊎ IsMailed users a.made.from a.made.run_state user number t.turn t.answer
          is a said (inl own) = inl (record {
            user = ap (λ (u : Turn). u.pick.user) (sym a.turn) ∙ own.user;
            number = ap (λ (u : Turn). u.pick.number) (sym a.turn) ∙ own.number;
            answer = said ∙ ap (λ x. Some x) own.answer;
          })
          is a said (inr mail) = inr (subst (λ u. IsMailed users a.made.from a.made.run_state user number u t.answer) a.turn mail)

      all : (place : ℕ) (t : Turn) (g h : RunState) (a : Answer) (witnesses : List Witness) → place < done → IsAt users boot found place g → Leads users t g h → last_answer h.book ≡ Some a → (a ≡ answer.Waits → ⊥)
          → table_of tables t.pick.user t.pick.number ≡ Some witnesses → IsAmong witnesses a
      all place t g h a witnesses lt at step answered not there =
          let s = are.all place (path_of found place) g h t (at-paths found done place lt) at step in
          let m = are.turns s.number s.made s.at in
          let is : s.made.answer ≡ a = some-same s.made.answer a (sym m.turn.answer ∙ ap (λ (x : RunState). last_answer x.book) s.run_state ∙ answered) in
          subst (λ x. IsAmong witnesses x) is (kept.answers.all s.number s.made witnesses s.at (λ w. not (sym is ∙ w)) (ap (λ (u : Turn). table_of tables u.pick.user u.pick.number) s.turn ∙ there))

  mail-found : IsMailFound users boot found done tables
  mail-found = λ place t g h user number a witnesses lt at step mail there.
      let s = are.all place (path_of found place) g h t (at-paths found done place lt) at step in
      let from = made-from users boot found done place g s.made lt at s.place (are.turns s.number s.made s.at) in
      kept.mail s.number s.made user number a witnesses s.at (mail-of users s.made t g.places h user number a from s.turn s.run_state mail) there

  -- a question failed in a state that was found, or by a turn from one
  judged-found : AreJudgedFound users boot found done questions failed
  judged-found = record { long = kept.judged.long; each = λ i q f asks at. one q.asked f (kept.judged.each i q f asks at) }
    where
      by-look : (q : Asked) (place : ℕ) (t : Option Turn) (h : RunState) → IsShownBy shown place t h → fails users q t h ≡ true → IsFailureFound users boot found done q (record { place = place; turn = t })
      by-look q place None h is failed_it =
          let s = are.states is.number is.sight is.at in
          let p = paths-at found done is.number s.path s.at in
          let here : is.number ≡ place = sym s.place ∙ is.place in
          record {
            within = subst (λ n. n < done) here p.0;
            state = is.sight.run_state;
            at = subst (λ ls. Path (Leads users) (beginning users boot) ls is.sight.run_state) (p.1 ∙ ap (λ n. path_of found n) here) s.leads;
            run_state = h;
            is = is.run_state;
            fails = failed_it;
          }
      by-look q place (Some t) h is failed_it =
          let m = are.turns is.number is.made is.at in
          let p = paths-at found done is.made.place m.path m.at in
          record {
            within = subst (λ n. n < done) is.place p.0;
            state = m.state;
            at = subst (λ ls. Path (Leads users) (beginning users boot) ls m.state) (p.1 ∙ ap (λ n. path_of found n) is.place) m.leads;
            run_state = h;
            is = subst (λ x. Leads users t m.state x) is.run_state (subst (λ u. Leads users u m.state is.made.run_state) is.turn m.turn.leads);
            fails = failed_it;
          }

      one : (q : Asked) (f : Option Sighting) → IsJudged users q shown f → IsJudgedFound users boot found done q f
      one q (Some seen) is = by-look q seen.place seen.turn is.run_state is.is is.fails
      one q None held = record {
        states = λ place g lt at.
            let s = within-at shown.states place (let long = are.long in let paths = paths-long found done in omega (arith, long, paths, lt)) in
            let is = are.states place s.0 s.1 in
            let path : is.path ≡ path_of found place = some-same is.path (path_of found place) (sym is.at ∙ at-paths found done place lt) in
            let same : s.0.run_state ≡ g = path-one users (beginning users boot) (path_of found place) s.0.run_state g (subst (λ ls. Path (Leads users) (beginning users boot) ls s.0.run_state) path is.leads) at in
            ap (λ x. fails users q None x) (sym same) ∙ held.states place s.0 s.1;
        turns = λ place t g h lt at step.
            let s = are.all place (path_of found place) g h t (at-paths found done place lt) at step in
            ap (λ u. fails users q (Some u) h) (sym s.turn) ∙ ap (λ x. fails users q (Some s.made.turn) x) (sym s.run_state) ∙ held.turns s.number s.made s.at;
      }

  -- the state to which a path leads was shown in its place
  state-at : (place : ℕ) (g : RunState) → place < done → IsAt users boot found place g → (s : SeenState) × ((slice_get shown.states place ≡ Some s) × (s.run_state ≡ g))
  state-at place g lt at =
      let s = within-at shown.states place (let long = are.long in let paths = paths-long found done in omega (arith, long, paths, lt)) in
      let is = are.states place s.0 s.1 in
      let path : is.path ≡ path_of found place = some-same is.path (path_of found place) (sym is.at ∙ at-paths found done place lt) in
      (s.0, (s.1, path-one users (beginning users boot) (path_of found place) s.0.run_state g (subst (λ ls. Path (Leads users) (beginning users boot) ls s.0.run_state) path is.leads) at))

  -- what was shown before it has no later place
  state-low : (place j : ℕ) → IsStateBefore shown.states place j → place ≤ j
  state-low place j b = let at = (are.states b.number b.sight b.at).place in let is = b.there in let before = b.before in omega (arith, at, is, before)

  turn-low : (place number : ℕ) (m : Made) → slice_get shown.turns number ≡ Some m → IsTurnBefore shown.turns place number → place ≤ m.place
  turn-low place number m at b = let low = are.sorted b.number number b.made m b.before b.at at in let is = b.there in omega (arith, low, is)

  first-found : AreFirstFound users boot found done questions ends tables failed
  first-found = record { ends = first_end; answers = first_answer; failures = first_failure }
    where
      first_end : (i place : ℕ) (k : Kind) (g : RunState) → slice_get ends i ≡ Some k → place < done → IsAt users boot found place g → IsOver users g → standings users g ≡ k.standing → k.place ≤ place
      first_end i place k g at lt is over stands =
          let s = state-at place g lt is in
          let is_over = (are.states place s.0 s.1.0).over.1 (subst (λ x. IsOver users x) (sym s.1.1) over) in
          state-low k.place place (kept.first.ends i place k s.0 at s.1.0 is_over (ap (λ x. standings users x) s.1.1 ∙ stands))

      first_answer : (user number i place : ℕ) (witnesses : List Witness) (t : Witness) (u : Turn) (g h : RunState) → table_of tables user number ≡ Some witnesses → slice_get witnesses i ≡ Some t → place < done → IsAt users boot found place g → Leads users u g h
          → IsGiven users u g h user number t.answer → t.place ≤ place
      first_answer user number i place witnesses t u g h at there lt is leads given =
          let s = are.all place (path_of found place) g h u (at-paths found done place lt) is leads in
          let m = are.turns s.number s.made s.at in
          let low = turn-low t.place s.number s.made s.at (kept.first.answers user number i s.number witnesses t s.made at there s.at (gave s.made (made-from users boot found done place g s.made lt is s.place m) s.turn s.run_state m.turn.answer given)) in
          let here = s.place in
          omega (arith, low, here)
        where
          gave : (n : Made) → n.from ≡ g.places → n.turn ≡ u → n.run_state ≡ h → last_answer n.run_state.book ≡ Some n.answer → IsGiven users u g h user number t.answer → HasGiven users n user number t.answer
          gave n from turn run_state answered (inl own) = inl (
            record {
              user = ap (λ (v : Turn). v.pick.user) turn ∙ own.0.user;
              number = ap (λ (v : Turn). v.pick.number) turn ∙ own.0.number;
              answer = some-same n.answer t.answer (sym answered ∙ ap (λ (x : RunState). last_answer x.book) run_state ∙ own.0.answer);
            },
            own.1,
          )
          gave n from turn run_state answered (inr mail) = inr (mail-of users n u g.places h user number t.answer from turn run_state mail)

      first_failure : (i place : ℕ) (q : AskedLine) (seen : Sighting) (t : Option Turn) (g h : RunState) → slice_get questions i ≡ Some q → slice_get failed i ≡ Some (Some seen) → place < done → IsAt users boot found place g → IsSeenFrom users g t h
          → fails users q.asked t h ≡ true → seen.place ≤ place
      first_failure i place q seen t g h asks at lt is from fails_it = go t seen.turn refl from fails_it
        where
          failed_it : fails users q.asked seen.turn (kept.judged.each i q (Some seen) asks at).run_state ≡ true
          failed_it = (kept.judged.each i q (Some seen) asks at).fails

          kept_so : (x : Option Turn) → seen.turn ≡ x → slice_get failed i ≡ Some (Some (record { place = seen.place; turn = x }))
          kept_so x e = at ∙ ap (λ (y : Option Turn). Some (Some (record { place = seen.place; turn = y }))) e

          go : (t x : Option Turn) → seen.turn ≡ x → IsSeenFrom users g t h → fails users q.asked t h ≡ true → seen.place ≤ place
          go None None e from fails_it =
              let s = state-at place g lt is in
              state-low seen.place place (kept.first.failures.states i place seen.place q s.0 asks (kept_so None e) s.1.0 (ap (λ y. fails users q.asked None y) (s.1.1 ∙ from) ∙ fails_it))
          go None (Some v) e from fails_it = absurd (one-kind users q.asked h (kept.judged.each i q (Some seen) asks at).run_state v fails_it (ap (λ (y : Option Turn). fails users q.asked y (kept.judged.each i q (Some seen) asks at).run_state) (sym e) ∙ failed_it))
          go (Some v) None e from fails_it = absurd (one-kind users q.asked (kept.judged.each i q (Some seen) asks at).run_state h v (ap (λ (y : Option Turn). fails users q.asked y (kept.judged.each i q (Some seen) asks at).run_state) (sym e) ∙ failed_it) fails_it)
          go (Some v) (Some w) e from fails_it =
              let s = are.all place (path_of found place) g h v (at-paths found done place lt) is from in
              let low = turn-low seen.place s.number s.made s.at (kept.first.failures.turns i s.number seen.place w q s.made asks (kept_so (Some w) e) s.at (ap (λ u. fails users q.asked (Some u) s.made.run_state) s.turn ∙ ap (λ y. fails users q.asked (Some v) y) s.run_state ∙ fails_it)) in
              let here = s.place in
              omega (arith, low, here)

  -- all that is kept
  pub all-found : AreFound users boot found done questions ends tables failed
  all-found = record { ends = ends-found; answers = answers-found; mail = mail-found; judged = judged-found; first = first-found }

-- before the search
pub begun-kept : (users : List User) (questions : List AskedLine) (ends : List Kind) (tables : Tables) (failed : List (Option Sighting)) → ends ≡ [] → tables ≡ no_answers users → failed ≡ replicate (length questions) None → IsKept users questions nothing ends tables failed
begun-kept users questions ends tables failed none empty none_failed = record {
  ends = subst (λ (ks : List Kind). AreEndsOf users [] ks) (sym none) (no-ends users);
  answers = subst (λ (ts : Tables). AreAnswersOf users [] ts) (sym empty) (no-turns users);
  mail = no-mail users tables;
  judged = subst (λ (fs : List (Option Sighting)). AreJudged users questions nothing fs) (sym none_failed) (none-judged users questions);
  first = record { ends = λ i j k s at there. absurd cc; answers = λ a b i j witnesses t m at there shown. absurd cc; failures = record { states = λ i j p q s asks at there. absurd cc; turns = λ i j p t q m asks at there. absurd cc } };
}

-- what is kept after it
module _ {K W : Type 0} {Has : W → List User → Shown → Type 0} {w : Counting W} (users : List User) (boot : Boot) (found : Entries K Turn) (done : ℕ) (seen : HasSeenAll (HasCounted Has) w users (beginning users boot) (paths_below found done)) where
  pub kept-found : (questions : List AskedLine) (kinds : List Kind) (tables : Tables) (failed : List (Option Sighting)) → ((shown : Shown) → Has w.watch users shown → IsKept users questions shown kinds tables failed)
      → AreFound users boot found done questions kinds tables failed
  kept-found questions kinds tables failed is = all-found users boot found done questions kinds tables failed seen.shown (is seen.shown seen.has.has) seen.are

  pub counted-found : AreCountedFound users boot found done w.turns w.ends
  counted-found = record { shown = seen.shown; are = seen.are; counted = seen.has.counted }
