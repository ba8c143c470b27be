-- What fails nowhere in what was found fails in no run.
use Rattle.std.specs.Prelude.{ℕ, ◌≡◌, ◌≤◌, ◌&&◌, ◌||◌, Bool, true, false, not, length, List, [], ◌∷◌, Option, Some, None, slice_get}
use Rattle.std.specs.List.{list_all, list_any}
use Rattle.std.proofs.Common.{refl, ap, ◌∙◌, arith}
use Rattle.mcs_types.specs.declared.id.ObjId.{ObjId}
use Rattle.mcs_types.specs.declared.id.CoreId.{CoreId}
use Rattle.mcs_types.specs.declared.entry.Answer.{Answer}
use Rattle.mcs_types.specs.declared.entry.Step.{Step}
use Rattle.mcs_types.specs.declared.record.Status.{Status}
use Rattle.mcs_book.specs.Boots.{Boot, IsFaultless}
use Rattle.mcs_book.specs.History.{log_of, line_for}
use Rattle.mcs_book.specs.Messages.{next_message}
use Rattle.mcs_book.specs.Pieces.{Outcome}
use Rattle.mcs_book.specs.Statuses.{status_of}
use Rattle.mcs_text.specs.Reading.{words_of}
use Rattle.mcs_text.specs.Table.{answer_text}
use Rattle.mcs_turns.specs.declared.position.Position.{Position}
use Rattle.mcs_turns.specs.declared.position.Pick.{Pick}
use Rattle.mcs_turns.specs.Turns.{User, RunState, AreInRange, IsRun, IsTurn, entered, given, outcome}
use Rattle.mcs_explore_equivalence.proofs.Asking.{status-same}
use Rattle.mcs_explore_equivalence.specs.ButNumbers.{SameButNumbers}
use Rattle.mcs_explore_equivalence.proofs.Likenesses.{by-likeness}
use Rattle.mcs_explore_search.specs.Search.{Entries}
use Rattle.mcs_explore_equivalence.specs.Runs.{AreAlike}
use Rattle.mcs_explore_equivalence.proofs.Alikes.{other, places_after}
use Rattle.mcs_explore_equivalence.proofs.Outcomes.{same-outcomes, exact-outcomes}
use Rattle.mcs_explore_walk.specs.declared.walk.Turn.{Turn}
use Rattle.mcs_explore_orders.specs.Seen.{AreAllSeen}
use Rattle.mcs_explore_orders.specs.Trails.{Leads}
use Rattle.mcs_explore_questions.specs.declared.questions.Asked.{Asked}
use Rattle.mcs_explore_questions.specs.declared.questions.Asked.TheVariants as asked
use Rattle.mcs_explore_questions.specs.declared.questions.Event.{Event}
use Rattle.mcs_explore_questions.specs.declared.questions.Span.{Span}
use Rattle.mcs_explore_script.specs.declared.questions.AskedLine.{AskedLine}
use Rattle.mcs_explore_report.specs.declared.judgement.Sighting.{Sighting}
use Rattle.mcs_explore_report.specs.Judging.{IsDecided, NameNone, answered_by, fails, gives, has_given, is_in, is_line, is_within, line_texts, record_lines, last_texts}
use Rattle.mcs_explore_script.specs.UserLists.{user_of}
use Rattle.mcs_explore_report.proofs.Blinds.{lines-blind}
use Rattle.mcs_explore_report.specs.Found.{AreHeldInRuns, AreJudgedFound, IsHeldFound, IsHeldInRuns}

-- runs with the same statuses and places have the same users in spans
module _ (users : List User) (g h : RunState) (places : g.places ≡ h.places) (statuses : (t : ObjId) → status_of (log_of g.book) t ≡ status_of (log_of h.book) t) where
  abbrev within_at : RunState → Span → Option User → ℕ → Bool
  within_at x s o i = elim o [ None ↦ false | Some u ↦ elim (slice_get x.places i) [ None ↦ false | Some p ↦ is_within s (status_of (log_of x.book) u.thread) p ] ]

  abbrev is_of : RunState → Span → Option ℕ → Bool
  is_of x s o = elim o [ None ↦ false | Some i ↦ within_at x s (slice_get users i) i ]

  within-same : (s : Span) (o : Option User) (i : ℕ) → within_at g s o i ≡ within_at h s o i
  within-same s None i = refl
  within-same s (Some u) i = go (slice_get g.places i) (slice_get h.places i) (ap (λ (ps : List Position). slice_get ps i) places)
    where
      by : Option Status → Option Position → Bool
      by st o = elim o [ None ↦ false | Some p ↦ is_within s st p ]

      go : (o p : Option Position) → o ≡ p → by (status_of (log_of g.book) u.thread) o ≡ by (status_of (log_of h.book) u.thread) p
      go o p e = ap (by (status_of (log_of g.book) u.thread)) e ∙ ap (λ st. by st p) (statuses u.thread)

  -- and as many entries of each user answered
  abbrev answered_at : RunState → Option User → ℕ → ℕ
  answered_at x o i = elim o [ None ↦ 0 | Some u ↦ elim (slice_get x.places i) [ None ↦ 0 | Some p ↦ answered_by (status_of (log_of x.book) u.thread) p ] ]

  pub answered-same : (o : Option User) (i : ℕ) → answered_at g o i ≡ answered_at h o i
  answered-same None i = refl
  answered-same (Some u) i = go (slice_get g.places i) (slice_get h.places i) (ap (λ (ps : List Position). slice_get ps i) places)
    where
      by : Option Status → Option Position → ℕ
      by st o = elim o [ None ↦ 0 | Some p ↦ answered_by st p ]

      go : (o p : Option Position) → o ≡ p → by (status_of (log_of g.book) u.thread) o ≡ by (status_of (log_of h.book) u.thread) p
      go o p e = ap (by (status_of (log_of g.book) u.thread)) e ∙ ap (λ st. by st p) (statuses u.thread)

  span-same : (s : Span) → is_in users g s ≡ is_in users h s
  span-same s = go (user_of users s.thread)
    where
      go : (o : Option ℕ) → is_of g s o ≡ is_of h s o
      go None = refl
      go (Some i) = within-same s (slice_get users i) i

  spans-same : (ss : List Span) → list_all (is_in users g) ss ≡ list_all (is_in users h) ss
  spans-same [] = refl
  spans-same (s ∷ ss) = ap (λ b. b && list_all (is_in users g) ss) (span-same s) ∙ ap (λ b. is_in users h s && b) (spans-same ss)

  pub state-same : (q : Asked) → fails users q None g ≡ fails users q None h
  state-same (asked.Apart spans) = spans-same spans.items
  state-same _ = refl

-- runs with the same places have the same entries given
given-same : (users : List User) (g h : RunState) → g.places ≡ h.places → (e : Event) → has_given users g e ≡ has_given users h e
given-same users g h places e = ap (λ (ps : List Position). has_given users (record g { places = ps }) e) places

-- alike runs: the same turn leads from both to what is reported the same
module _ (numbered : Bool) (users : List User) (boot : Boot) (whole : IsFaultless boot) (range : AreInRange users) (g h : RunState) (a : AreAlike numbered users boot g h) (core : CoreId) (k : Pick) (t : RunState) (turn : IsTurn users core k g t) where
  abbrev pub step : Step
  step = record { core = core; thread = turn.user.thread; entry = given g turn.user k turn.entry }

  abbrev pub then_g : RunState
  then_g = entered users turn.picks turn.user step k g

  abbrev pub then_h : RunState
  then_h = entered users turn.picks turn.user step k h

  pub there : IsTurn users core k h then_h
  there = other numbered users boot whole range g h a core k t turn

  pub same : SameButNumbers (outcome g.book step) (outcome h.book step)
  same = same-outcomes numbered users boot whole range g h a core k t turn

  pub places-same : then_g.places ≡ then_h.places
  places-same = places_after numbered users boot whole range g h a core k t turn

  -- a pattern that names no message matches the lines of both
  blind : (pattern : List ℕ) → NameNone (words_of pattern) → list_any (is_line pattern) (last_texts then_g.book) ≡ list_any (is_line pattern) (last_texts then_h.book)
  blind pattern none =
      ap (λ (x : Answer). is_line pattern (answer_text x) || list_any (is_line pattern) (record_lines (next_message (log_of g.book)) (outcome g.book step).records)) same.answer
      ∙ ap (λ b. is_line pattern (answer_text (outcome h.book step).answer) || b) (lines-blind pattern none (outcome g.book step).records (outcome h.book step).records (next_message (log_of g.book)) (next_message (log_of h.book)) same.records)

-- where numbers are distinguished, each pattern does
texts-same : (users : List User) (boot : Boot) (whole : IsFaultless boot) (range : AreInRange users) (g h : RunState) (a : AreAlike true users boot g h) (core : CoreId) (k : Pick) (t : RunState) (turn : IsTurn users core k g t)
    → last_texts (then_g true users boot whole range g h a core k t turn).book ≡ last_texts (then_h true users boot whole range g h a core k t turn).book
texts-same users boot whole range g h a core k t turn =
    ap (λ n. line_texts n (line_for s (outcome g.book s))) a.close.logs.sent ∙ ap (λ (o : Outcome). line_texts (next_message (log_of h.book)) (line_for s o)) (exact-outcomes users boot whole range g h a core k t turn)
  where
    s : Step
    s = step true users boot whole range g h a core k t turn

pub turn-same : (numbered : Bool) (users : List User) (boot : Boot) (whole : IsFaultless boot) (range : AreInRange users) (g h : RunState) (a : AreAlike numbered users boot g h) (core : CoreId) (k : Pick) (t : RunState) (turn : IsTurn users core k g t)
    → (q : Asked) → IsDecided numbered q → (u : Turn) → fails users q (Some u) (then_g numbered users boot whole range g h a core k t turn) ≡ fails users q (Some u) (then_h numbered users boot whole range g h a core k t turn)
turn-same true users boot whole range g h a core k t turn (asked.Never pattern) d u = ap (λ ls. list_any (is_line pattern.items) ls) (texts-same users boot whole range g h a core k t turn)
turn-same false users boot whole range g h a core k t turn (asked.Never pattern) d u = blind false users boot whole range g h a core k t turn pattern.items d
turn-same numbered users boot whole range g h a core k t turn (asked.Before first second) d u =
    ap (λ b. gives users u second && not b) (given-same users (then_g numbered users boot whole range g h a core k t turn) (then_h numbered users boot whole range g h a core k t turn) (places-same numbered users boot whole range g h a core k t turn) first)
turn-same numbered users boot whole range g h a core k t turn _ d u = refl

module _ {K : Type 0} (numbered : Bool) (users : List User) (boot : Boot) (whole : IsFaultless boot) (range : AreInRange users) (found : Entries K Turn) (done : ℕ) (all : length found ≤ done) (seen : AreAllSeen numbered users boot found) (q : Asked) (decided : IsDecided numbered q) (held : IsHeldFound users boot found done q) where
  held-state : (n : ℕ) (g : RunState) → IsRun users boot n g → fails users q None g ≡ false
  held-state n g run =
      let s = seen n g run in
      let within = s.within in
      state-same users g s.run_state s.like.close.places (λ t. status-same (log_of g.book) (log_of s.run_state.book) ((by-likeness numbered).numbers (log_of g.book) (log_of s.run_state.book) s.like.close.logs) t) q
      ∙ held.states s.place s.run_state (omega (arith, within, all)) s.is.path

  held-turn : (n : ℕ) (t : Turn) (g h : RunState) → IsRun users boot n g → Leads users t g h → fails users q (Some t) h ≡ false
  held-turn n t g h run turn =
      let s = seen n g run in
      let within = s.within in
      ap (λ x. fails users q (Some t) x) turn.after
      ∙ turn-same numbered users boot whole range g s.run_state s.like t.core t.pick h turn q decided t
      ∙ held.turns s.place t s.run_state (then_h numbered users boot whole range g s.run_state s.like t.core t.pick h turn) (omega (arith, within, all)) s.is.path (there numbered users boot whole range g s.run_state s.like t.core t.pick h turn)

  held-runs : IsHeldInRuns users boot q
  held-runs = record { states = held-state; turns = held-turn }

-- so it is with each question, where such states decide it
pub all-held : {K : Type 0} (numbered : Bool) (users : List User) (boot : Boot) (found : Entries K Turn) (done : ℕ) (questions : List AskedLine) (failed : List (Option Sighting)) → AreJudgedFound users boot found done questions failed
    → IsFaultless boot → AreInRange users → length found ≤ done → AreAllSeen numbered users boot found → ((i : ℕ) (q : AskedLine) → slice_get questions i ≡ Some q → IsDecided numbered q.asked) → AreHeldInRuns users boot questions failed
all-held numbered users boot found done questions failed judged whole range all seen decided = λ i q asks at. held-runs numbered users boot whole range found done all seen q.asked (decided i q asks) (judged.each i q None asks at)
