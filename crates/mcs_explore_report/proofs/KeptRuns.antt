-- The ends and the answers of what was found are those of each run.
use Rattle.std.specs.Prelude.{ℕ, zero, suc, ◌≡◌, ◌≤◌, ◌++◌, Bool, length, List, Option, Some, None, slice_get}
use Rattle.std.proofs.Common.{refl, ap, sym, ◌∙◌, subst, arith}
use Rattle.mcs_types.specs.declared.id.ObjId.{ObjId}
use Rattle.mcs_types.specs.declared.id.CoreId.{CoreId}
use Rattle.mcs_types.specs.declared.entry.Answer.{Answer}
use Rattle.mcs_types.specs.declared.entry.Answer.TheVariants as answer
use Rattle.mcs_types.specs.declared.record.Status.{Status}
use Rattle.mcs_book.specs.Boots.{Boot, IsFaultless}
use Rattle.mcs_book.specs.History.{log_of}
use Rattle.mcs_book.specs.Statuses.{status_of}
use Rattle.mcs_turns.specs.declared.position.Position.{Position}
use Rattle.mcs_turns.specs.declared.position.Pick.{Pick}
use Rattle.mcs_turns.specs.declared.reached.Reached.{Reached}
use Rattle.mcs_turns.specs.Mail.{brought}
use Rattle.mcs_turns.specs.Turns.{User, RunState, AreInRange, IsRun, IsTurn}
use Rattle.mcs_explore_equivalence.proofs.Asking.{status-same}
use Rattle.mcs_explore_equivalence.proofs.Likenesses.{by-likeness}
use Rattle.mcs_explore_search.specs.Search.{Entries}
use Rattle.mcs_explore_equivalence.specs.Runs.{AreAlike}
use Rattle.mcs_explore_equivalence.proofs.Alikes.{over-there}
use Rattle.mcs_explore_equivalence.proofs.Mail.{mail-same}
use Rattle.mcs_explore_walk.specs.declared.walk.Turn.{Turn}
use Rattle.mcs_explore_walk.specs.Walks.{last_answer}
use Rattle.mcs_explore_orders.specs.Seen.{AreAllSeen}
use Rattle.mcs_explore_orders.specs.Trails.{Leads}
use Rattle.mcs_explore_report.specs.declared.ends.Standing.{Standing}
use Rattle.mcs_explore_report.specs.Standings.{listed, standing_by, standing_of, standings, standings_below}
use Rattle.mcs_explore_report.specs.Ends.{IsKindAt, Kind}
use Rattle.mcs_explore_report.specs.Answers.{IsMailed, Tables}
use Rattle.mcs_explore_report.specs.Found.{AreAnswersFound, AreAnswersInRuns, AreEndsFound, AreEndsInRuns, IsKeptOf, IsMailFound}
use Rattle.mcs_explore_report.proofs.HeldRuns.{there, same, then_g, then_h}
use Rattle.mcs_explore_report.proofs.Waiting.{mailed-entry}

-- in runs with the same statuses and places the users have the same standings
module _ (users : List User) (g h : RunState) (places : g.places ≡ h.places) (statuses : (t : ObjId) → status_of (log_of g.book) t ≡ status_of (log_of h.book) t) where
  abbrev standing_at : RunState → ℕ → Option User → Option Standing
  standing_at x i o = elim o [ None ↦ None | Some u ↦ elim (slice_get x.places i) [ None ↦ None | Some p ↦ standing_by u (status_of (log_of x.book) u.thread) p ] ]

  at-same : (i : ℕ) (o : Option User) → standing_at g i o ≡ standing_at h i o
  at-same i None = refl
  at-same i (Some u) = go (slice_get g.places i) (slice_get h.places i) (ap (λ (ps : List Position). slice_get ps i) places)
    where
      by : Option Status → Option Position → Option Standing
      by st o = elim o [ None ↦ None | Some p ↦ standing_by u st p ]

      go : (o p : Option Position) → o ≡ p → by (status_of (log_of g.book) u.thread) o ≡ by (status_of (log_of h.book) u.thread) p
      go o p e = ap (by (status_of (log_of g.book) u.thread)) e ∙ ap (λ st. by st p) (statuses u.thread)

  standing-same : (i : ℕ) → standing_of users g i ≡ standing_of users h i
  standing-same i = at-same i (slice_get users i)

  below-same : (n : ℕ) → standings_below users g n ≡ standings_below users h n
  below-same zero = refl
  below-same (suc n) = ap (λ (ss : List Standing). ss ++ listed (standing_of users g n)) (below-same n) ∙ ap (λ (o : Option Standing). standings_below users h n ++ listed o) (standing-same n)

  pub standings-same : standings users g ≡ standings users h
  standings-same = below-same (length users)

-- alike runs: the same turn has the same answer in both, and delivers the same
module _ (numbered : Bool) (users : List User) (boot : Boot) (whole : IsFaultless boot) (range : AreInRange users) (g h : RunState) (a : AreAlike numbered users boot g h) (core : CoreId) (k : Pick) (t : RunState) (turn : IsTurn users core k g t) where
  abbrev left : RunState
  left = then_g numbered users boot whole range g h a core k t turn

  abbrev right : RunState
  right = then_h numbered users boot whole range g h a core k t turn

  answer-same : last_answer left.book ≡ last_answer right.book
  answer-same = ap (λ (x : Answer). Some x) (same numbered users boot whole range g h a core k t turn).answer

  pub brought-same : brought left.book ≡ brought right.book
  brought-same = mail-same None _ _ (same numbered users boot whole range g h a core k t turn).records

  pub answered-there : (x : Answer) → last_answer t.book ≡ Some x → last_answer right.book ≡ Some x
  answered-there x is = sym answer-same ∙ ap (λ (y : RunState). last_answer y.book) (sym turn.after) ∙ is

  pub mailed-there : (user number : ℕ) (u : Turn) (x : Answer) → IsMailed users g.places t user number u x → IsMailed users h.places right user number u x
  mailed-there user number u x mail = subst (λ (ps : List Position). IsMailed users ps right user number u x) a.close.places (go (subst (λ (y : RunState). IsMailed users g.places y user number u x) turn.after mail))
    where
      go : IsMailed users g.places left user number u x → IsMailed users g.places right user number u x
      go m = record {
        index = m.index;
        reached = m.reached;
        at = ap (λ (rs : List Reached). slice_get rs m.index) (sym brought-same) ∙ m.at;
        to = m.to;
        answer = m.answer;
      }

module _ {K : Type 0} (numbered : Bool) (users : List User) (boot : Boot) (whole : IsFaultless boot) (range : AreInRange users) (found : Entries K Turn) (done : ℕ) (all : length found ≤ done) (seen : AreAllSeen numbered users boot found) where
  pub ends-in-runs : (kinds : List Kind) → AreEndsFound users boot found done kinds → AreEndsInRuns users boot kinds
  ends-in-runs kinds ends = λ n g run over.
      let s = seen n g run in
      let within = s.within in
      let end = ends.all s.place s.run_state (omega (arith, within, all)) s.is.path (over-there numbered users boot g s.run_state s.like over) in
      subst (λ (ss : List Standing). (i : ℕ) × IsKindAt kinds ss i) (sym (standings-same users g s.run_state s.like.close.places (λ t. status-same (log_of g.book) (log_of s.run_state.book) ((by-likeness numbered).numbers (log_of g.book) (log_of s.run_state.book) s.like.close.logs) t))) end

  pub answers-in-runs : (tables : Tables) → AreAnswersFound users boot found done tables → IsMailFound users boot found done tables → AreAnswersInRuns users boot tables
  answers-in-runs tables answers mail = record { own = own; mail = brings }
    where
      own : (n : ℕ) (t : Turn) (g h : RunState) (a : Answer) → IsRun users boot n g → Leads users t g h → last_answer h.book ≡ Some a → (a ≡ answer.Waits → ⊥) → IsKeptOf tables t.pick.user t.pick.number a
      own n t g h a run turn answered not =
          let s = seen n g run in
          let within = s.within in
          let table = answers.entries t.pick.user t.pick.number (record { one = turn.user; entry = turn.entry; is_user = turn.is_user; is_entry = turn.is_entry }) in
          record {
            witnesses = table.0;
            at = table.1;
            among =
                answers.all s.place t s.run_state (then_h numbered users boot whole range g s.run_state s.like t.core t.pick h turn) a table.0 (omega (arith, within, all)) s.is.path (there numbered users boot whole range g s.run_state s.like t.core t.pick h turn)
                (answered-there numbered users boot whole range g s.run_state s.like t.core t.pick h turn a answered) not table.1;
          }

      brings : (n : ℕ) (t : Turn) (g h : RunState) (user number : ℕ) (a : Answer) → IsRun users boot n g → Leads users t g h → IsMailed users g.places h user number t a → IsKeptOf tables user number a
      brings n t g h user number a run turn it =
          let s = seen n g run in
          let within = s.within in
          let table = answers.entries user number (mailed-entry users boot n g h user number t a run it) in
          record {
            witnesses = table.0;
            at = table.1;
            among =
                mail s.place t s.run_state (then_h numbered users boot whole range g s.run_state s.like t.core t.pick h turn) user number a table.0 (omega (arith, within, all)) s.is.path (there numbered users boot whole range g s.run_state s.like t.core t.pick h turn)
                (mailed-there numbered users boot whole range g s.run_state s.like t.core t.pick h turn user number t a it) table.1;
          }
