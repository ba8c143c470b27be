-- Of a whole search, what is kept is kept by the fewest turns.
use Rattle.std.specs.Prelude.{ℕ, ◌≡◌, ◌≤◌, ◌<◌, Bool, true, List, Option, Some, None, length, slice_get}
use Rattle.std.proofs.Common.{refl, ap, sym, ◌∙◌, inl, inr, arith}
use Rattle.mcs_book.specs.Boots.{Boot, IsFaultless}
use Rattle.mcs_book.specs.History.{log_of}
use Rattle.mcs_turns.specs.Turns.{User, RunState, AreInRange, IsOver, IsRun}
use Rattle.mcs_explore_equivalence.proofs.Asking.{status-same}
use Rattle.mcs_explore_equivalence.proofs.Likenesses.{by-likeness}
use Rattle.mcs_explore_search.specs.declared.search.Found.{Found}
use Rattle.mcs_explore_search.specs.Search.{AreSorted, Entries, depth_at}
use Rattle.mcs_explore_equivalence.proofs.Alikes.{over-there}
use Rattle.mcs_explore_walk.specs.declared.walk.Turn.{Turn}
use Rattle.mcs_explore_orders.specs.Seen.{AreAllSeen}
use Rattle.mcs_explore_orders.specs.Trails.{Leads}
use Rattle.mcs_explore_report.specs.declared.answers.Witness.{Witness}
use Rattle.mcs_explore_script.specs.declared.questions.AskedLine.{AskedLine}
use Rattle.mcs_explore_report.specs.declared.judgement.Sighting.{Sighting}
use Rattle.mcs_explore_report.specs.Answers.{Tables, table_of}
use Rattle.mcs_explore_report.specs.Ends.{Kind}
use Rattle.mcs_explore_report.specs.Found.{AreFirstFound, AreShortest, IsGiven, IsSeenFrom}
use Rattle.mcs_explore_report.specs.Judging.{IsDecided, fails}
use Rattle.mcs_explore_report.specs.Standings.{standings}
use Rattle.mcs_explore_report.proofs.HeldRuns.{state-same, then_h, there, turn-same}
use Rattle.mcs_explore_report.proofs.KeptRuns.{answered-there, mailed-there, standings-same}
use Rattle.mcs_explore_search.proofs.Places.{within-at}

-- what is in an earlier place was found by no more turns
depth-in : {K : Type 0} (found : Entries K Turn) (i : ℕ) (k : K) (f : Found Turn) → slice_get found i ≡ Some (k, f) → depth_at found i ≡ f.depth
depth-in {K} found i k f at = ap (λ (o : Option (K × Found Turn)). elim o [ None ↦ 0 | Some e ↦ e.1.depth ]) at

depth-sorted : {K : Type 0} (found : Entries K Turn) → AreSorted found → (i j : ℕ) → i ≤ j → j < length found → depth_at found i ≤ depth_at found j
depth-sorted found sorted i j le lt =
    let x = within-at found i (omega (arith, le, lt)) in
    let y = within-at found j lt in
    let a = depth-in found i x.0.0 x.0.1 x.1 in
    let b = depth-in found j y.0.0 y.0.1 y.1 in
    let order = sorted i j x.0.0 y.0.0 x.0.1 y.0.1 le x.1 y.1 in
    omega (arith, a, b, order)

module _ {K : Type 0} (numbered : Bool) (users : List User) (boot : Boot) (whole : IsFaultless boot) (range : AreInRange users) (found : Entries K Turn) (done : ℕ) (all : length found ≤ done) (seen : AreAllSeen numbered users boot found) (sorted : AreSorted found)
    (questions : List AskedLine) (kinds : List Kind) (tables : Tables) (failed : List (Option Sighting)) (first : AreFirstFound users boot found done questions kinds tables failed)
    (decided : (i : ℕ) (q : AskedLine) → slice_get questions i ≡ Some q → IsDecided numbered q.asked) where
  -- what is kept in an earlier place than that of a state like the one of a run
  near : (n place : ℕ) (g : RunState) (run : IsRun users boot n g) → place ≤ (seen n g run).place → depth_at found place ≤ n
  near n place g run le = let s = seen n g run in let deep = depth-sorted found sorted place s.place le s.within in let by = s.near in omega (arith, deep, by)

  below : (n : ℕ) (g : RunState) (run : IsRun users boot n g) → (seen n g run).place < done
  below n g run = let within = (seen n g run).within in omega (arith, within, all)

  end : (i n : ℕ) (k : Kind) (g : RunState) → slice_get kinds i ≡ Some k → IsRun users boot n g → IsOver users g → standings users g ≡ k.standing → depth_at found k.place ≤ n
  end i n k g at run over stands =
      let s = seen n g run in
      let same = standings-same users g s.run_state s.like.close.places (λ t. status-same (log_of g.book) (log_of s.run_state.book) ((by-likeness numbered).numbers (log_of g.book) (log_of s.run_state.book) s.like.close.logs) t) in
      near n k.place g run (first.ends i s.place k s.run_state at (below n g run) s.is.path (over-there numbered users boot g s.run_state s.like over) (sym same ∙ stands))

  answer : (user number i n : ℕ) (witnesses : List Witness) (t : Witness) (u : Turn) (g h : RunState) → table_of tables user number ≡ Some witnesses → slice_get witnesses i ≡ Some t → IsRun users boot n g → Leads users u g h → IsGiven users u g h user number t.answer
      → depth_at found t.place ≤ n
  answer user number i n witnesses t u g h at in_table run turn given =
      let s = seen n g run in
      near n t.place g run
      (first.answers user number i s.place witnesses t u s.run_state (then_h numbered users boot whole range g s.run_state s.like u.core u.pick h turn) at in_table (below n g run) s.is.path (there numbered users boot whole range g s.run_state s.like u.core u.pick h turn) (go given))
    where
      go : IsGiven users u g h user number t.answer → IsGiven users u (seen n g run).run_state (then_h numbered users boot whole range g (seen n g run).run_state (seen n g run).like u.core u.pick h turn) user number t.answer
      go (inl own) = inl (
        record {
          user = own.0.user;
          number = own.0.number;
          answer = answered-there numbered users boot whole range g (seen n g run).run_state (seen n g run).like u.core u.pick h turn t.answer own.0.answer;
        },
        own.1,
      )
      go (inr mail) = inr (mailed-there numbered users boot whole range g (seen n g run).run_state (seen n g run).like u.core u.pick h turn user number u t.answer mail)

  failure : (i n : ℕ) (q : AskedLine) (f : Sighting) (t : Option Turn) (g h : RunState) → slice_get questions i ≡ Some q → slice_get failed i ≡ Some (Some f) → IsRun users boot n g → IsSeenFrom users g t h → fails users q.asked t h ≡ true
      → depth_at found f.place ≤ n
  failure i n q f None g h asks at run from fails_it =
      let s = seen n g run in
      let same = state-same users g s.run_state s.like.close.places (λ t. status-same (log_of g.book) (log_of s.run_state.book) ((by-likeness numbered).numbers (log_of g.book) (log_of s.run_state.book) s.like.close.logs) t) q.asked in
      near n f.place g run (first.failures i s.place q f None s.run_state s.run_state asks at (below n g run) s.is.path refl (sym same ∙ ap (λ x. fails users q.asked None x) from ∙ fails_it))
  failure i n q f (Some t) g h asks at run turn fails_it =
      let s = seen n g run in
      let same = turn-same numbered users boot whole range g s.run_state s.like t.core t.pick h turn q.asked (decided i q asks) t in
      near n f.place g run
      (first.failures i s.place q f (Some t) s.run_state (then_h numbered users boot whole range g s.run_state s.like t.core t.pick h turn) asks at (below n g run) s.is.path (there numbered users boot whole range g s.run_state s.like t.core t.pick h turn)
      (sym same ∙ ap (λ x. fails users q.asked (Some t) x) (sym turn.after) ∙ fails_it))

  pub all-shortest : AreShortest users boot found questions kinds tables failed
  all-shortest = record { ends = end; answers = answer; failures = failure }
