use Rattle.std.proofs.Common.{◌≡◌, ℕ, ◌++◌, [], List, length, take, Err, refl, ap, sym, subst, ◌∙◌, arith}
use Rattle.std.specs.Prelude.{IsErrAnd}
use Rattle.std.proofs.KnownBytes.{Consumes-trans}
use Rattle.std.proofs.lemmas.List.{length-take-le}
use Rattle.mcs_trace.specs.Output.{Rose}
use Rattle.mcs_trace.proofs.Outputs.{Puts-nil, Puts-text}
use Rattle.mcs_phases.specs.declared.fault.SimFault.{SimFault}
use Rattle.mcs_phases.specs.declared.fault.SimFault.TheVariants as fault
use Rattle.mcs_sim.specs.Trace.{trace_of}
use Rattle.mcs_sim.specs.Runs.{Ends}
use Rattle.mcs_phases.specs.Feeds.{FeedState, fed, TakesPiece}
use Rattle.mcs_sim.proofs.RunLaws.{IfErr-same, Consumes-nil, no-more}
use Rattle.mcs_sim.proofs.FeedRuns.{ends-early, ends-read, ends-well}
use Rattle.mcs_sim.proofs.SimulateLaws.{tells-on, moves-out, appends-out, answer-well, piece-on, piece-nearer, ends-piece, never-read, only-broken}
use Rattle.mcs_sim.proofs.replay.simulate.Goals as goal

pub returns-in_default-clause-err : goal.returns-in_default-clause-err
returns-in_default-clause-err g c =
    let left = g.R.Read.remaining c.args.from.now.reader in
    let out = g.W.Write.contents c.args.to.now.writer in
    subst (λ (w : g.row.W.Denot). Ends fault.OutOfMemory left left out (g.W.Write.contents w)) (sym c.start.ensures.same.0) (ends-early left out)

pub loop-n-init : goal.loop-n-init
unfolding fed
loop-n-init g c =
    let begun = c.in-Ok.ensures in
    record {
      reached = ([], Consumes-nil (g.R.Read.remaining c.args.from.now.reader) [] refl, begun);
      goes = ap (λ (g : FeedState). g.course.fault) begun;
      puts = Puts-text _ _ _ _ _ (Puts-nil _ _) (ap (λ (g : FeedState). trace_of g.course.stands.book) (sym begun));
      empty = c.start.ensures.fresh.0;
      whole = c.start.ensures.fresh.1;
      count = omega arith;
    }

pub returns-in_default-read_piece-clause-err : goal.returns-in_default-read_piece-clause-err
returns-in_default-read_piece-clause-err g c =
    let i = c.loop-n.invariant in
    let left = g.R.Read.remaining c.args.from.now.reader in
    let left' = g.R.Read.remaining c.read_piece.new.self.reader in
    let read = no-more _ _ _ _ _ i.reached.1 c.in_default-read_piece.ensures.err refl in
    let trace = trace_of c.loop-n.run.course.stands.book in
    let out = g.W.Write.contents c.args.to.now.writer in
    let out' = g.W.Write.contents c.loop-n.to.writer in
    ends-read left left' out out' c.loop-n.run i.reached.0 i.puts.rest i.reached.2 i.goes read
    (moves-out g.W.Write.contents c.args.to.now c.start.new.self c.loop-n.to trace c.start.ensures.same.0 c.start.ensures.fresh.0 i.puts)
    (appends-out g.W.Write.contents c.args.to.now c.start.new.self c.loop-n.to trace c.start.ensures.same.0 c.start.ensures.fresh.0 i.puts i.whole i.empty)

pub returns-in_err-take_piece-clause-err : goal.returns-in_err-take_piece-clause-err
returns-in_err-take_piece-clause-err g c =
    let i = c.loop-n.invariant in
    let n = c.in-Ok-read_piece.n in
    let p = c.read_piece.new.piece in
    let left = g.R.Read.remaining c.args.from.now.reader in
    let left' = g.R.Read.remaining c.read_piece.new.self.reader in
    let count : length (take n p) ≡ n = length-take-le n p c.in-Ok-read_piece.ensures.ok in
    let read = Consumes-trans _ _ _ _ _ i.reached.1 c.in-Ok-read_piece.ensures.bytes in
    IfErr-same _ _ _ c.from_residual.ensures.1
    (ends-piece g.W.Write.contents c.args.to.now c.start.new.self c.loop-n.to c.take_piece.new.to left left' c.loop-n.run i.reached.0 (take n p) c.take_piece.new.self c.in_err-take_piece.field-0.0
    c.start.ensures.same.0 c.start.ensures.fresh.0 i.reached.2 i.goes (omega (arith, count, c.in-Ok-read_piece.ensures.ok, c.read_piece.auto.piece)) read
    (λ none. c.in-Ok-read_piece.ensures.end (sym count ∙ ap (λ (l : List ℕ). length l) none)) c.take_piece.ensures.takes i.puts c.take_piece.ensures.puts c.take_piece.ensures.kept c.take_piece.ensures.fair
    (sym c.in_err-take_piece.was ∙ c.take_piece.ensures.answer))

pub returns-in_err-take_piece-clause-read_failed : goal.returns-in_err-take_piece-clause-read_failed
returns-in_err-take_piece-clause-read_failed g c = λ is.
    let i = c.loop-n.invariant in
    let same = subst (λ r. IsErrAnd r (λ x. x ≡ c.in_err-take_piece.field-0.0)) is c.from_residual.ensures.1 in
    absurd (never-read c.take_piece.new.to.is_broken c.loop-n.run i.reached.0 (take c.in-Ok-read_piece.n c.read_piece.new.piece) c.take_piece.new.self i.reached.2 c.take_piece.ensures.takes
    (ap (λ (e : SimFault). Err e) same ∙ sym c.in_err-take_piece.was ∙ c.take_piece.ensures.answer))

pub returns-in_err-take_piece-clause-write_failed : goal.returns-in_err-take_piece-clause-write_failed
returns-in_err-take_piece-clause-write_failed g c = λ is.
    let i = c.loop-n.invariant in
    let same = subst (λ r. IsErrAnd r (λ x. x ≡ c.in_err-take_piece.field-0.0)) is c.from_residual.ensures.1 in
    let broken = only-broken c.take_piece.new.to.is_broken c.loop-n.run i.reached.0 (take c.in-Ok-read_piece.n c.read_piece.new.piece) c.take_piece.new.self i.reached.2 c.take_piece.ensures.takes
    (ap (λ (e : SimFault). Err e) same ∙ sym c.in_err-take_piece.was ∙ c.take_piece.ensures.answer) in
    let all = tells-on g.W.Write.contents c.start.new.self c.loop-n.to c.take_piece.new.to c.loop-n.run.course.stands.book c.take_piece.new.self.course.stands.book i.puts c.take_piece.ensures.puts in
    subst (λ (n : ℕ). Rose n c.take_piece.new.to.failed) c.start.ensures.same.1 (all.rose c.start.ensures.fresh.1 broken)

pub returns-then-n-eq0-clause-ok : goal.returns-then-n-eq0-clause-ok
returns-then-n-eq0-clause-ok g c =
    let i = c.loop-n.invariant in
    let n = c.in-Ok-read_piece.n in
    let p = c.read_piece.new.piece in
    let left = g.R.Read.remaining c.args.from.now.reader in
    let left' = g.R.Read.remaining c.read_piece.new.self.reader in
    let none : n ≡ 0 = c.if-n-eq0.true in
    let nil : take n p ≡ [] = ap (λ (n : ℕ). take n p) none in
    let takes = subst (λ (l : List ℕ). TakesPiece c.loop-n.run l c.take_piece.new.self) nil c.take_piece.ensures.takes in
    let read = no-more _ _ _ _ _ i.reached.1 c.in-Ok-read_piece.ensures.bytes nil in
    let well = answer-well c.take_piece.new.to.is_broken c.take_piece.new.self.course.fault c.in_ok-take_piece.field-0 (sym c.in_ok-take_piece.was ∙ c.take_piece.ensures.answer) in
    let all = tells-on g.W.Write.contents c.start.new.self c.loop-n.to c.take_piece.new.to c.loop-n.run.course.stands.book c.take_piece.new.self.course.stands.book i.puts c.take_piece.ensures.puts in
    ends-well left left' (g.W.Write.contents c.args.to.now.writer) (g.W.Write.contents c.take_piece.new.to.writer) c.loop-n.run i.reached.0 c.take_piece.new.self i.reached.2 read (c.in-Ok-read_piece.ensures.end none) takes
    (appends-out g.W.Write.contents c.args.to.now c.start.new.self c.take_piece.new.to (trace_of c.take_piece.new.self.course.stands.book) c.start.ensures.same.0 c.start.ensures.fresh.0 all well.0 c.take_piece.ensures.kept) c.take_piece.ensures.fair well.1

pub loop-n-smaller : goal.loop-n-smaller
loop-n-smaller g c =
    let i = c.loop-n.invariant in
    let n = c.in-Ok-read_piece.n in
    let p = c.read_piece.new.piece in
    let count : length (take n p) ≡ n = length-take-le n p c.in-Ok-read_piece.ensures.ok in
    let well = answer-well c.take_piece.new.to.is_broken c.take_piece.new.self.course.fault c.in_ok-take_piece.field-0 (sym c.in_ok-take_piece.was ∙ c.take_piece.ensures.answer) in
    let nearer = piece-nearer c.loop-n.run i.reached.0 (take n p) c.take_piece.new.self i.reached.2 i.goes (omega (arith, count)) c.take_piece.ensures.takes well.1 in
    omega (arith, nearer.0, nearer.1)

pub loop-n-preserved : goal.loop-n-preserved
loop-n-preserved g c =
    let i = c.loop-n.invariant in
    let n = c.in-Ok-read_piece.n in
    let p = c.read_piece.new.piece in
    let count : length (take n p) ≡ n = length-take-le n p c.in-Ok-read_piece.ensures.ok in
    let well = answer-well c.take_piece.new.to.is_broken c.take_piece.new.self.course.fault c.in_ok-take_piece.field-0 (sym c.in_ok-take_piece.was ∙ c.take_piece.ensures.answer) in
    record {
      reached = (i.reached.0 ++ take n p, Consumes-trans _ _ _ _ _ i.reached.1 c.in-Ok-read_piece.ensures.bytes, piece-on c.loop-n.run i.reached.0 (take n p) c.take_piece.new.self i.reached.2 (omega (arith, count)) c.take_piece.ensures.takes well.1);
      goes = well.1;
      puts = tells-on g.W.Write.contents c.start.new.self c.loop-n.to c.take_piece.new.to c.loop-n.run.course.stands.book c.take_piece.new.self.course.stands.book i.puts c.take_piece.ensures.puts;
      empty = c.take_piece.ensures.kept;
      whole = well.0;
      count = omega (arith, i.count, c.read_piece.ensures.count);
    }
