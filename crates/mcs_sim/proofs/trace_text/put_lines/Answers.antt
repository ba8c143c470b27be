use Rattle.std.proofs.Common.{◌≡◌, ◌-◌, take, reverse, refl, sym, ◌∙◌, arith}
use Rattle.mcs_trace.proofs.Outputs.{Puts-then, Puts-nil, Puts-text}
use Rattle.mcs_sim.specs.Trace.{unwritten_lines}
use Rattle.mcs_sim.proofs.FeedBooks.{lines-next}
use Rattle.mcs_sim.proofs.TraceLaws.{line-past, lines_trace-next, sent_in-next}
use Rattle.mcs_sim.proofs.trace_text.put_lines.Goals as goal

pub loop-i-preserved : goal.loop-i-preserved
loop-i-preserved g c =
    let written = c.args.written in
    let lines = unwritten_lines written c.args.book.now.book in
    let line = c.in-Some.line in
    let before = c.loop-i.invariant in
    let more = lines-next (written.lines - 1) (reverse c.args.book.now.book.lines) c.loop-i.i line (omega arith) (sym c.in-Some.is ∙ c.line.ensures) in
    record {
      puts = Puts-text _ _ _ _ _ (Puts-then _ _ _ _ _ _ before.puts c.put_book_line-sent.ensures.puts) (lines_trace-next written.sent (take (c.loop-i.i - 1 - (written.lines - 1)) lines) _ line c.loop-i.sent more before.sent);
      sent = c.put_book_line-sent.ensures.sent ∙ sent_in-next written.sent (take (c.loop-i.i - 1 - (written.lines - 1)) lines) _ line c.loop-i.sent more before.sent;
      few = omega (arith, before.few, c.put_book_line-sent.ensures.few, c.loop-i.auto.i);
    }

pub loop-i-init : goal.loop-i-init
loop-i-init g c =
    let none : c.max-i.result - 1 - (c.args.written.lines - 1) ≡ 0 = omega (arith, c.max-i.ensures) in
    record { puts = rw none (Puts-nil _ _); sent = rw none refl; few = omega (arith, c.max-i.ensures, c.requires.fits) }

pub unreachable-requires : goal.unreachable-requires
unreachable-requires g c =
    line-past c.args.book.now.book c.loop-i.i (omega (arith, c.loop-i.auto.i, c.max-i.ensures)) (sym c.in-None.is ∙ c.line.ensures) (omega (arith, c.loop-i-test.true, c.lines-i-end.ensures))
