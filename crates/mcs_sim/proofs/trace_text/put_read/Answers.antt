use Rattle.std.proofs.Common.{◌<◌, sym, ◌∙◌, arith}
use Rattle.mcs_trace.proofs.Outputs.{Puts-text}
use Rattle.mcs_sim.proofs.FeedLines.{last-unwritten, unwritten-last, sent-last}
use Rattle.mcs_sim.proofs.TraceLaws.{line-past}
use Rattle.mcs_sim.proofs.trace_text.put_read.Goals as goal

pub put_read_line-written-requires-clause-text : goal.put_read_line-written-requires-clause-text
put_read_line-written-requires-clause-text g c =
    let b = c.args.book.now.book in
    let some : 0 < c.args.written.now.lines = omega (arith, c.if-written-eq0.false) in
    c.requires.text c.in-Some.line some (last-unwritten b c.args.written.now c.in-Some.line some (omega (arith, c.if-lines-written.false, c.lines.ensures)) (sym c.in-Some.is ∙ c.line.ensures))

pub unreachable-requires : goal.unreachable-requires
unreachable-requires g c =
    line-past c.args.book.now.book c.args.written.now.lines (omega (arith, c.if-written-eq0.false)) (sym c.in-None.is ∙ c.line.ensures) (omega (arith, c.if-lines-written.false, c.lines.ensures))

pub returns-clause-puts : goal.returns-clause-puts
returns-clause-puts g c =
    Puts-text _ _ _ _ _ c.put_read_line-written.ensures.puts
    (unwritten-last c.args.book.now.book c.args.written.now c.in-Some.line (omega (arith, c.if-written-eq0.false)) (omega (arith, c.if-lines-written.false, c.lines.ensures)) (sym c.in-Some.is ∙ c.line.ensures))

pub returns-clause-written : goal.returns-clause-written
returns-clause-written g c =
    let sent = sent-last c.args.book.now.book c.args.written.now c.in-Some.line c.put_read_line-written.result (omega (arith, c.if-written-eq0.false)) (omega (arith, c.if-lines-written.false, c.lines.ensures))
    (sym c.in-Some.is ∙ c.line.ensures) c.requires.written c.put_read_line-written.ensures.sent in
    λ i. record { lines = c.lines-written.ensures i; sent = sent i }
