use Rattle.std.proofs.Common.{sym, ◌∙◌}
use Rattle.mcs_trace.proofs.Outputs.{Puts-text, ends}
use Rattle.mcs_sim.proofs.FeedBooks.{unwritten-all}
use Rattle.mcs_sim.proofs.trace_text.trace.Goals as goal

pub returns-clause-ok : goal.returns-clause-ok
returns-clause-ok g c =
    let puts = Puts-text _ _ _ _ _ c.put_unwritten.ensures.puts (unwritten-all _ c.args.book.now.book c.nothing.ensures) in
    (ends _ c.args.sink.now c.start.new.self c.put_unwritten.new.sink c.flush.new.self _ c.start.ensures.same.0 c.start.ensures.same.1 c.start.ensures.fresh.0 c.start.ensures.fresh.1 puts c.flush.ensures.puts c.flush.ensures.kept).whole
    (sym c.is_broken.ensures ∙ c.if-is_broken.false)

pub returns-then-is_broken-clause-err : goal.returns-then-is_broken-clause-err
returns-then-is_broken-clause-err g c =
    let puts = Puts-text _ _ _ _ _ c.put_unwritten.ensures.puts (unwritten-all _ c.args.book.now.book c.nothing.ensures) in
    let e = ends _ c.args.sink.now c.start.new.self c.put_unwritten.new.sink c.flush.new.self _ c.start.ensures.same.0 c.start.ensures.same.1 c.start.ensures.fresh.0 c.start.ensures.fresh.1 puts c.flush.ensures.puts c.flush.ensures.kept in
    (e.rest, e.moves)
