use Rattle.std.proofs.Common.{Option, ap, sym, subst, ◌∙◌}
use Rattle.mcs_book.specs.History.{Book}
use Rattle.mcs_sim.specs.Trace.{IsWrittenUpTo}
use Rattle.mcs_phases.specs.Feeds.{book_lent}
use Rattle.mcs_sim.proofs.FeedBooks.{written-of}
use Rattle.mcs_sim.proofs.replay.put_line.Goals as goal

pub put_read-requires-clause-written : goal.put_read-requires-clause-written
put_read-requires-clause-written g c =
    let there = sym c.book.ensures.lent ∙ ap book_lent c.in-Some.is in
    written-of c.args.written.now c.in-Some.book.now.book (subst (λ (k : Option Book). IsWrittenUpTo c.args.written.now k) there c.requires.written)
