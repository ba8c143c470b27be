use Rattle.std.proofs.Common.{Option, ap, sym, subst, ◌∙◌}
use Rattle.mcs_book.specs.History.{Book}
use Rattle.mcs_sim.specs.Trace.{IsWrittenUpTo}
use Rattle.mcs_phases.specs.Feeds.{book_lent}
use Rattle.mcs_sim.proofs.FeedBooks.{written-of}
use Rattle.mcs_sim.proofs.replay.put_more.Goals as goal

pub put_unwritten-requires : goal.put_unwritten-requires
put_unwritten-requires g c =
    let there = sym c.book.ensures.lent ∙ ap book_lent c.in-Some.is in
    record { written = written-of c.args.written.now c.in-Some.book.now.book (subst (λ (k : Option Book). IsWrittenUpTo c.args.written.now k) there c.requires.written) }
