use Rattle.std.proofs.Common.{◌≤◌, length, arith}
use Rattle.mcs_book.proofs.Books.Appending.{EndsWithin-of}
use Rattle.mcs_book.proofs.book.Book.line.Goals as goal

pub line_at-requires-clause-rise : goal.line_at-requires-clause-rise
line_at-requires-clause-rise c =
    let within : c.self.inside.start ≤ length c.self.inside.packed.items = omega (arith, c.self.invariant.3, c.self.inside.packed.ok.0) in
    EndsWithin-of _ _ _ _ _ _ c.self.inside.start c.deref.ensures.value c.deref-3.ensures.value c.deref-2.ensures.value c.self.invariant.2 within
