use Rattle.std.proofs.Common.{◌∙◌, length, sym, ap}
use Rattle.mcs_book.specs.History.{Line}
use Rattle.mcs_packing.proofs.Packings.{length-record_of}
use Rattle.mcs_book.proofs.book.Line.record_count.Goals as goal

pub returns : goal.returns
returns c = sym (length-record_of c.self.inside.packed.now c.self.inside.words.now c.self.inside.wide.now) ∙ ap (λ (l : Line). length l.records) c.self.view_is
