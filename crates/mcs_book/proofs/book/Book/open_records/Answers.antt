use Rattle.std.proofs.Common.{◌≡◌, ◌-◌, ◌∙◌, length, drop, reverse, ap, arith, length-drop}
use Rattle.std.proofs.lemmas.List.{length-reverse}
use Rattle.mcs_packing.specs.Packing.{records_of}
use Rattle.mcs_book.specs.Pages.{Written}
use Rattle.mcs_packing.proofs.Packings.{length-record_of}
use Rattle.mcs_book.proofs.book.Book.open_records.Goals as goal

pub returns : goal.returns
returns c =
    let b = c.self.inside in
    let all = records_of b.packed.items b.arena.words.items b.arena.wide.items in
    let count : length (reverse (drop b.start all)) ≡ length all - b.start = length-reverse (drop b.start all) ∙ length-drop b.start all in
    let hand : length (reverse (drop b.start all)) ≡ length c.args.self.now.hand = ap (λ (w : Written). length w.hand) c.self.view_is in
    omega (arith, count, hand, length-record_of b.packed.items b.arena.words.items b.arena.wide.items, b.packed.ok.0)
