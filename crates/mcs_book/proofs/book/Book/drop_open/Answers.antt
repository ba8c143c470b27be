use Rattle.std.proofs.Common.{◌≡◌, ◌≤◌, ◌∙◌, length, reverse, sym, ap, arith}
use Rattle.std.proofs.lemmas.List.{drop_all, length-take-le}
use Rattle.mcs_packing.specs.Packing.{records_of}
use Rattle.mcs_packing.specs.Heads.{all_entered}
use Rattle.mcs_book.specs.Pages.{Written, cut}
use Rattle.mcs_packing.proofs.Packings.{AllFit-take, length-record_of, take-record_of}
use Rattle.mcs_book.proofs.Books.Cuts.{cut-first}
use Rattle.mcs_book.proofs.book.Book.drop_open.Goals as goal

pub invariant_of-self : goal.invariant_of-self
invariant_of-self c =
    let b = c.self.inside in
    let i = c.self.invariant in
    let within : b.start ≤ length b.packed.items = omega (arith, i.3, b.packed.ok.0) in
    let long : length c.keep_first.new.packed.items ≡ b.start = ap length c.keep_first.ensures.items ∙ length-take-le b.start b.packed.items within in (
      i.0,
      rw c.keep_first.ensures.items (AllFit-take b.start b.packed.items b.arena.words.items b.arena.wide.items i.1),
      i.2,
      omega (arith, long, c.keep_first.new.packed.ok.0),
      i.4,
      λ z. omega (arith, i.5 z, i.3, long, c.keep_first.new.packed.ok.0, c.keep_first.ensures.capacity),
      i.6,
      λ z. omega (arith, i.7 z, i.3, long, c.keep_first.new.packed.ok.0),
      record {
        heads = i.8.heads;
        packed = omega (arith, i.8.packed, i.3, long, c.keep_first.new.packed.ok.0, c.keep_first.ensures.capacity);
        words = i.8.words;
        wide = i.8.wide;
        named = omega (arith, i.8.named, i.3, long, c.keep_first.new.packed.ok.0);
        named_words = i.8.named_words;
        named_wide = i.8.named_wide;
      },
    )

pub returns-clause-hand : goal.returns-clause-hand
returns-clause-hand c =
    let b = c.self.inside in
    let ws = b.arena.words.items in
    let rs = b.arena.wide.items in
    let within : b.start ≤ length b.packed.items = omega (arith, c.self.invariant.3, b.packed.ok.0) in
    let long : length c.keep_first.new.packed.items ≡ b.start = ap length c.keep_first.ensures.items ∙ length-take-le b.start b.packed.items within in
    let all = length-record_of c.keep_first.new.packed.items ws rs in
    let short : length (records_of c.keep_first.new.packed.items ws rs) ≤ b.start = omega (arith, long, all) in
    ap reverse (drop_all b.start (records_of c.keep_first.new.packed.items ws rs) short)

pub returns-clause-book : goal.returns-clause-book
returns-clause-book c =
    let b = c.self.inside in
    let ws = b.arena.words.items in
    let rs = b.arena.wide.items in
    let hs = all_entered b.heads.items ws in
    let all = records_of b.packed.items ws rs in
    let within : b.start ≤ length all = omega (arith, c.self.invariant.3, b.packed.ok.0, length-record_of b.packed.items ws rs) in
    let lines : cut 0 hs (records_of c.keep_first.new.packed.items ws rs) ≡ cut 0 hs all = ap (λ l. cut 0 hs (records_of l ws rs)) c.keep_first.ensures.items ∙ ap (cut 0 hs) (sym (take-record_of b.start b.packed.items ws rs)) ∙ cut-first hs all b.start within c.self.invariant.2 in
    rw lines (ap (λ (w : Written). w.book) c.self.view_is)
