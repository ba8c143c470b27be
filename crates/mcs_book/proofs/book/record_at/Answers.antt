use Rattle.std.proofs.Common.{◌≡◌, slice_get, refl, Some, sym}
use Rattle.std.proofs.lemmas.Option.{slice_get_read, slice_get_past}
use Rattle.mcs_packing.proofs.Packings.{Fits-at, slice_get-record_of, slice_get-unpacked_none}
use Rattle.mcs_book.proofs.book.record_at.Goals as goal

pub invariant_of-result : goal.invariant_of-result
invariant_of-result c =
    let at : slice_get c.args.packed.now c.args.i ≡ Some c.in-Some.one.now = slice_get_read c.args.packed.now _ _ _ refl c.in-Some.ensures.lookup.3.0 c.in-Some.ensures.lookup.1 in
    Fits-at c.args.packed.now c.args.words.now c.args.wide.now c.args.i c.in-Some.one.now at c.requires

pub returns-in-None : goal.returns-in-None
returns-in-None c = sym (slice_get-unpacked_none c.args.packed.now c.args.words.now c.args.wide.now c.args.i (slice_get_past c.args.packed.now c.args.i c.in-None.ensures.lookup.3))

pub returns-in-Some : goal.returns-in-Some
returns-in-Some c =
    let at : slice_get c.args.packed.now c.args.i ≡ Some c.in-Some.one.now = slice_get_read c.args.packed.now _ _ _ refl c.in-Some.ensures.lookup.3.0 c.in-Some.ensures.lookup.1 in
    sym (slice_get-record_of c.args.packed.now c.args.words.now c.args.wide.now c.args.i c.in-Some.one.now at)
