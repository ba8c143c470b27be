use Rattle.std.proofs.Common.{◌≡◌, ◌-◌, List, take, drop, slice_get, refl, Option, Some, sym, ap, ◌∙◌, arith}
use Rattle.std.proofs.lemmas.Option.{slice_get_read, slice_get_past}
use Rattle.mcs_types.specs.declared.record.Rec.{Rec}
use Rattle.mcs_packing.specs.Packing.{records_of}
use Rattle.mcs_packing.specs.Heads.{entered_of, all_entered}
use Rattle.mcs_book.specs.History.{Line}
use Rattle.mcs_book.specs.Pages.{start_at}
use Rattle.mcs_packing.proofs.Packings.{AllFit-drop, AllFit-take, drop-record_of, take-record_of}
use Rattle.mcs_packing.proofs.HeadLaws.{HeadFits-at, slice_get-heads, slice_get-heads_none}
use Rattle.mcs_book.proofs.Books.Cuts.{start-within, slice_get-cut, slice_get-cut_none}
use Rattle.mcs_book.proofs.book.line_at.Goals as goal

pub part-requires-clause-starts : goal.part-requires-clause-starts
part-requires-clause-starts c =
    let hs = all_entered c.args.heads.now c.args.words.now in
    let at : slice_get c.args.heads.now c.args.at ≡ Some c.in-Some.head.now = slice_get_read c.args.heads.now _ _ _ refl c.in-Some.ensures.lookup.3.0 c.in-Some.ensures.lookup.1 in
    let there = slice_get-heads c.args.heads.now c.args.words.now c.args.at c.in-Some.head.now at in
    omega (arith, c.start_of-start.ensures, (start-within 0 hs c.requires.rise.end c.args.at (entered_of c.in-Some.head.now c.args.words.now) c.requires.rise.rise there).1)

pub part-requires-clause-ends : goal.part-requires-clause-ends
part-requires-clause-ends c =
    let hs = all_entered c.args.heads.now c.args.words.now in
    let at : slice_get c.args.heads.now c.args.at ≡ Some c.in-Some.head.now = slice_get_read c.args.heads.now _ _ _ refl c.in-Some.ensures.lookup.3.0 c.in-Some.ensures.lookup.1 in
    let there = slice_get-heads c.args.heads.now c.args.words.now c.args.at c.in-Some.head.now at in
    omega (arith, c.requires.rise.within, (start-within 0 hs c.requires.rise.end c.args.at (entered_of c.in-Some.head.now c.args.words.now) c.requires.rise.rise there).2)

pub invariant_of-result : goal.invariant_of-result
invariant_of-result c =
    let at : slice_get c.args.heads.now c.args.at ≡ Some c.in-Some.head.now = slice_get_read c.args.heads.now _ _ _ refl c.in-Some.ensures.lookup.3.0 c.in-Some.ensures.lookup.1 in (
      HeadFits-at c.args.heads.now c.args.words.now c.args.at c.in-Some.head.now at c.requires.heads,
      rw c.part.ensures (AllFit-take (c.in-Some.head.now.end - c.start_of-start.result) (drop c.start_of-start.result c.args.packed.now) c.args.words.now c.args.wide.now (AllFit-drop c.start_of-start.result c.args.packed.now c.args.words.now c.args.wide.now c.requires.records)),
    )

pub returns-in-None : goal.returns-in-None
returns-in-None c =
    let none = slice_get-heads_none c.args.heads.now c.args.words.now c.args.at (slice_get_past c.args.heads.now c.args.at c.in-None.ensures.lookup.3) in
    sym (slice_get-cut_none 0 (all_entered c.args.heads.now c.args.words.now) (records_of c.args.packed.now c.args.words.now c.args.wide.now) c.args.at none)

pub returns-in-Some : goal.returns-in-Some
returns-in-Some c =
    let ws = c.args.words.now in
    let rs = c.args.wide.now in
    let hs = all_entered c.args.heads.now ws in
    let h = entered_of c.in-Some.head.now ws in
    let all = records_of c.args.packed.now ws rs in
    let s = c.start_of-start.result in
    let at : slice_get c.args.heads.now c.args.at ≡ Some c.in-Some.head.now = slice_get_read c.args.heads.now _ _ _ refl c.in-Some.ensures.lookup.3.0 c.in-Some.ensures.lookup.1 in
    let there : slice_get hs c.args.at ≡ Some h = slice_get-heads c.args.heads.now ws c.args.at c.in-Some.head.now at in
    let start : s ≡ start_at 0 hs c.args.at - 0 = omega (arith, c.start_of-start.ensures) in
    let line : List Rec → Option Line = λ l. Some (record { step = h.step; answer = h.answer; records = l }) in
    ap (λ l. line (records_of l ws rs)) c.part.ensures
    ∙ ap line (sym (take-record_of (h.end - s) (drop s c.args.packed.now) ws rs))
    ∙ ap (λ l. line (take (h.end - s) l)) (sym (drop-record_of s c.args.packed.now ws rs))
    ∙ ap (λ n. line (take (h.end - n) (drop s all))) c.start_of-start.ensures
    ∙ ap (λ n. line (take (h.end - start_at 0 hs c.args.at) (drop n all))) start
    ∙ sym (slice_get-cut 0 hs all c.requires.rise.end c.args.at h c.requires.rise.rise there)
