use Rattle.std.proofs.Common.{◌≡◌, ◌<◌, ◌∷◌, ◌++◌, [], length, drop, reverse, ◌≤◌, ◌∙◌, sym, ap, arith}
use Rattle.std.proofs.lemmas.List.{drop_all, reverse-append, reverse-reverse}
use Rattle.mcs_packing.specs.Packing.{records_of}
use Rattle.mcs_packing.specs.Heads.{all_entered}
use Rattle.mcs_book.specs.Pages.{Written, cut, line_head}
use Rattle.mcs_packing.proofs.Packings.{AllFit-grows, GrowsBy-same, GrowsBy-then, length-record_of, records_of-grows}
use Rattle.mcs_packing.proofs.HeadLaws.{AllHeadsFit-grows, AllHeadsFit-push}
use Rattle.mcs_book.proofs.Books.Cuts.{EndsRise-push}
use Rattle.mcs_book.proofs.Books.Appending.{HasRoom-head, HeadFits-of, entered_with, heads-of, heads-set, lines-closed, entered_of-of}
use Rattle.mcs_book.proofs.book.Book.close.Goals as goal

pub pack_entry-requires : goal.pack_entry-requires
pack_entry-requires c =
    let b = c.self.inside in
    let room : b.room ≡ c.args.self.now.room = ap (λ (w : Written). w.room) c.self.view_is in
    let some : 0 < b.room = omega (arith, room, c.requires) in
    c.pack_answer-told.ensures.grew.room 1 (HasRoom-head b.arena _ (c.self.invariant.4 some))

pub end_of-end-requires : goal.end_of-end-requires
end_of-end-requires c =
    let b = c.self.inside in
    let room : b.room ≡ c.args.self.now.room = ap (λ (w : Written). w.room) c.self.view_is in
    let some : 0 < b.room = omega (arith, room, c.requires) in
    omega (arith, c.self.invariant.7 some, some)

pub invariant_of-self : goal.invariant_of-self
invariant_of-self c =
    let b = c.self.inside in
    let i = c.self.invariant in
    let a = c.pack_answer-told in
    let e = c.pack_entry in
    let w13 = GrowsBy-then _ _ _ a.ensures.grew.words e.ensures.grew.words in
    let wide = e.ensures.grew.wide ∙ a.ensures.grew.wide in
    let r13 = GrowsBy-same _ _ wide in
    let room : b.room ≡ c.args.self.now.room = ap (λ (w : Written). w.room) c.self.view_is in
    let some : 0 < b.room = omega (arith, room, c.requires) in
    let ws = e.new.self.words.items in
    let h = line_head c.args.step.now e.new.into a.result c.end_of-end.result in
    let at : c.len-last.result ≡ length b.heads.items = omega (arith, c.len-last.ensures, b.heads.ok.0) in
    let set = heads-set b.heads.items _ _ c.index_mut.result.now c.args.step.now _ e.new.into a.result c.end_of-end.result c.len-last.result c.push_reserved.ensures.items c.line_head.ensures at c.index_mut.ensures.value in
    let k = entered_with c.args.step.now c.args.answer.now c.end_of-end.result in
    let is = entered_of-of c.args.step.now c.args.answer.now e.new.into a.result c.end_of-end.result a.new.self.words.items ws e.ensures.grew.words a.ensures.value a.ensures.fits e.ensures.value in
    let heads = heads-of b.heads.items h k b.arena.words.items ws w13 i.0 is in
    let le : b.start ≤ c.end_of-end.result = omega (arith, c.end_of-end.ensures, i.3) in (
      rw set (AllHeadsFit-push b.heads.items h ws (AllHeadsFit-grows b.heads.items b.arena.words.items ws w13 i.0) (HeadFits-of c.args.step.now e.new.into a.result c.end_of-end.result a.new.self.words.items ws e.ensures.grew.words a.ensures.fits e.ensures.fits)),
      AllFit-grows b.packed.items _ _ _ _ w13 r13 i.1,
      rw (set, heads) (EndsRise-push 0 (all_entered b.heads.items b.arena.words.items) b.start k i.2 le),
      omega (arith, c.end_of-end.ensures),
      λ z. absurd (omega arith),
      λ z. absurd (omega arith),
      λ z. absurd (omega arith),
      λ z. absurd (omega arith),
      record {
        heads = omega (arith, i.6 some);
        packed = i.8.packed;
        words = omega (arith, (i.4 some).words, a.ensures.grew.few, e.ensures.grew.few, a.ensures.grew.capacity, e.ensures.grew.capacity);
        wide = rw wide i.8.wide;
        named = i.8.named;
        named_words = omega (arith, (i.4 some).named, a.ensures.grew.few, e.ensures.grew.few);
        named_wide = rw wide i.8.named_wide;
      },
    )

pub returns-clause-line : goal.returns-clause-line
returns-clause-line c =
    let b = c.self.inside in
    let i = c.self.invariant in
    let a = c.pack_answer-told in
    let e = c.pack_entry in
    let w13 = GrowsBy-then _ _ _ a.ensures.grew.words e.ensures.grew.words in
    let r13 = GrowsBy-same _ _ (e.ensures.grew.wide ∙ a.ensures.grew.wide) in
    let ws = e.new.self.words.items in
    let h = line_head c.args.step.now e.new.into a.result c.end_of-end.result in
    let at : c.len-last.result ≡ length b.heads.items = omega (arith, c.len-last.ensures, b.heads.ok.0) in
    let set = heads-set b.heads.items _ _ c.index_mut.result.now c.args.step.now _ e.new.into a.result c.end_of-end.result c.len-last.result c.push_reserved.ensures.items c.line_head.ensures at c.index_mut.ensures.value in
    let k = entered_with c.args.step.now c.args.answer.now c.end_of-end.result in
    let is = entered_of-of c.args.step.now c.args.answer.now e.new.into a.result c.end_of-end.result a.new.self.words.items ws e.ensures.grew.words a.ensures.value a.ensures.fits e.ensures.value in
    let heads = heads-of b.heads.items h k b.arena.words.items ws w13 i.0 is in
    let rs = e.new.self.wide.items in
    let was = records_of b.packed.items b.arena.words.items b.arena.wide.items in
    let records : records_of b.packed.items ws rs ≡ was = records_of-grows b.packed.items _ ws _ rs w13 r13 i.1 in
    let all = length-record_of b.packed.items b.arena.words.items b.arena.wide.items in
    let within : b.start ≤ length was = omega (arith, i.3, b.packed.ok.0, all) in
    let end : c.end_of-end.result ≡ length was = omega (arith, c.end_of-end.ensures, b.packed.ok.0, all) in
    let lines = lines-closed b.heads.items h k b.arena.words.items ws b.packed.items b.arena.wide.items rs b.start heads records within i.2 end in
    let turned = ap (λ l. cut 0 (all_entered b.heads.items b.arena.words.items) was ++ (record { step = c.args.step.now; answer = c.args.answer.now; records = l }) ∷ []) (sym (reverse-reverse (drop b.start was))) in
    rw (set, lines ∙ turned, reverse-append)
    (ap (λ (w : Written). record w.book { lines = (record { step = c.args.step.now; answer = c.args.answer.now; records = reverse w.hand }) ∷ w.book.lines }) c.self.view_is)

pub returns-clause-hand : goal.returns-clause-hand
returns-clause-hand c =
    let ps = c.self.inside.packed in
    let ws = c.pack_entry.new.self.words.items in
    let rs = c.pack_entry.new.self.wide.items in
    let short : length (records_of ps.items ws rs) ≤ c.end_of-end.result = omega (arith, length-record_of ps.items ws rs, ps.ok.0, c.end_of-end.ensures) in
    ap reverse (drop_all c.end_of-end.result (records_of ps.items ws rs) short)
