use Rattle.std.proofs.Common.{◌≡◌, ◌<◌, ◌-◌, suc, slice_get, length, refl, Some, sym, ap, ◌∙◌, arith}
use Rattle.std.proofs.lemmas.Option.{slice_get_read}
use Rattle.mcs_packing.specs.declared.heads.Head.{Head}
use Rattle.mcs_packing.specs.Heads.{entered_of, all_entered}
use Rattle.mcs_book.specs.Pages.{start_at}
use Rattle.mcs_packing.proofs.HeadLaws.{slice_get-heads}
use Rattle.mcs_book.proofs.Books.Cuts.{start_at-end}
use Rattle.mcs_book.proofs.book.start_of.Goals as goal

pub returns-else-at-eq0 : goal.returns-else-at-eq0
returns-else-at-eq0 c =
    let hs = all_entered c.args.heads.now c.args.words.now in
    let before : suc (c.args.at - 1) ≡ c.args.at = omega (arith, c.if-at-eq0.false) in
    let within : c.args.at - 1 < length c.args.heads.now = omega (arith, c.requires) in
    let one : slice_get c.args.heads.now (c.args.at - 1) ≡ Some c.index-heads-at.result = slice_get_read c.args.heads.now _ _ _ refl within c.index-heads-at.is in
    let two : slice_get hs (c.args.at - 1) ≡ Some (entered_of c.index-heads-at.result c.args.words.now) = slice_get-heads c.args.heads.now c.args.words.now (c.args.at - 1) c.index-heads-at.result one in
    ap (λ (h : Head). h.end) (sym c.index-heads-at.is) ∙ sym (start_at-end 0 hs (c.args.at - 1) (entered_of c.index-heads-at.result c.args.words.now) two) ∙ ap (start_at 0 hs) before
