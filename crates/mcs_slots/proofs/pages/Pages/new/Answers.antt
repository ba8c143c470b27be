use Rattle.std.proofs.Common.{◌<◌, ◌≤◌, [], ◌∷◌, ◌++◌, length, map, take, get_or, ap, ap₂, sym, subst, ◌∙◌, arith}
use Rattle.std.proofs.lemmas.List.{take_more}
use Rattle.std.proofs.lemmas.List.Elements.{All-get_or}
use Rattle.mcs_slots.specs.Pages.{empty_page, IsPage}
use Rattle.mcs_slots.proofs.SlotLaws.{made-append, pages-append, empty-is-page}
use Rattle.mcs_slots.proofs.pages.Pages.new.Goals as goal

pub loop-radix-preserved : goal.loop-radix-preserved
loop-radix-preserved c =
    let rs = c.args.radices.now in
    let i = c.loop-radix.radix-index in
    let lt : i < length rs = omega arith in
    let within = All-get_or (λ r. (1 ≤ r) × (r ≤ 8)) rs i 0 lt c.requires.radices in
    let put = c.push_reserved.ensures in (
      put.items ∙ ap₂ (λ ps p. ps ++ p ∷ []) c.loop-radix.invariant.0 c.in_ok-empty.ensures ∙ sym (made-append (get_or rs i 0) (take i rs)) ∙ ap (map empty_page) (sym (take_more rs i 0 lt)),
      omega (arith, c.loop-radix.invariant.1, put.capacity),
      rw put.items (pages-append _ _ c.loop-radix.invariant.2 (subst IsPage (sym c.in_ok-empty.ensures) (empty-is-page (get_or rs i 0) within.0 within.1))),
    )
