use Rattle.std.proofs.Common.{◌∷◌, [], length, ap, sym, subst, arith}
use Rattle.std.proofs.lemmas.List.{length-append}
use Rattle.mcs_slots.specs.Pages.{IsPage}
use Rattle.mcs_slots.proofs.SlotLaws.{pages-append, empty-is-page}
use Rattle.mcs_slots.proofs.pages.Pages.add.Goals as goal

pub invariant_of-self-2 : goal.invariant_of-self-2
invariant_of-self-2 c =
    let put = c.push_reserved.ensures in
    rw (put.items) (
      omega (arith, c.requires.few, ap length c.self.view_is, ap length c.reserve.ensures.items, length-append c.reserve.new.self.items (c.in_ok-page.page ∷ [])),
      pages-append _ _ (rw c.reserve.ensures.items c.self.invariant.1) (subst IsPage (sym c.in_ok-page.ensures) (empty-is-page c.args.radix c.requires.some c.requires.small)),
    )
