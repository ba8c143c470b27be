use Rattle.std.proofs.Common.{refl, ap, ◌∙◌, ◌-◌, set, arith}
use Rattle.mcs_slots.proofs.SlotLaws.{set-filled, length-fills, pages-fills}
use Rattle.mcs_slots.proofs.pages.Pages.set.Goals as goal

pub invariant_of-self : goal.invariant_of-self
invariant_of-self c =
    let items = c.self.inside.pages.items in
    let place = c.args.slot in
    let e = ap (set items c.in-Some.number) c.set.ensures.filled ∙ set-filled items items place c.in-Some.number c.args.cap c.index_mut-page.result.now refl (rw (← c.self.view_is) at c.requires) c.in-Some.ensures c.index_mut-page.ensures.value in
    rw e (omega (arith, length-fills items (place.cnode.serial - 1) place.index c.args.cap, c.self.invariant.0), pages-fills items (place.cnode.serial - 1) place.index c.args.cap c.self.invariant.1)

pub returns-clause-filled : goal.returns-clause-filled
returns-clause-filled c =
    let items = c.self.inside.pages.items in
    let place = c.args.slot in
    ap (set items c.in-Some.number) c.set.ensures.filled ∙ set-filled items c.args.self.now place c.in-Some.number c.args.cap c.index_mut-page.result.now c.self.view_is c.requires c.in-Some.ensures c.index_mut-page.ensures.value
