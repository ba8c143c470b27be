use Rattle.std.proofs.Common.{ap, sym, subst, ◌∙◌}
use Rattle.mcs_slots.specs.Filling.{filled}
use Rattle.mcs_slots.specs.Tallies.{Tells, LetsGo}
use Rattle.mcs_slots.proofs.TallyLaws.{filled-told}
use Rattle.mcs_slots.proofs.slots.Slots.set.Goals as goal

pub invariant_of-self : goal.invariant_of-self
invariant_of-self c =
    let S = c.self.inside.pages in
    let less = subst (λ x. LetsGo c.self.inside.tallies x c.let_go.new.self) c.set-held.ensures.held c.let_go.ensures in
    subst (Tells c.count.new.self) (sym (c.set-held.ensures.filled ∙ ap (filled S c.args.slot) c.cap_again.ensures))
    (filled-told S c.args.slot c.args.cap c.self.inside.tallies c.let_go.new.self c.count.new.self c.are_pages.ensures.pages c.are_pages.ensures.few (rw (← c.self.view_is) at c.requires) c.self.invariant less c.count.ensures)
