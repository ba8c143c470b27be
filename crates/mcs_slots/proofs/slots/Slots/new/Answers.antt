use Rattle.std.proofs.Common.{subst, sym}
use Rattle.mcs_slots.specs.Tallies.{Tells}
use Rattle.mcs_slots.proofs.TallyLaws.{empty-told}
use Rattle.mcs_slots.proofs.slots.Slots.new.Goals as goal

pub invariant_of-result : goal.invariant_of-result
invariant_of-result c =
    subst (Tells c.in_ok-tallies.tallies) (sym c.in_ok-pages.ensures) (empty-told c.in_ok-tallies.tallies c.args.radices.now c.in_ok-tallies.ensures)
