use Rattle.std.proofs.Common.{sym, ◌∙◌}
use Rattle.mcs_slots.proofs.TallyLaws.{owner-held}
use Rattle.mcs_slots.proofs.slots.Slots.count_of.Goals as goal

pub returns-in-Some : goal.returns-in-Some
returns-in-Some c =
    c.held.ensures
    ∙ owner-held c.self.inside.tallies c.args.self.now c.args.obj c.in-Some.tally (rw (← c.self.view_is) c.self.invariant) (sym c.of_bucket.ensures ∙ c.in-Some.is) (sym c.owns.ensures ∙ c.if-owns.true)
