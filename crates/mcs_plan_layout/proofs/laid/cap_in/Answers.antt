use Rattle.std.proofs.Common.{Option, option_copied, option_and_then, sym, ap, ◌∙◌}
use Rattle.mcs_plan_source.proofs.Entries.{find_in}
use Rattle.mcs_plan_source.specs.declared.plan.Slot.{Slot}
use Rattle.mcs_plan_source.specs.Slots.{slots_of}
use Rattle.mcs_plan_layout.proofs.SaidSpaces.{cap_said}
use Rattle.mcs_plan_layout.proofs.laid.cap_in.Goals as goal

pub returns-in-Some : goal.returns-in-Some
returns-in-Some c =
    ap (λ (o : Option Slot). option_and_then (λ (s : Slot). s.cap) o)
    (ap (λ o. option_copied o) (sym c.in-Some.is) ∙ c.get.ensures.value ∙ find_in c.args.name.now c.args.space.now.slots.entries)
    ∙ sym (cap_said (slots_of c.args.space.now) c.args.name.now)

pub returns-in-None : goal.returns-in-None
returns-in-None c =
    ap (λ (o : Option Slot). option_and_then (λ (s : Slot). s.cap) o)
    (ap (λ o. option_copied o) (sym c.in-None.is) ∙ c.get.ensures.value ∙ find_in c.args.name.now c.args.space.now.slots.entries)
    ∙ sym (cap_said (slots_of c.args.space.now) c.args.name.now)
