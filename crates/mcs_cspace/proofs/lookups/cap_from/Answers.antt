use Rattle.std.proofs.Common.{ap, sym, ◌∙◌}
use Rattle.mcs_types.specs.declared.entry.Refusal.TheVariants.{Missing}
use Rattle.mcs_book.specs.Checks.{needed}
use Rattle.mcs_slots.specs.Pages.{page_slot}
use Rattle.mcs_cspace.specs.Spaces.{slots_space, walked_by}
use Rattle.mcs_cspace.proofs.NamedLaws.{cap-ends, cap-refused}
use Rattle.mcs_cspace.proofs.lookups.cap_from.Goals as goal

pub returns-in-Err : goal.returns-in-Err
returns-in-Err c = cap-refused (slots_space c.args.slots.now) c.args.root.now c.args.address c.in-Err.refusal (ap (walked_by c.args.address) (sym c.in-Err.is) ∙ c.find.ensures.value)

pub returns-in-Ok : goal.returns-in-Ok
returns-in-Ok c =
    c.held.ensures
    ∙ ap (λ p. needed (page_slot p c.in-Ok.end.slot.index) Missing) c.in-Ok.ensures.page
    ∙ cap-ends (slots_space c.args.slots.now) c.args.root.now c.args.address c.in-Ok.end (ap (walked_by c.args.address) (sym c.in-Ok.is) ∙ c.find.ensures.value)
