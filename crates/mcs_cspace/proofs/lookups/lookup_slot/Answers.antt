use Rattle.mcs_cspace.specs.Spaces.{slots_space}
use Rattle.mcs_cspace.proofs.SpaceLaws.{slots-narrow}
use Rattle.mcs_cspace.proofs.NamedLaws.{slot-named, slot-unnamed}
use Rattle.mcs_cspace.proofs.lookups.lookup_slot.Goals as goal

pub returns-clause-named : goal.returns-clause-named
returns-clause-named c = slot-named (slots_space c.args.slots.now) c.args.root.now c.args.place c.place_from.result c.place_from.ensures.value

pub returns-clause-unnamed : goal.returns-clause-unnamed
returns-clause-unnamed c = slot-unnamed (slots_space c.args.slots.now) c.args.root.now c.args.place c.place_from.result (slots-narrow c.args.slots.now c.args.root.now c.are_pages.ensures.pages) c.place_from.ensures.value
