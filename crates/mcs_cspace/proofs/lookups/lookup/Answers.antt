use Rattle.mcs_cspace.specs.Spaces.{slots_space}
use Rattle.mcs_cspace.proofs.SpaceLaws.{slots-narrow}
use Rattle.mcs_cspace.proofs.NamedLaws.{cap-named, cap-unnamed}
use Rattle.mcs_cspace.proofs.lookups.lookup.Goals as goal

pub returns-clause-named : goal.returns-clause-named
returns-clause-named c = cap-named (slots_space c.args.slots.now) c.args.root.now c.args.address c.cap_from.result c.cap_from.ensures

pub returns-clause-unnamed : goal.returns-clause-unnamed
returns-clause-unnamed c = cap-unnamed (slots_space c.args.slots.now) c.args.root.now c.args.address c.cap_from.result (slots-narrow c.args.slots.now c.args.root.now c.are_pages.ensures.pages) c.cap_from.ensures
