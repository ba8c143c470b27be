use Rattle.mcs_packing.proofs.Packings.{record_of-grows, Fits-grows}
use Rattle.mcs_packing.proofs.laws.records_kept.Goals as goal

pub returns-clause-value : goal.returns-clause-value
returns-clause-value g c = rw (c.requires.1.words.is, c.requires.1.wide.is) (record_of-grows g.at.0 g.at.1.words.items c.requires.1.words.more g.at.1.wide.items c.requires.1.wide.more c.requires.0)

pub returns-clause-fits : goal.returns-clause-fits
returns-clause-fits g c = rw (c.requires.1.words.is, c.requires.1.wide.is) (Fits-grows g.at.0 g.at.1.words.items c.requires.1.words.more g.at.1.wide.items c.requires.1.wide.more c.requires.0)
