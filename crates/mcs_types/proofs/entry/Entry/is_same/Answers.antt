use Rattle.mcs_types.proofs.Same.{told_same}
use Rattle.mcs_types.proofs.SameEntries.{entry_tells}
use Rattle.mcs_types.proofs.entry.Entry.is_same.Goals as goal

pub returns : goal.returns
returns c = told_same entry_tells c.args.self.now c.args.entry.now c.eq.ensures
