use Rattle.mcs_objects.proofs.store.Store.make.Goals as goal

pub returns-clause-values : goal.returns-clause-values
returns-clause-values g c = rw c.add.ensures.id at c.add.ensures.values

pub returns-clause-places : goal.returns-clause-places
returns-clause-places g c = rw c.add.ensures.id at c.add.ensures.places
