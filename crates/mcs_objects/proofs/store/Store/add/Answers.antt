use Rattle.mcs_objects.proofs.MapLaws.{value-added, place-added}
use Rattle.mcs_objects.proofs.store.Store.add.Goals as goal

pub returns-clause-values : goal.returns-clause-values
returns-clause-values g c = rw c.push.ensures.id (λ x. value-added c.args.self.now c.push.new.self c.args.value x c.is_map.ensures c.push.ensures.added)

pub returns-clause-places : goal.returns-clause-places
returns-clause-places g c = rw c.push.ensures.id (λ x other. place-added c.args.self.now c.push.new.self c.args.value x c.is_map.ensures c.push.ensures.added other)
