use Rattle.std.proofs.Common.{◌≡◌, vec_len}
use Rattle.mcs_objects.specs.Places.{AreEmpty}
use Rattle.mcs_objects.proofs.places.blank.Given as goal

abbrev pub invariant-loop : goal.invariant-loop
invariant-loop g l = (vec_len l.places ≡ l.counter) × AreEmpty l.places.items
