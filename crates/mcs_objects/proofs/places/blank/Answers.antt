use Rattle.std.proofs.Common.{arith}
use Rattle.mcs_objects.proofs.EmptyPlaces.{empty-more}
use Rattle.mcs_objects.proofs.places.blank.Goals as goal

pub loop-preserved : goal.loop-preserved
loop-preserved g c = (omega (arith, c.loop.invariant.0, c.in_ok-push.ensures.len), rw c.in_ok-push.ensures.items (empty-more c.loop.places.items c.loop.invariant.1))
