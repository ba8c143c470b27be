use Rattle.mcs_objects.proofs.EmptyPlaces.{empty-at}
use Rattle.mcs_objects.proofs.places.empty_places.Goals as goal

pub returns-clause-nothing : goal.returns-clause-nothing
returns-clause-nothing g c = λ kind x. empty-at _ kind x c.in_ok-places.ensures.empty
