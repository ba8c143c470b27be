-- How objects get their ids: the serials of a kind count from 1.
use Rattle.std.specs.Prelude.{◌≡◌, false}
use Rattle.mcs_types.specs.declared.record.Rec.{Rec}
use Rattle.mcs_types.specs.declared.record.Rec.TheVariants.{Made}
use Rattle.mcs_book.specs.Logs.{Log}
use Rattle.mcs_book.specs.Objects.{was_made, next_id}

-- an object that is made has the next id of its kind
abbrev pub TakesNextId : Log → Rec → Type 0
TakesNextId R (Made o form) = o ≡ next_id R o.kind
TakesNextId R _ = Unit {0}

-- no object is made twice
abbrev pub MadeOnce : Log → Rec → Type 0
MadeOnce R (Made o form) = was_made R o ≡ false
MadeOnce R _ = Unit {0}
