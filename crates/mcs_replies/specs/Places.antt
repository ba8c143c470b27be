-- Numbers of places, where there are some.
use Rattle.std.specs.Prelude.{ℕ, Option, Some, None}
use Rattle.mcs_replies.specs.declared.places.PlaceNo.{PlaceNo}

abbrev pub place_number : Option PlaceNo → Option ℕ
place_number None = None
place_number (Some p) = Some p.0

-- the place of that number
abbrev pub place_at_number : ℕ → PlaceNo
place_at_number p = record { 0 = p }
