-- The rows of CopyCap, MintCap and MoveCap, in the parts in which the code does them.
use Rattle.std.specs.Prelude.{cond, ◌==◌, Some, None, Ok, Err, [], ◌∷◌}
use Rattle.mcs_types.specs.declared.cap.Cap.{Cap}
use Rattle.mcs_types.specs.declared.record.Rec.TheVariants.{Slot}
use Rattle.mcs_types.specs.declared.entry.Answer.TheVariants.{Done}
use Rattle.mcs_types.specs.declared.entry.Refusal.TheVariants.{WrongKind, BadgeNotAllowed}
use Rattle.mcs_book.specs.Checks.{Checked}
use Rattle.mcs_book.specs.Rights.{can_badge}
use Rattle.mcs_book.specs.Pieces.{Act, answers}
use Rattle.mcs_book.specs.Placing.{Places, fills}
use Rattle.mcs_cspace.specs.Spaces.{name_of}
use Rattle.mcs_caps.specs.declared.checks.Placing.{Placing}

-- the places that were found, by the names of their slots
abbrev pub places_of : Placing → Places
places_of at = record { cap = at.cap; source = name_of at.source; dest = name_of at.dest }

-- the places as found by numbers, or the refusal
abbrev pub placed_by : Checked Placing → Checked Places
placed_by (Ok at) = Ok (places_of at)
placed_by (Err why) = Err why

-- what was found, where a badge may be set on it
abbrev pub mintable : Checked Placing → Checked Placing
mintable (Err why) = Err why
mintable (Ok at) = cond (can_badge at.cap) (cond (at.cap.badge.0 == 0) (Ok at) (Err BadgeNotAllowed)) (Err WrongKind)

-- the empty slot gets a capability
abbrev pub fills_act : Placing → Cap → Act
fills_act at cap = answers Done (fills (name_of at.dest) (Some cap))

-- the empty slot gets the capability that was found, and its own is emptied
abbrev pub moves_act : Placing → Act
moves_act at R = record {
  answer = Done;
  records = Slot at.dest.cnode at.dest.index (Some at.cap) ∷ Slot at.source.cnode at.source.index None ∷ [];
}
