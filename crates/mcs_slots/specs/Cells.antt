-- What a slot holds, as it is kept: side by side.
use Rattle.std.specs.Prelude.{◌≡◌, Option, Some, None, refl}
use Rattle.mcs_types.specs.declared.cap.Cap.{Cap}
use Rattle.mcs_slots.specs.declared.cell.Fields.{Fields}
use Rattle.mcs_slots.specs.declared.cell.Fields.TheVariants.{Empty, Filled}

-- the capability that has these fields
abbrev pub cap_in : Fields → Option Cap
cap_in Empty = None
cap_in (Filled kind rights bits serial badge value) = Some (record { obj = record { kind = kind; serial = serial }; rights = rights; badge = badge; guard = record { bits = bits; value = value } })

-- the fields that hold this
abbrev pub fields_of : Option Cap → Fields
fields_of None = Empty
fields_of (Some c) = Filled c.obj.kind c.rights c.guard.bits c.obj.serial c.badge c.guard.value

-- they are the same again
pub fields_again : (f : Fields) → fields_of (cap_in f) ≡ f
fields_again Empty = refl
fields_again (Filled kind rights bits serial badge value) = refl
