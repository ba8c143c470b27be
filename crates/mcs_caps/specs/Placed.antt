-- What is known of the slots that were found.
use Rattle.std.specs.Prelude.{◌≡◌, ◌<◌, ◌^◌, Some}
use Rattle.mcs_types.specs.declared.id.Kind.TheVariants as kind
use Rattle.mcs_book.specs.Logs.{Log}
use Rattle.mcs_book.specs.Objects.{form_of}
use Rattle.mcs_book.specs.Slots.{slot}
use Rattle.mcs_book.specs.Lookup.{radix_kept}
use Rattle.mcs_book.specs.Sound.{IsThere}
use Rattle.mcs_slots.specs.declared.slots.SlotId.{SlotId}
use Rattle.mcs_caps.specs.declared.checks.Placing.{Placing}

-- a slot of a CNode that is there
abbrev pub IsSlot : Log → SlotId → Type 0
IsSlot R at = IsThere R kind.CNode at.cnode × (at.index < 2 ^ radix_kept (form_of R at.cnode))

-- both slots are there, and the first holds the capability
pub record IsPlaced (R : Log) (at : Placing) : Type 0 where
  pub source : IsSlot R at.source
  pub dest : IsSlot R at.dest
  pub held : slot R at.source.cnode at.source.index ≡ Some at.cap
