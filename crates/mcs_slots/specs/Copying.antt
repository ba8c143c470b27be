-- What a copy, a mint or a move brings to its destination, or the first check that fails: those of
-- the book's table.
use Rattle.std.specs.Prelude.{ℕ, ◌==◌, is_none, List, Result, Ok, Err}
use Rattle.mcs_types.specs.declared.id.Badge.{Badge}
use Rattle.mcs_types.specs.declared.cap.Cap.{Cap}
use Rattle.mcs_types.specs.declared.entry.Refusal.{Refusal}
use Rattle.mcs_types.specs.declared.entry.Refusal.TheVariants.{SlotEmpty, SlotFull, WrongKind, BadgeNotAllowed}
use Rattle.mcs_book.specs.Checks.{Checked, ◌>>=◌, ◌>>◌, need, needed}
use Rattle.mcs_book.specs.Rights.{can_badge}
use Rattle.mcs_slots.specs.declared.slots.SlotId.{SlotId}
use Rattle.mcs_slots.specs.Masks.{masked, badged}
use Rattle.mcs_slots.specs.Pages.{Page, slot_at}

-- the capability of the source, where the destination is empty
unfoldable pub source_cap : List Page → SlotId → SlotId → Checked Cap
source_cap S source dest = do
  cap ← needed (slot_at S source.cnode source.index) SlotEmpty
  need (is_none (slot_at S dest.cnode dest.index)) SlotFull
  Ok cap

-- the capability that a copy makes
unfoldable pub copy_of : List Page → SlotId → SlotId → ℕ → Checked Cap
copy_of S source dest rights = do
  cap ← source_cap S source dest
  Ok (masked cap rights)

-- the capability that a mint makes
unfoldable pub mint_of : List Page → SlotId → SlotId → ℕ → Badge → Checked Cap
mint_of S source dest rights badge = do
  cap ← source_cap S source dest
  need (can_badge cap) WrongKind
  need (cap.badge.0 == 0) BadgeNotAllowed
  Ok (badged cap rights badge)

-- whether a copy is done, or the refusal
abbrev pub answered : Checked Cap → Result (Unit {0}) Refusal
answered (Ok cap) = Ok tt
answered (Err why) = Err why
