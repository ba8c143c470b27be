-- The checks of copies, mints and moves, case by case.
use Rattle.std.proofs.Common.{◌≡◌, ℕ, true, false, ◌==◌, is_none, List, Some, None, Ok, Err, refl}
use Rattle.mcs_types.specs.declared.id.Badge.{Badge}
use Rattle.mcs_types.specs.declared.cap.Cap.{Cap}
use Rattle.mcs_types.specs.declared.entry.Refusal.{Refusal}
use Rattle.mcs_types.specs.declared.entry.Refusal.TheVariants.{SlotEmpty, SlotFull, WrongKind, BadgeNotAllowed}
use Rattle.mcs_book.specs.Checks.{◌>>=◌, ◌>>◌, need, needed}
use Rattle.mcs_book.specs.Rights.{can_badge}
use Rattle.mcs_slots.specs.declared.slots.SlotId.{SlotId}
use Rattle.mcs_slots.specs.Masks.{masked, badged}
use Rattle.mcs_slots.specs.Pages.{Page, slot_at}
use Rattle.mcs_slots.specs.Copying.{source_cap, copy_of, mint_of}

pub source-empty : (S : List Page) (source dest : SlotId) → slot_at S source.cnode source.index ≡ None → source_cap S source dest ≡ Err SlotEmpty
unfolding source_cap ◌>>=◌ ◌>>◌ need needed
source-empty S source dest h = rw h refl

pub source-full : (S : List Page) (source dest : SlotId) (cap : Cap) → slot_at S source.cnode source.index ≡ Some cap → is_none (slot_at S dest.cnode dest.index) ≡ false → source_cap S source dest ≡ Err SlotFull
unfolding source_cap ◌>>=◌ ◌>>◌ need needed
source-full S source dest cap h full = rw (h, full) refl

pub source-found : (S : List Page) (source dest : SlotId) (cap : Cap) → slot_at S source.cnode source.index ≡ Some cap → is_none (slot_at S dest.cnode dest.index) ≡ true → source_cap S source dest ≡ Ok cap
unfolding source_cap ◌>>=◌ ◌>>◌ need needed
source-found S source dest cap h none = rw (h, none) refl

pub copy-err : (S : List Page) (source dest : SlotId) (rights : ℕ) (why : Refusal) → source_cap S source dest ≡ Err why → copy_of S source dest rights ≡ Err why
unfolding copy_of ◌>>=◌
copy-err S source dest rights why h = rw h refl

pub copy-ok : (S : List Page) (source dest : SlotId) (rights : ℕ) (cap : Cap) → source_cap S source dest ≡ Ok cap → copy_of S source dest rights ≡ Ok (masked cap rights)
unfolding copy_of ◌>>=◌
copy-ok S source dest rights cap h = rw h refl

pub mint-err : (S : List Page) (source dest : SlotId) (rights : ℕ) (badge : Badge) (why : Refusal) → source_cap S source dest ≡ Err why → mint_of S source dest rights badge ≡ Err why
unfolding mint_of ◌>>=◌
mint-err S source dest rights badge why h = rw h refl

pub mint-kind : (S : List Page) (source dest : SlotId) (rights : ℕ) (badge : Badge) (cap : Cap) → source_cap S source dest ≡ Ok cap → can_badge cap ≡ false → mint_of S source dest rights badge ≡ Err WrongKind
unfolding mint_of ◌>>=◌ ◌>>◌ need
mint-kind S source dest rights badge cap h kind = rw (h, kind) refl

pub mint-badged : (S : List Page) (source dest : SlotId) (rights : ℕ) (badge : Badge) (cap : Cap) → source_cap S source dest ≡ Ok cap → can_badge cap ≡ true → (cap.badge.0 == 0) ≡ false → mint_of S source dest rights badge ≡ Err BadgeNotAllowed
unfolding mint_of ◌>>=◌ ◌>>◌ need
mint-badged S source dest rights badge cap h kind has = rw (h, kind, has) refl

pub mint-ok : (S : List Page) (source dest : SlotId) (rights : ℕ) (badge : Badge) (cap : Cap) → source_cap S source dest ≡ Ok cap → can_badge cap ≡ true → (cap.badge.0 == 0) ≡ true → mint_of S source dest rights badge ≡ Ok (badged cap rights badge)
unfolding mint_of ◌>>=◌ ◌>>◌ need
mint-ok S source dest rights badge cap h kind none = rw (h, kind, none) refl
