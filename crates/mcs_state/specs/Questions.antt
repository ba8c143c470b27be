-- What is asked of what may not be there.
use Rattle.std.specs.Prelude.{ℕ, cond, Option, Some, None, Result}
use Rattle.mcs_types.specs.declared.id.ObjId.{ObjId}
use Rattle.mcs_types.specs.declared.id.Kind.TheVariants as kind
use Rattle.mcs_types.specs.declared.id.Prio.{Prio}
use Rattle.mcs_types.specs.declared.cap.Cap.{Cap}
use Rattle.mcs_types.specs.declared.entry.Refusal.{Refusal}
use Rattle.mcs_book.specs.Logs.{Log}
use Rattle.mcs_book.specs.Lookup.{capability, slot_named}
use Rattle.mcs_book.specs.Slots.{SlotName}
use Rattle.mcs_types.specs.declared.cap.Place.{Place}
use Rattle.mcs_book.specs.Notifications.{pending}
use Rattle.mcs_book.specs.Threads.{prio_of, root_of}
use Rattle.mcs_state.specs.Tables.{is_there}

-- the priority of a thread that is there
abbrev pub priority_of : Log → ObjId → Option Prio
priority_of R t = cond (is_there R kind.Thread t) (Some (record { 0 = prio_of R t })) None

-- the pending word of a notification that is there
abbrev pub word_of : Log → ObjId → Option ℕ
word_of R n = cond (is_there R kind.Notification n) (pending R n) None

-- what an address of a thread that is there names
abbrev pub named_for : Log → ObjId → ℕ → Option (Result Cap Refusal)
named_for R t address = cond (is_there R kind.Thread t) (Some (capability R t address)) None

-- the slot that a place of a thread that is there names
abbrev pub placed_for : Log → ObjId → Place → Option (Result SlotName Refusal)
placed_for R t place = cond (is_there R kind.Thread t) (Some (slot_named R t place)) None

-- the root capability of a thread that is there
abbrev pub root_said : Log → ObjId → Option Cap
root_said R t = cond (is_there R kind.Thread t) (root_of R t) None
