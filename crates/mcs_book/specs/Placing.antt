-- Copies, moves, deletions and new objects (manual: Capability Spaces; Make is this profile's).
use Rattle.std.specs.Prelude.{ℕ, Bool, false, cond, ◌&&◌, ◌==◌, nat_lt, is_none, Option, Some, None, Ok, List, filter}
use Rattle.mcs_types.specs.declared.id.ObjId.{ObjId}
use Rattle.mcs_types.specs.declared.id.Kind.{Kind}
use Rattle.mcs_types.specs.declared.id.Kind.TheVariants.{CNode}
use Rattle.mcs_types.specs.declared.cap.Cap.{Cap}
use Rattle.mcs_types.specs.declared.cap.Place.{Place}
use Rattle.mcs_types.specs.declared.record.Form.{Form}
use Rattle.mcs_types.specs.declared.record.Queue.TheVariants.{Senders}
use Rattle.mcs_types.specs.declared.record.Rec.TheVariants.{Made, Slot}
use Rattle.mcs_types.specs.declared.entry.Answer.TheVariants.{Done}
use Rattle.mcs_types.specs.declared.entry.Refusal.TheVariants.{SlotFull, SlotEmpty, NoRoom}
use Rattle.mcs_types.specs.Limits.{object_limit}
use Rattle.mcs_book.specs.Logs.{Log}
use Rattle.mcs_book.specs.Objects.{next_id, number_of}
use Rattle.mcs_book.specs.Slots.{SlotName, slot, count_of}
use Rattle.mcs_types.specs.declared.record.Letter.{Letter}
use Rattle.mcs_book.specs.Messages.{open_of}
use Rattle.mcs_book.specs.Queues.{queued_in}
use Rattle.mcs_book.specs.Checks.{Checked, ◌>>=◌, ◌>>◌, need, needed}
use Rattle.mcs_book.specs.Lookup.{slot_named}
use Rattle.mcs_book.specs.Rights.{is_kind}
use Rattle.mcs_book.specs.Pieces.{Piece, ◌then◌, nothing, say, Act, answers}
use Rattle.mcs_book.specs.Cancelling.{destroy}

-- a source that holds a capability, and a destination that is empty
pub record Places : Type 0 where
  pub cap : Cap
  pub source : SlotName
  pub dest : SlotName

-- the two places of a copy or a move
unfoldable pub source_and_dest : Log → ObjId → Place → Place → Checked Places
source_and_dest R t source dest = do
  from ← slot_named R t source
  to ← slot_named R t dest
  cap ← needed (slot R from.cnode from.index) SlotEmpty
  need (is_none (slot R to.cnode to.index)) SlotFull
  Ok (record { cap = cap; source = from; dest = to })

-- a slot gets a capability, or is emptied
abbrev pub fills : SlotName → Option Cap → Piece
fills at cap = say (Slot at.cnode at.index cap)

-- whether it is the last capability to a CNode
abbrev pub is_last_cnode : Log → Option Cap → Bool
is_last_cnode R None = false
is_last_cnode R (Some cap) = is_kind CNode cap && (count_of R cap.obj == 1)

-- o ends with its last capability
unfoldable pub destroy_last : ObjId → Piece
destroy_last o R = cond (count_of R o == 0) (destroy o) nothing R

-- the capability of a slot is deleted
unfoldable pub delete : SlotName → Option Cap → Act
delete at None = answers Done nothing
delete at (Some cap) = answers Done (fills at None then destroy_last cap.obj)

-- a new object, with a capability of these rights in an empty slot
unfoldable pub make : Log → ObjId → Kind → ℕ → Form → Place → Checked Act
make R t kind rights form place = do
  at ← slot_named R t place
  need (is_none (slot R at.cnode at.index)) SlotFull
  need (nat_lt (number_of R kind) object_limit) NoRoom
  let o = next_id R kind
  let cap : Cap = record { obj = o; rights = rights; badge = record { 0 = 0 }; guard = record { bits = 0; value = 0 } }
  Ok (answers Done (say (Made o form) then fills at (Some cap)))

-- whether a message has this badge
abbrev pub has_badge : ℕ → Option Letter → Bool
has_badge badge None = false
has_badge badge (Some s) = s.badge.0 == badge

-- the queued senders of e whose message has this badge, first to last
abbrev pub senders_with : Log → ObjId → ℕ → List ObjId
senders_with R e badge = filter (λ x. has_badge badge (open_of R x)) (queued_in R (Senders e))
