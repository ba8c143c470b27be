-- The rows of the entries that make objects, in the parts in which the code does them.
use Rattle.std.specs.Prelude.{ℕ, ◌<◌, cond, nat_lt, is_none, Some, Ok, Err}
use Rattle.mcs_types.specs.Limits.{object_limit}
use Rattle.mcs_types.specs.declared.id.ObjId.{ObjId}
use Rattle.mcs_types.specs.declared.id.CoreId.{CoreId}
use Rattle.mcs_types.specs.declared.id.Kind.{Kind}
use Rattle.mcs_types.specs.declared.id.Kind.TheVariants.{Endpoint, Notification, Reply, Context}
use Rattle.mcs_types.specs.declared.cap.Cap.{Cap}
use Rattle.mcs_types.specs.declared.cap.Place.{Place}
use Rattle.mcs_types.specs.declared.record.Form.{Form}
use Rattle.mcs_types.specs.declared.record.Form.TheVariants.{Plain, OnCore}
use Rattle.mcs_types.specs.declared.record.Rec.TheVariants.{Made}
use Rattle.mcs_types.specs.declared.entry.Entry.{Entry}
use Rattle.mcs_types.specs.declared.entry.Entry.TheVariants.{MakeEndpoint, MakeNotification, MakeReply, MakeContext}
use Rattle.mcs_types.specs.declared.entry.Answer.TheVariants.{Done}
use Rattle.mcs_types.specs.declared.entry.Refusal.TheVariants.{SlotFull, NoRoom}
use Rattle.mcs_book.specs.Logs.{Log, counted}
use Rattle.mcs_book.specs.Objects.{makes_kind, number_of, next_id}
use Rattle.mcs_book.specs.Slots.{SlotName, slot}
use Rattle.mcs_book.specs.Checks.{Checked}
use Rattle.mcs_book.specs.Lookup.{slot_named}
use Rattle.mcs_book.specs.Pieces.{Piece, Act, ◌then◌, say, answers}
use Rattle.mcs_book.specs.Placing.{fills}
use Rattle.mcs_slots.specs.declared.slots.SlotId.{SlotId}
use Rattle.mcs_cspace.specs.Spaces.{name_of}
use Rattle.mcs_state.specs.Making.{SERIALS}

-- of no kind was each serial given
abbrev pub HasSerials : Log → Type 0
HasSerials R = (k : Kind) → counted (makes_kind k) R < SERIALS

-- the entry that makes an object of a kind
abbrev pub entry_making : Kind → Place → Entry
entry_making Endpoint place = MakeEndpoint place
entry_making Notification place = MakeNotification place
entry_making Reply place = MakeReply place
entry_making _ place = MakeContext place

-- the form of an object of a kind that is made on a core
abbrev pub new_form : Kind → CoreId → Form
new_form Context core = OnCore core
new_form _ core = Plain

-- the rights of the capability that comes with an object of a kind
abbrev pub new_rights : Kind → ℕ
new_rights Endpoint = 15
new_rights Notification = 15
new_rights _ = 0

-- the capability that comes with an object
abbrev pub new_cap : ObjId → Cap
new_cap o = record { obj = o; rights = new_rights o.kind; badge = record { 0 = 0 }; guard = record { bits = 0; value = 0 } }

-- what was found, where it is empty, and one more object of a kind may be there
abbrev pub free : Log → Kind → Checked SlotName → Checked SlotName
free R k (Err why) = Err why
free R k (Ok at) = cond (is_none (slot R at.cnode at.index)) (cond (nat_lt (number_of R k) object_limit) (Ok at) (Err NoRoom)) (Err SlotFull)

-- the slot in which t may make an object of a kind, or the first check that fails
abbrev pub vacant : Log → ObjId → Kind → Place → Checked SlotName
vacant R t k place = free R k (slot_named R t place)

-- an object is made, and an empty slot gets a capability to it
abbrev pub makes_at : ObjId → CoreId → SlotId → Piece
makes_at o core at = say (Made o (new_form o.kind core)) then fills (name_of at) (Some (new_cap o))

-- the next object of a kind is made so
abbrev pub makes : Log → Kind → CoreId → SlotId → Act
makes R k core at = answers Done (makes_at (next_id R k) core at)
