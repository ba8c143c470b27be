-- The rows of the entries that make objects are what the code does; what is known of a slot once a
-- thread was woken and an object made.
use Rattle.std.specs.Prelude.{ℕ, ◌≡◌, ◌≢◌, ◌<◌, ◌^◌, ◌∷◌, Bool, true, false, cond, is_none, nat_lt, Option, Some, Ok, Err, IsTrue}
use Rattle.std.proofs.Common.{refl, ap, sym, ◌∙◌, subst}
use Rattle.mcs_types.specs.Limits.{object_limit}
use Rattle.mcs_types.specs.declared.id.ObjId.{ObjId}
use Rattle.mcs_types.specs.declared.id.CoreId.{CoreId}
use Rattle.mcs_types.specs.declared.id.Kind.{Kind}
use Rattle.mcs_types.specs.declared.id.Kind.TheVariants as kind
use Rattle.mcs_types.specs.declared.cap.Cap.{Cap}
use Rattle.mcs_types.specs.declared.cap.Place.{Place}
use Rattle.mcs_types.specs.declared.record.Form.{Form}
use Rattle.mcs_types.specs.declared.record.Form.TheVariants as form
use Rattle.mcs_types.specs.declared.record.Mode.{Mode}
use Rattle.mcs_types.specs.declared.record.Mode.TheVariants.{Running, Restart, Inactive}
use Rattle.mcs_types.specs.declared.record.Rec.TheVariants as rec
use Rattle.mcs_types.specs.declared.entry.Answer.TheVariants.{Done}
use Rattle.mcs_types.specs.declared.entry.Refusal.TheVariants.{SlotFull, NoRoom}
use Rattle.mcs_book.specs.Logs.{Log, onto}
use Rattle.mcs_book.specs.Objects.{is_alive, next_id, number_of, form_of}
use Rattle.mcs_book.specs.Slots.{SlotName, slot}
use Rattle.mcs_book.specs.Checks.{Checked, ◌>>=◌, ◌>>◌, need}
use Rattle.mcs_book.specs.Lookup.{slot_named, radix_kept}
use Rattle.mcs_book.specs.Pieces.{Act, ◌then◌, say, answers}
use Rattle.mcs_book.specs.Placing.{fills, make}
use Rattle.mcs_book.specs.Sound.{Sound, Allowed}
use Rattle.mcs_book.specs.Table.{row, wakes}
use Rattle.mcs_book.proofs.Objects.CountLaws.{made-there}
use Rattle.mcs_book.proofs.SoundLogs.KeptLaws.{there-next, set-other}
use Rattle.mcs_slots.specs.declared.slots.SlotId.{SlotId}
use Rattle.mcs_state.specs.Checks.{act_of}
use Rattle.mcs_state.specs.Making.{HasRoom, has_limit}
use Rattle.mcs_caps.specs.NewObjects.{entry_making, new_form, new_rights, free, vacant}
use Rattle.mcs_caps.specs.Placed.{IsSlot}

-- a new object of a kind of this form, with a capability of these rights
abbrev acts : Log → Kind → ℕ → Form → SlotName → Act
acts R k rights f at = answers Done (say (rec.Made (next_id R k) f) then fills at (Some (record { obj = next_id R k; rights = rights; badge = record { 0 = 0 }; guard = record { bits = 0; value = 0 } })))

-- the checks of a new object
make-is : (R : Log) (t : ObjId) (k : Kind) (rights : ℕ) (f : Form) (place : Place) → make R t k rights f place ≡ act_of (vacant R t k place) (acts R k rights f)
unfolding make ◌>>=◌ ◌>>◌ need
make-is R t k rights f place = go (slot_named R t place)
  where
    tests : (b c : Bool) (at : SlotName) → (need b SlotFull >> (need c NoRoom >> Ok (acts R k rights f at))) ≡ act_of (cond b (cond c (Ok at) (Err NoRoom)) (Err SlotFull)) (acts R k rights f)
    tests true true at = refl
    tests true false at = refl
    tests false c at = refl

    go : (m : Checked SlotName) → (m >>= λ at. need (is_none (slot R at.cnode at.index)) SlotFull >> (need (nat_lt (number_of R k) object_limit) NoRoom >> Ok (acts R k rights f at))) ≡ act_of (free R k m) (acts R k rights f)
    go (Err why) = refl
    go (Ok at) = tests (is_none (slot R at.cnode at.index)) (nat_lt (number_of R k) object_limit) at

-- the next object of a kind is made, and a slot of this name gets a capability to it
abbrev pub makes_named : Log → Kind → CoreId → SlotName → Act
makes_named R k core = acts R k (new_rights k) (new_form k core)

-- the rows of the four entries
pub row-make : (R : Log) (core : CoreId) (t : ObjId) (k : Kind) (place : Place) → has_limit k ≡ true → row R core t (entry_making k place) ≡ act_of (vacant R t k place) (makes_named R k core)
unfolding row
row-make R core t kind.Endpoint place limited = make-is R t kind.Endpoint 15 form.Plain place
row-make R core t kind.Notification place limited = make-is R t kind.Notification 15 form.Plain place
row-make R core t kind.Reply place limited = make-is R t kind.Reply 0 form.Plain place
row-make R core t kind.Context place limited = make-is R t kind.Context 0 (form.OnCore core) place
row-make R core t kind.CNode place limited = absurd cc
row-make R core t kind.Thread place limited = absurd cc

-- where the tests were passed, one more object may be there
pub free-room : (R : Log) (k : Kind) (m : Checked SlotName) (at : SlotName) → free R k m ≡ Ok at → nat_lt (number_of R k) object_limit ≡ true
free-room R k (Err why) at h = absurd cc
free-room R k (Ok found) at h = go (is_none (slot R found.cnode found.index)) (nat_lt (number_of R k) object_limit) refl h
  where
    go : (b c : Bool) → nat_lt (number_of R k) object_limit ≡ c → cond b (cond c (Ok found) (Err NoRoom)) (Err SlotFull) ≡ Ok at → nat_lt (number_of R k) object_limit ≡ true
    go b true e h = e
    go true false e h = absurd cc
    go false false e h = absurd cc

-- waking changes neither the room for objects, nor what the next is
pub woken-room : (R : Log) (t : ObjId) (m : Mode) (k : Kind) → HasRoom R k → HasRoom (onto (wakes m t R) R) k
woken-room R t Running k h = h
woken-room R t Restart k h = record { few = h.few; fresh = h.fresh }
woken-room R t Inactive k h = h

pub woken-next : (R : Log) (t : ObjId) (m : Mode) (k : Kind) → next_id (onto (wakes m t R) R) k ≡ next_id R k
woken-next R t Running k = refl
woken-next R t Restart k = refl
woken-next R t Inactive k = refl

-- the slot may get a capability to what was made
pub may-fill-new : (R : Log) (k : Kind) (f : Form) (at : SlotId) (cap : Cap) → Sound R → has_limit k ≡ true → IsSlot R at → cap.obj ≡ next_id R k → Allowed (rec.Made (next_id R k) f ∷ R) (rec.Slot at.cnode at.index (Some cap))
may-fill-new R k f at new sound limited is object = (
  there-next R (rec.Made (next_id R k) f) kind.CNode at.cnode is.0 refl,
  subst (λ (g : Option Form). at.index < 2 ^ radix_kept g) (sym (set-other at.cnode (next_id R k) (Some f) (form_of R at.cnode) other)) is.1,
  subst (λ o. IsTrue (is_alive (rec.Made (next_id R k) f ∷ R) o)) (sym object) (made-there R k f sound).1,
)
  where
    no-cnode : (j : Kind) → j ≡ kind.CNode → has_limit j ≡ true → ⊥
    no-cnode j e h = let no : has_limit kind.CNode ≡ true = ap has_limit (sym e) ∙ h in absurd cc

    other : at.cnode ≢ next_id R k
    other e = no-cnode k (sym (ap (λ (o : ObjId). o.kind) e) ∙ is.0.0) limited
