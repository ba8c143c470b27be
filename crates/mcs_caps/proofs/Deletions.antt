-- The row of DeleteCap is what the code does, and an object that ends with its last capability may
-- end.
use Rattle.std.specs.Prelude.{ℕ, ◌≡◌, ◌==◌, Bool, true, false, cond, not, ◌∷◌, Some, None, Ok, Err}
use Rattle.std.proofs.Common.{refl, ap, sym, ◌∙◌, subst}
use Rattle.std.proofs.lemmas.Bool.{eq-eqb, eqb-true}
use Rattle.mcs_types.specs.declared.id.ObjId.{ObjId}
use Rattle.mcs_types.specs.declared.id.CoreId.{CoreId}
use Rattle.mcs_types.specs.declared.id.Kind.TheVariants.{CNode}
use Rattle.mcs_types.specs.declared.cap.Cap.{Cap}
use Rattle.mcs_types.specs.declared.cap.Place.{Place}
use Rattle.mcs_types.specs.declared.record.Rec.TheVariants as rec
use Rattle.mcs_types.specs.declared.entry.Answer.TheVariants.{Done}
use Rattle.mcs_types.specs.declared.entry.Entry.TheVariants.{DeleteCap}
use Rattle.mcs_types.specs.declared.entry.Refusal.TheVariants.{LastCNode}
use Rattle.mcs_types.specs.Ids.{same_kind}
use Rattle.mcs_types.proofs.Ids.{same_kind-self, both}
use Rattle.mcs_book.specs.Logs.{Log}
use Rattle.mcs_book.specs.Cancelling.{destroy}
use Rattle.mcs_book.specs.Checks.{Checked, ◌>>=◌, ◌>>◌, need}
use Rattle.mcs_book.specs.Lookup.{slot_named}
use Rattle.mcs_book.specs.Pieces.{Act, answers, nothing}
use Rattle.mcs_book.specs.Placing.{is_last_cnode, destroy_last, delete}
use Rattle.mcs_book.specs.Slots.{SlotName, slot, count_of}
use Rattle.mcs_book.specs.Table.{row}
use Rattle.mcs_book.proofs.Objects.CountLaws.{last-one}
use Rattle.mcs_slots.specs.declared.slots.SlotId.{SlotId}
use Rattle.mcs_cspace.specs.Spaces.{name_of}
use Rattle.mcs_state.specs.Checks.{act_of}
use Rattle.mcs_state.specs.Doing.{Makes, HasRoomFor}
use Rattle.mcs_state.specs.Now.{Now, so_far}
use Rattle.mcs_cancel.specs.Releasing.{IsNoCNode}
use Rattle.mcs_caps.specs.Deletions.{spared, deletable, deletes, takes_out}

-- what a slot holds is deleted, by the slot's name
abbrev pub deletes_named : Log → SlotName → Act
deletes_named R at = delete at (slot R at.cnode at.index)

-- the row of DeleteCap
pub row-delete : (R : Log) (core : CoreId) (t : ObjId) (place : Place) → row R core t (DeleteCap place) ≡ act_of (deletable R t place) (deletes_named R)
unfolding row ◌>>=◌ ◌>>◌ need
row-delete R core t place = go (slot_named R t place)
  where
    test : (b : Bool) (at : SlotName) → (need (not b) LastCNode >> Ok (deletes_named R at)) ≡ act_of (cond b (Err LastCNode) (Ok at)) (deletes_named R)
    test true at = refl
    test false at = refl

    go : (m : Checked SlotName) → (m >>= λ at. need (not (is_last_cnode R (slot R at.cnode at.index))) LastCNode >> Ok (deletes_named R at)) ≡ act_of (spared R m) (deletes_named R)
    go (Err why) = refl
    go (Ok at) = test (is_last_cnode R (slot R at.cnode at.index)) at

-- a slot that passed the test does not hold the last capability to a CNode
pub spared-ok : (R : Log) (m : Checked SlotName) (at : SlotName) → spared R m ≡ Ok at → is_last_cnode R (slot R at.cnode at.index) ≡ false
spared-ok R (Err why) at h = absurd cc
spared-ok R (Ok found) at h = go (is_last_cnode R (slot R found.cnode found.index)) refl h
  where
    go : (b : Bool) → is_last_cnode R (slot R found.cnode found.index) ≡ b → cond b (Err LastCNode) (Ok found) ≡ Ok at → is_last_cnode R (slot R at.cnode at.index) ≡ false
    go true e h = absurd cc
    go false e h = let it : found ≡ at = cc in subst (λ (x : SlotName). is_last_cnode R (slot R x.cnode x.index) ≡ false) it e

-- what is deleted, by what the slot holds
pub deletes-none : (R : Log) (at : SlotId) → slot R at.cnode at.index ≡ None → deletes R at ≡ answers Done nothing
unfolding delete
deletes-none R at is = ap (λ held. delete (name_of at) held) is

pub deletes-some : (R : Log) (at : SlotId) (cap : Cap) → slot R at.cnode at.index ≡ Some cap → deletes R at ≡ answers Done (takes_out at cap.obj)
unfolding delete
deletes-some R at cap is = ap (λ held. delete (name_of at) held) is

-- an object that ends with its last capability is no CNode, unless that was refused
pub no-cnode : (R : Log) (c : ObjId) (i : ℕ) (cap : Cap) → slot R c i ≡ Some cap → is_last_cnode R (Some cap) ≡ false → count_of (rec.Slot c i None ∷ R) cap.obj ≡ 0 → IsNoCNode cap.obj
no-cnode R c i cap held other none cnode =
    let last : is_last_cnode R (Some cap) ≡ true = both _ _ (ap (λ k. same_kind k CNode) cnode ∙ same_kind-self CNode) (eq-eqb _ 1 (last-one R c i cap held none)) in
    let no : true ≡ false = sym last ∙ other in
    absurd cc

-- an object ends with its last capability
pub ends-last : (o : ObjId) (n l : Now) → count_of (so_far n) o ≡ 0 → Makes (destroy o) n l → Makes (destroy_last o) n l
unfolding destroy_last
ends-last o n l none made = let e : (count_of (so_far n) o == 0) ≡ true = eq-eqb _ 0 none in rw e made

pub room-last : (o : ObjId) (n : Now) → count_of (so_far n) o ≡ 0 → HasRoomFor (destroy_last o) n → HasRoomFor (destroy o) n
unfolding destroy_last
room-last o n none room = let e : (count_of (so_far n) o == 0) ≡ true = eq-eqb _ 0 none in rw e at room

-- while there is another, it is left
pub leaves-other : (o : ObjId) (n : Now) → (count_of (so_far n) o ≡ 0 → ⊥) → Makes (destroy_last o) n n
unfolding destroy_last
leaves-other o n some = go (count_of (so_far n) o == 0) refl
  where
    go : (b : Bool) → (count_of (so_far n) o == 0) ≡ b → Makes (destroy_last o) n n
    go true e = absurd (some (eqb-true _ 0 e))
    go false e = rw e refl
