-- What the two places of a copy or a move are, by what was looked up.
use Rattle.std.specs.Prelude.{◌≡◌, cond, is_some, Option, Some, None, Ok, Err}
use Rattle.std.proofs.Common.{refl, ap, sym, ◌∙◌}
use Rattle.mcs_types.specs.declared.id.ObjId.{ObjId}
use Rattle.mcs_types.specs.declared.cap.Cap.{Cap}
use Rattle.mcs_types.specs.declared.cap.Place.{Place}
use Rattle.mcs_types.specs.declared.entry.Refusal.{Refusal}
use Rattle.mcs_types.specs.declared.entry.Refusal.TheVariants.{SlotEmpty, SlotFull}
use Rattle.mcs_book.specs.Logs.{Log}
use Rattle.mcs_book.specs.Slots.{slot}
use Rattle.mcs_book.specs.Checks.{Checked, ◌>>=◌, ◌>>◌, need, needed}
use Rattle.mcs_book.specs.Lookup.{slot_named}
use Rattle.mcs_book.specs.Placing.{source_and_dest}
use Rattle.mcs_slots.specs.declared.slots.SlotId.{SlotId}
use Rattle.mcs_cspace.specs.Spaces.{name_of, named_by}
use Rattle.mcs_caps.specs.Rows.{placed_by}

-- what a lookup gave, by what its contract says and by how it is matched
pub looked : (R : Log) (t : ObjId) (s : Place) (m n : Checked SlotId) → named_by m ≡ slot_named R t s → m ≡ n → slot_named R t s ≡ named_by n
looked R t s m n e is = sym e ∙ ap (λ k. named_by k) is

pub no-source : (R : Log) (t : ObjId) (s d : Place) (why : Refusal) → slot_named R t s ≡ Err why → Err why ≡ source_and_dest R t s d
unfolding source_and_dest ◌>>=◌
no-source R t s d why e = rw e refl

pub no-dest : (R : Log) (t : ObjId) (s d : Place) (from : SlotId) (why : Refusal) → slot_named R t s ≡ Ok (name_of from) → slot_named R t d ≡ Err why → Err why ≡ source_and_dest R t s d
unfolding source_and_dest ◌>>=◌
no-dest R t s d from why e f = rw (e, f) refl

pub source-empty : (R : Log) (t : ObjId) (s d : Place) (from to : SlotId) (held : Option Cap) → slot_named R t s ≡ Ok (name_of from) → slot_named R t d ≡ Ok (name_of to)
    → held ≡ slot R from.cnode from.index → ((cap : Cap) → held ≡ Some cap → ⊥) → Err SlotEmpty ≡ source_and_dest R t s d
unfolding source_and_dest ◌>>=◌ needed
source-empty R t s d from to None e f is empty = rw (e, f, sym is) refl
source-empty R t s d from to (Some cap) e f is empty = absurd (empty cap refl)

pub source-holds : (R : Log) (t : ObjId) (s d : Place) (from to : SlotId) (cap : Cap) (taken : Option Cap) → slot_named R t s ≡ Ok (name_of from) → slot_named R t d ≡ Ok (name_of to)
    → slot R from.cnode from.index ≡ Some cap → taken ≡ slot R to.cnode to.index → placed_by (cond (is_some taken) (Err SlotFull) (Ok (record { cap = cap; source = from; dest = to }))) ≡ source_and_dest R t s d
unfolding source_and_dest ◌>>=◌ ◌>>◌ need needed
source-holds R t s d from to cap None e f some is = rw (e, f, some, sym is) refl
source-holds R t s d from to cap (Some other) e f some is = rw (e, f, some, sym is) refl
