-- What it is that the names of threads lead to what their slots hold.
use Rattle.std.specs.Prelude.{◌≡◌, ◌+◌, ℕ, true, List, All, Option, Some, None, Ok, Vec, slice_get}
use Rattle.mcs_types.specs.declared.id.ObjId.{ObjId}
use Rattle.mcs_types.specs.declared.id.Kind.TheVariants as kind
use Rattle.mcs_types.specs.declared.cap.Cap.{Cap}
use Rattle.mcs_types.specs.Ids.{same_kind}
use Rattle.mcs_book.specs.Logs.{Log}
use Rattle.mcs_book.specs.Slots.{SlotName, slot}
use Rattle.mcs_state.specs.Questions.{named_for, placed_for}
use Rattle.mcs_plan_layout.specs.declared.tables.Named.{Named}

-- an address of a thread names what a slot holds, unless that is nothing; what has no address is a
-- capability to a CNode, through which lookup continues
abbrev pub IsNamed : Log → ObjId → Option ℕ → Option Cap → Type 0
IsNamed R t (Some address) None = Unit {0}
IsNamed R t (Some address) (Some cap) = named_for R t address ≡ Some (Ok cap)
IsNamed R t None None = ⊥
IsNamed R t None (Some cap) = same_kind cap.obj.kind kind.CNode ≡ true

-- a name of a thread leads to what its slot holds: its place is that of a slot which holds it, and
-- its address, which the name of a CNode has not, names it
pub record Leads (R : Log) (t : ObjId) (n : Named) : Type 0 where
  pub at : SlotName
  pub placed : placed_for R t n.place ≡ Some (Ok at)
  pub holds : slot R at.cnode at.index ≡ n.cap
  pub named : IsNamed R t n.address n.cap

-- the thread of this place in the boot, from 0
abbrev pub thread_at : ℕ → ObjId
thread_at k = record { kind = kind.Thread; serial = k + 1 }

-- each name of each thread leads to what its slot holds
abbrev pub AllLead : {A : Type 0} → Log → List (Vec Named A) → Type 0
AllLead {A} R tables = (k : ℕ) (table : Vec Named A) → slice_get tables k ≡ Some table → All (Leads R (thread_at k)) table.items
