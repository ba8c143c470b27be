-- By what an end names an object that a user made (own).
use Rattle.std.specs.Prelude.{ℕ, ◌≡◌, ◌<◌, ◌≤◌, Bool, true, false, cond, nat_lt, List, Option, Some, None, length, slice_get}
use Rattle.mcs_types.specs.declared.id.Kind.TheVariants as kind
use Rattle.mcs_types.specs.declared.id.ObjId.{ObjId}
use Rattle.mcs_types.specs.Ids.{same}
use Rattle.mcs_book.specs.Boots.{Boot, boot_log}
use Rattle.mcs_book.specs.Logs.{Log, counted}
use Rattle.mcs_book.specs.Objects.{makes_kind}
use Rattle.mcs_book.specs.Slots.{slot}
use Rattle.mcs_explore_report.specs.declared.ends.Standing.{Standing}
use Rattle.mcs_explore_report.specs.declared.slots.Origin.{Origin}
use Rattle.mcs_explore_report.specs.declared.slots.Origin.TheVariants as origin
use Rattle.mcs_explore_report.specs.declared.slots.Slot.{Slot}
use Rattle.mcs_explore_report.specs.Endings.{waits_for}

-- an object, where the boot did not make it
abbrev pub not_of_boot : Boot → ObjId → Option ObjId
not_of_boot boot o = cond (nat_lt (counted (makes_kind o.kind) (boot_log boot.lines)) o.serial) (Some o) None

-- the object that a user waits for, where the boot did not make it
abbrev pub made_object : Boot → Standing → Option ObjId
made_object boot s = elim (waits_for s.status) [ None ↦ None | Some o ↦ not_of_boot boot o ]

-- whether a slot of a CNode has a capability to an object
abbrev pub has_cap : Log → ObjId → ObjId → ℕ → Bool
has_cap R o c i = elim (slot R c i) [ None ↦ false | Some cap ↦ same cap.obj o ]

-- none of the first n slots of a CNode has one
abbrev pub HasNone : Log → ObjId → ObjId → ℕ → Type 0
HasNone R o c n = (i : ℕ) → i < n → has_cap R o c i ≡ false

-- the first slot of a CNode that has one; none where none has
abbrev pub IsSlotIn : Log → ObjId → ObjId → Option Slot → Type 0
IsSlotIn R o c None = HasNone R o c 256
IsSlotIn R o c (Some s) = (s.cnode ≡ c) × ((has_cap R o c s.index ≡ true) × HasNone R o c s.index)

-- the CNode that a boot makes in this place, from 1 on, and how many it makes
abbrev pub cnode : ℕ → ObjId
cnode n = record { kind = kind.CNode; serial = n }

abbrev pub cnodes : Boot → ℕ
cnodes boot = counted (makes_kind kind.CNode) (boot_log boot.lines)

-- none of the first n CNodes has a slot with a capability to an object
abbrev pub HaveNone : Log → ObjId → ℕ → Type 0
HaveNone R o n = (c : ℕ) → 1 ≤ c → c ≤ n → HasNone R o (cnode c) 256

-- the first slot with one is in the CNode of this number
pub record IsFirstIn (boot : Boot) (R : Log) (o : ObjId) (s : Slot) (c : ℕ) : Type 0 where
  pub least : 1 ≤ c
  pub most : c ≤ cnodes boot
  pub is : IsSlotIn R o (cnode c) (Some s)
  pub before : (d : ℕ) → 1 ≤ d → d < c → HasNone R o (cnode d) 256

-- the first slot with one, of the CNodes of the boot; none where none has
abbrev pub IsFirstSlot : Boot → Log → ObjId → Option Slot → Type 0
IsFirstSlot boot R o None = HaveNone R o (cnodes boot)
IsFirstSlot boot R o (Some s) = (c : ℕ) × IsFirstIn boot R o s c

-- an object that a user made is named so
abbrev pub IsMadeOrigin : Boot → Log → ObjId → Origin → Type 0
IsMadeOrigin boot R o origin.Boot = ⊥
IsMadeOrigin boot R o (origin.Slot s) = IsFirstSlot boot R o (Some s)
IsMadeOrigin boot R o origin.NoSlot = IsFirstSlot boot R o None

-- the object that a user waits for is named so
abbrev pub IsOrigin : Boot → Log → Standing → Origin → Type 0
IsOrigin boot R s x = elim (made_object boot s) [ None ↦ x ≡ origin.Boot | Some o ↦ IsMadeOrigin boot R o x ]

-- each of the first n items of a list is related to the item of a second list in its place
pub record AreSo {A B : Type 0} (Is : A → B → Type 0) (xs : List A) (n : ℕ) (ys : List B) : Type 0 where
  pub long : length ys ≡ n
  pub each : (i : ℕ) (x : A) (y : B) → slice_get xs i ≡ Some x → slice_get ys i ≡ Some y → Is x y

-- by what the objects of these users are named
abbrev pub AreOrigins : Boot → Log → List Standing → List Origin → Type 0
AreOrigins boot R ss origins = AreSo (IsOrigin boot R) ss (length ss) origins
