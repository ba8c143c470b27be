-- Boots: what their lines record, and which of them are without fault.
use Rattle.std.specs.Prelude.{ℕ, ◌^◌, ◌≤◌, Bool, true, false, cond, ◌&&◌, ◌==◌, nat_lt, nat_le, is_none, is_ok, Result, Option, Some, None, List, [], ◌∷◌, IsTrue}
use Rattle.mcs_types.specs.declared.id.ObjId.{ObjId}
use Rattle.mcs_types.specs.declared.id.Kind.{Kind}
use Rattle.mcs_types.specs.declared.id.Kind.TheVariants as kind
use Rattle.mcs_types.specs.declared.cap.Cap.{Cap}
use Rattle.mcs_types.specs.declared.cap.Guard.{Guard}
use Rattle.mcs_types.specs.declared.record.Mode.{Mode}
use Rattle.mcs_types.specs.declared.record.Mode.TheVariants.{Running, Inactive}
use Rattle.mcs_types.specs.declared.record.Form.TheVariants.{Plain, Slots, OnCore, Runner}
use Rattle.mcs_types.specs.declared.boot.BootLine.{BootLine}
use Rattle.mcs_types.specs.declared.boot.BootLine.TheVariants as boot
use Rattle.mcs_types.specs.declared.record.Rec.{Rec}
use Rattle.mcs_types.specs.declared.record.Rec.TheVariants.{Made, Prio, Turns, Holds, Slot, Tied}
use Rattle.mcs_types.specs.declared.boot.BootFault.{BootFault}
use Rattle.mcs_types.specs.declared.boot.BootFault.TheVariants.{Number, NoObject, Limit, Taken}
use Rattle.mcs_types.specs.Ids.{same_kind}
use Rattle.mcs_book.specs.Logs.{Log, onto}
use Rattle.mcs_book.specs.Objects.{was_made, form_of, number_of, next_id}
use Rattle.mcs_book.specs.Slots.{slot}
use Rattle.mcs_book.specs.Contexts.{holder_of}
use Rattle.mcs_book.specs.Notifications.{bound_of, tied_to}
use Rattle.mcs_book.specs.Checks.{Passed, ◌>>◌, need}
use Rattle.mcs_book.specs.Lookup.{radix_kept}
use Rattle.mcs_types.specs.Limits.{object_limit, cnode_limit, core_limit}

-- a boot: the number of cores, and the lines after that one, the newest first
pub record Boot : Type 0 where
  pub cores : ℕ
  pub lines : List BootLine

-- the mode in which a thread begins
abbrev pub begins : Bool → Mode
begins true = Running
begins false = Inactive

-- the context that a thread begins with
abbrev pub begins_with : Option ObjId → ObjId → List Rec
begins_with None t = []
begins_with (Some s) t = Holds s (Some t) ∷ []

-- a capability to a CNode, with a guard
abbrev pub root_cap : ObjId → Guard → Cap
root_cap c guard = record { obj = c; rights = 0; badge = record { 0 = 0 }; guard = guard }

-- the records of a line of the boot
abbrev pub boot_line : Log → BootLine → List Rec
boot_line R (boot.CNode radix) = Made (next_id R kind.CNode) (Slots radix) ∷ []
boot_line R boot.Endpoint = Made (next_id R kind.Endpoint) Plain ∷ []
boot_line R boot.Notification = Made (next_id R kind.Notification) Plain ∷ []
boot_line R boot.Reply = Made (next_id R kind.Reply) Plain ∷ []
boot_line R (boot.Context core) = Made (next_id R kind.Context) (OnCore core) ∷ []
boot_line R (boot.Thread priority maximum root guard runs context) =
    let t = next_id R kind.Thread in
    Made t (Runner maximum (root_cap root guard)) ∷ Prio t priority ∷ Turns t (begins runs) ∷ begins_with context t
boot_line R (boot.Slot c i cap) = Slot c i (Some cap) ∷ []
boot_line R (boot.Tie t n) = Tied t (Some n) ∷ []

-- the log after the lines of a boot
unfoldable pub boot_log : List BootLine → Log
boot_log [] = []
boot_log (line ∷ lines) = let R = boot_log lines in onto (boot_line R line) R

-- whether an object of this kind has this name
abbrev pub is_object : Log → Kind → ObjId → Bool
is_object R k o = same_kind o.kind k && was_made R o

-- whether a guard's value fits its size
abbrev pub fits_guard : Guard → Bool
fits_guard g = nat_le g.bits 63 && nat_lt g.value (2 ^ g.bits)

-- whether there is no guard
abbrev pub has_no_guard : Cap → Bool
has_no_guard cap = cap.guard.bits == 0 && (cap.guard.value == 0)

-- whether there are no rights and no badge
abbrev pub has_no_rights : Cap → Bool
has_no_rights cap = cap.rights == 0 && (cap.badge.0 == 0)

-- whether the numbers of a capability are such as its kind carries
abbrev pub fits_kind : Kind → Cap → Bool
fits_kind kind.CNode cap = has_no_rights cap && fits_guard cap.guard
fits_kind kind.Endpoint cap = nat_lt cap.rights 16 && nat_lt cap.badge.0 (2 ^ 64) && has_no_guard cap
fits_kind kind.Notification cap = nat_lt cap.rights 16 && nat_lt cap.badge.0 (2 ^ 64) && has_no_guard cap
fits_kind _ cap = has_no_rights cap && has_no_guard cap

-- whether the index is below the CNode's number of slots, where the CNode was made
abbrev pub fits_cnode : Log → ObjId → ℕ → Bool
fits_cnode R c i = cond (is_object R kind.CNode c) (nat_lt i (2 ^ radix_kept (form_of R c))) true

-- whether the numbers of a line are in their ranges
abbrev pub has_numbers : ℕ → Log → BootLine → Bool
has_numbers cores R (boot.CNode radix) = nat_le 1 radix && nat_le radix 8
has_numbers cores R (boot.Context core) = nat_lt core.0 cores
has_numbers cores R (boot.Thread priority maximum root guard runs context) = nat_lt priority.0 256 && nat_lt maximum.0 256 && fits_guard guard
has_numbers cores R (boot.Slot c i cap) = fits_cnode R c i && fits_kind cap.obj.kind cap
has_numbers cores R _ = true

-- whether a context that is named was made
abbrev pub is_context_any : Log → Option ObjId → Bool
is_context_any R None = true
is_context_any R (Some s) = is_object R kind.Context s

-- whether the objects that a line names were made
abbrev pub has_objects : Log → BootLine → Bool
has_objects R (boot.Thread priority maximum root guard runs context) = is_object R kind.CNode root && is_context_any R context
has_objects R (boot.Slot c i cap) = is_object R kind.CNode c && was_made R cap.obj
has_objects R (boot.Tie t n) = is_object R kind.Thread t && is_object R kind.Notification n
has_objects R _ = true

-- whether there is room for the object that a line makes
abbrev pub has_room : Log → BootLine → Bool
has_room R (boot.CNode radix) = nat_lt (number_of R kind.CNode) cnode_limit
has_room R boot.Endpoint = nat_lt (number_of R kind.Endpoint) object_limit
has_room R boot.Notification = nat_lt (number_of R kind.Notification) object_limit
has_room R boot.Reply = nat_lt (number_of R kind.Reply) object_limit
has_room R (boot.Context core) = nat_lt (number_of R kind.Context) object_limit
has_room R (boot.Thread priority maximum root guard runs context) = nat_lt (number_of R kind.Thread) object_limit
has_room R _ = true

-- whether a context that is named is held by no thread
abbrev pub is_free_any : Log → Option ObjId → Bool
is_free_any R None = true
is_free_any R (Some s) = is_none (holder_of R s)

-- whether what a line fills, gives or binds is free
abbrev pub is_free : Log → BootLine → Bool
is_free R (boot.Thread priority maximum root guard runs context) = is_free_any R context
is_free R (boot.Slot c i cap) = is_none (slot R c i)
is_free R (boot.Tie t n) = is_none (bound_of R t) && is_none (tied_to R n)
is_free R _ = true

-- the fault of a line after the log of the lines before it
unfoldable pub boot_check : ℕ → Log → BootLine → Result Passed BootFault
boot_check cores R line = do
  need (has_numbers cores R line) Number
  need (has_objects R line) NoObject
  need (has_room R line) Limit
  need (is_free R line) Taken

-- there is no fault in the lines
abbrev pub AreFaultless : ℕ → List BootLine → Type 0
AreFaultless cores [] = Unit {0}
AreFaultless cores (line ∷ lines) = IsTrue (is_ok (boot_check cores (boot_log lines) line)) × AreFaultless cores lines

-- there is no fault in the boot
pub record IsFaultless (b : Boot) : Type 0 where
  pub some_core : 1 ≤ b.cores
  pub few_cores : b.cores ≤ core_limit
  pub lines : AreFaultless b.cores b.lines
