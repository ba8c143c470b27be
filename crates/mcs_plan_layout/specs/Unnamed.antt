-- PlanError a word names nothing for a thread (own).
use Rattle.std.specs.Prelude.{◌≡◌, ℕ, List, Option, Some, None, is_some, option_map, option_and_then, slice_get, if◌then◌else◌}
use Rattle.std.specs.Option.{ForSome, ok_or}
use Rattle.mcs_types.specs.declared.cap.Cap.{Cap}
use Rattle.mcs_types.specs.declared.id.ObjId.{ObjId}
use Rattle.mcs_plan_source.specs.declared.fault.PlanError.{PlanError}
use Rattle.mcs_plan_source.specs.Naming.{NameList, find, name_of}
use Rattle.mcs_plan_source.specs.Capabilities.{front_of, rest_of}
use Rattle.mcs_plan_source.specs.Refusals.{Refusal, Read, no_capability, not_wanted, refusal_by}
use Rattle.mcs_plan_source.specs.Saying.{Said, SaidSpace}
use Rattle.mcs_plan_source.specs.Threads.{space_at}
use Rattle.mcs_plan_layout.specs.Laid.{LaidPlan, row_named}
use Rattle.mcs_plan_layout.specs.Layouts.{space_of_cnode}
use Rattle.mcs_plan_layout.specs.Tables.{Row}

-- the parts of a word: the name of a slot, and after a slash that of a slot of the CNode that it
-- holds a capability to
abbrev pub outer_in : List ℕ → List ℕ
outer_in word = front_of 47 word

abbrev pub inner_in : List ℕ → Option (List ℕ)
inner_in word = rest_of 47 word

-- the capability that the slot of this name holds
abbrev pub cap_in : SaidSpace → List ℕ → Option Cap
cap_in space name = option_and_then (λ cap. cap) (find space.slots name)

-- the CNode that the slot of this name holds a capability to
abbrev pub cnode_held : List SaidSpace → SaidSpace → List ℕ → Option ObjId
cnode_held spaces space name =
    option_and_then (λ (cap : Cap). option_map (λ (s : SaidSpace). cap.obj) (space_of_cnode spaces cap.obj)) (cap_in space name)

-- the CNode has no slot of this name, or the outer one holds a capability to none
abbrev pub no_inner : NameList → List ℕ → List ℕ → Option ObjId → Refusal
no_inner names outer name None = not_wanted outer
no_inner names outer name (Some cnode) = no_capability (name_of names cnode) name

-- the space has a slot of the outer name
abbrev pub no_inner_of : Said → SaidSpace → List ℕ → Option (List ℕ) → Refusal
no_inner_of s space word None = not_wanted word
no_inner_of s space word (Some name) = no_inner s.names (outer_in word) name (cnode_held s.spaces space (outer_in word))

abbrev pub unnamed_in : Said → ObjId → List ℕ → Option SaidSpace → Refusal
unnamed_in s t word None = not_wanted word
unnamed_in s t word (Some space) =
    if is_some (find space.slots (outer_in word)) then no_inner_of s space word (inner_in word)
    else no_capability (name_of s.names t) (outer_in word)

-- what is reported of a word that names nothing for a thread
abbrev pub unnamed : Said → ObjId → List ℕ → Refusal
unnamed s t word = unnamed_in s t word (slice_get s.spaces (space_at s.threads t))

-- a fault tells this; that memory was refused tells nothing
abbrev pub Tells : Refusal → PlanError → Type 0
Tells e w = ForSome (refusal_by w) (λ f. f ≡ e)

-- what a thread names by a word
abbrev pub named_read : LaidPlan → ObjId → List ℕ → Read Row
named_read laid t word = ok_or (row_named laid.tables t word) (unnamed laid.plan t word)
