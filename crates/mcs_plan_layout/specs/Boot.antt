-- The boot of a plan whose spaces are laid out.
use Rattle.std.specs.Prelude.{◌+◌, ◌-◌, ◌/◌, ◌%◌, ◌==◌, ◌++◌, ℕ, zero, suc, List, [], ◌∷◌, Option, Some, None, cond, length, take, map, slice_get}
use Rattle.std.specs.Option.{unwrap_or}
use Rattle.std.specs.List.{sum_by}
use Rattle.std.proofs.Math.ListN.{replicate}
use Rattle.mcs_types.specs.declared.id.ObjId.{ObjId}
use Rattle.mcs_types.specs.declared.id.CoreId.{CoreId}
use Rattle.mcs_types.specs.declared.id.Kind.TheVariants as kind
use Rattle.mcs_types.specs.declared.cap.Cap.{Cap}
use Rattle.mcs_types.specs.declared.cap.Guard.{Guard}
use Rattle.mcs_types.specs.declared.boot.BootLine.{BootLine}
use Rattle.mcs_types.specs.declared.boot.BootLine.TheVariants as line
use Rattle.mcs_types.specs.Ids.{place_of}
use Rattle.mcs_plan_source.specs.Naming.{count_of}
use Rattle.mcs_plan_source.specs.declared.plan.Plan.{Plan}
use Rattle.mcs_plan_source.specs.declared.plan.Space.{Space}
use Rattle.mcs_plan_source.specs.declared.plan.Thread.{Thread}
use Rattle.mcs_plan_source.specs.declared.plan.Tie.{Tie}
use Rattle.mcs_plan_source.specs.Making.{all_leaves}
use Rattle.mcs_plan_source.specs.Slots.{slot_count, cap_at, leaves_of}
use Rattle.mcs_plan_layout.specs.declared.layout.Layout.{Layout}
use Rattle.mcs_plan_layout.specs.SpaceLayouts.{index_bits, zero_guard}
use Rattle.mcs_plan_layout.specs.declared.boot.Site.{Site}

-- the CNode at a place, from 0: those of the spaces come first, and after them the further ones of
-- larger spaces
abbrev pub cnode_at : ℕ → ObjId
cnode_at place = record { kind = kind.CNode; serial = place + 1 }

-- a capability without rights and badge
abbrev pub bare : ObjId → Guard → Cap
bare obj guard = record { obj = obj; rights = 0; badge = record { 0 = 0 }; guard = guard }

-- the layout of a space
abbrev pub layout_at : List Layout → ℕ → Layout
layout_at layouts place = unwrap_or (slice_get layouts place) (record { root = 1; leaf = 0; within = 0 })

-- the guard of a capability, in a slot of a space, to the root of another: it takes the bits that
-- the other's slots leave
abbrev pub guard_to : Layout → Layout → Guard
guard_to here there = zero_guard (here.within - (there.root + there.leaf))

-- a capability of a slot of a space: one to a CNode gets that guard
abbrev pub guarded_to : List Layout → ℕ → Cap → Option ℕ → Cap
guarded_to layouts space cap None = cap
guarded_to layouts space cap (Some other) =
    record { obj = cap.obj; rights = cap.rights; badge = cap.badge; guard = guard_to (layout_at layouts space) (layout_at layouts other) }

abbrev pub guarded : List Layout → ℕ → Cap → Cap
guarded layouts space cap = guarded_to layouts space cap (place_of kind.CNode cap.obj)

-- the line that makes the root of a space, a context, a thread; that binds a notification
abbrev pub root_line : Layout → BootLine
root_line l = line.CNode l.root

abbrev pub context_line : CoreId → BootLine
context_line core = line.Context core

abbrev pub thread_line : List Layout → Thread → BootLine
thread_line layouts t =
    line.Thread t.priority t.maximum (cnode_at t.space) (zero_guard (64 - index_bits (layout_at layouts t.space))) t.runs t.context

abbrev pub tie_line : Tie → BootLine
tie_line t = line.Tie t.thread t.notification

-- the lines, or whatever comes, of each of this many, from 0
abbrev pub each : {X : Type 0} → ℕ → (ℕ → List X) → List X
each zero lines = []
each (suc n) lines = each n lines ++ lines n

-- the CNode that a slot of a space is in: the root, or the further one of its 256
abbrev pub cnode_of : Site → ℕ → ObjId
cnode_of site index = cond (site.leaves == 0) (cnode_at site.place) (cnode_at (site.before + index / 256))

-- the line that fills a slot, where it holds something
abbrev pub slot_lines : List Layout → Site → ℕ → Option Cap → List BootLine
slot_lines layouts site index None = []
slot_lines layouts site index (Some cap) = line.Slot (cnode_of site index) (index % 256) (guarded layouts site.place cap) ∷ []

-- the line that puts a further CNode of a space into its root
abbrev pub link_lines : Site → ℕ → List BootLine
link_lines site leaf = line.Slot (cnode_at site.place) leaf (bare (cnode_at (site.before + leaf)) (zero_guard 0)) ∷ []

-- the lines that fill a space: its further CNodes, then its slots in order
abbrev pub space_lines : List Layout → Site → Space → List BootLine
space_lines layouts site space = each site.leaves (link_lines site) ++ each (slot_count space) (λ index. slot_lines layouts site index (cap_at space index))

-- how many CNodes are before the further ones of a space
abbrev pub before_of : List Space → ℕ → ℕ
before_of spaces place = length spaces + sum_by leaves_of (take place spaces)

-- where the slots of a space are
abbrev pub site_of : List Space → ℕ → Space → Site
site_of spaces place space = record { place = place; before = before_of spaces place; leaves = leaves_of space }

-- the lines that fill the space at a place
abbrev pub filling : List Layout → List Space → ℕ → Option Space → List BootLine
filling layouts spaces place None = []
filling layouts spaces place (Some space) = space_lines layouts (site_of spaces place space) space

-- the boot of a plan, after the line of its cores: a CNode for each space and those of larger ones;
-- the endpoints, notifications and reply objects; each context, each thread, each slot that holds
-- something, each binding; nothing else
abbrev pub boot_of : Plan → List Layout → List BootLine
boot_of plan layouts =
    map root_line layouts
    ++ replicate (all_leaves plan) (line.CNode 8)
    ++ replicate (count_of kind.Endpoint plan.names) line.Endpoint
    ++ replicate (count_of kind.Notification plan.names) line.Notification
    ++ replicate (count_of kind.Reply plan.names) line.Reply
    ++ map context_line plan.contexts.items
    ++ map (thread_line layouts) plan.threads.items
    ++ each (length plan.spaces.items) (λ place. filling layouts plan.spaces.items place (slice_get plan.spaces.items place))
    ++ map tie_line plan.ties.items
