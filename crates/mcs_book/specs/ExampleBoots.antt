-- Boots of the examples.
use Rattle.std.specs.Prelude.{ℕ, true, Some, List, [], ◌∷◌, reverse}
use Rattle.mcs_types.specs.declared.id.ObjId.{ObjId}
use Rattle.mcs_types.specs.declared.id.Kind.{Kind}
use Rattle.mcs_types.specs.declared.id.Kind.TheVariants as kind
use Rattle.mcs_types.specs.declared.cap.Cap.{Cap}
use Rattle.mcs_types.specs.declared.cap.Guard.{Guard}
use Rattle.mcs_types.specs.declared.boot.BootLine.{BootLine}
use Rattle.mcs_types.specs.declared.boot.BootLine.TheVariants as boot
use Rattle.mcs_book.specs.Boots.{Boot}

-- an id
abbrev pub id : Kind → ℕ → ObjId
id k n = record { kind = k; serial = n }

-- a CNode
abbrev pub c : ℕ → ObjId
c = id kind.CNode

-- a thread
abbrev pub t : ℕ → ObjId
t = id kind.Thread

-- an endpoint
abbrev pub e : ℕ → ObjId
e = id kind.Endpoint

-- a notification
abbrev pub n : ℕ → ObjId
n = id kind.Notification

-- a reply object
abbrev pub r : ℕ → ObjId
r = id kind.Reply

-- a context
abbrev pub s : ℕ → ObjId
s = id kind.Context

-- a capability without a guard
abbrev pub cap_to : ObjId → ℕ → ℕ → Cap
cap_to o rights badge = record { obj = o; rights = rights; badge = record { 0 = badge }; guard = record { bits = 0; value = 0 } }

-- a guard of zeros
abbrev pub zeros : ℕ → Guard
zeros bits = record { bits = bits; value = 0 }

-- a thread that runs with context s i, and its root's guard
abbrev pub runner : ℕ → ObjId → ℕ → ℕ → BootLine
runner p root bits i = boot.Thread (record { 0 = p }) (record { 0 = 255 }) root (zeros bits) true (Some (s i))

-- a slot of the first CNode
abbrev pub slot_line : ℕ → Cap → BootLine
slot_line i cap = boot.Slot (c 1) i cap

-- a context of the first core
abbrev pub context : BootLine
context = boot.Context (record { 0 = 0 })

-- a boot of one core, from its lines in order
abbrev pub one_core : List BootLine → Boot
one_core lines = record { cores = 1; lines = reverse lines }

-- one CNode, two endpoints, a notification, two reply objects and five threads
unfoldable pub five_threads : Boot
five_threads = one_core (boot.CNode 5 ∷ boot.Endpoint ∷ boot.Endpoint ∷ boot.Notification ∷ boot.Reply ∷ boot.Reply
    ∷ context ∷ context ∷ context ∷ context ∷ context
    ∷ runner 10 (c 1) 59 1 ∷ runner 20 (c 1) 59 2 ∷ runner 10 (c 1) 59 3 ∷ runner 20 (c 1) 59 4 ∷ runner 30 (c 1) 59 5
    ∷ slot_line 1 (cap_to (e 1) 1 9) ∷ slot_line 2 (cap_to (e 1) 15 0) ∷ slot_line 3 (cap_to (e 2) 15 0)
    ∷ slot_line 4 (cap_to (n 1) 3 0) ∷ slot_line 5 (cap_to (n 1) 1 1) ∷ slot_line 6 (cap_to (n 1) 1 2) ∷ slot_line 7 (cap_to (n 1) 1 4)
    ∷ slot_line 8 (cap_to (r 1) 0 0) ∷ slot_line 9 (cap_to (r 2) 0 0)
    ∷ slot_line 11 (cap_to (t 1) 0 0) ∷ slot_line 12 (cap_to (t 2) 0 0) ∷ slot_line 13 (cap_to (t 3) 0 0) ∷ slot_line 14 (cap_to (t 4) 0 0) ∷ slot_line 15 (cap_to (t 5) 0 0)
    ∷ slot_line 21 (cap_to (s 1) 0 0) ∷ slot_line 22 (cap_to (s 2) 0 0) ∷ slot_line 23 (cap_to (s 3) 0 0) ∷ slot_line 24 (cap_to (s 4) 0 0) ∷ slot_line 25 (cap_to (s 5) 0 0)
    ∷ [])

-- two CNodes, whose threads have guards of their own
unfoldable pub two_roots : Boot
two_roots = one_core (boot.CNode 4 ∷ boot.CNode 8 ∷ boot.Endpoint ∷ context ∷ context
    ∷ runner 10 (c 1) 60 1 ∷ runner 10 (c 2) 4 2
    ∷ boot.Slot (c 1) 2 (cap_to (e 1) 1 5) ∷ boot.Slot (c 2) 1 (cap_to (e 1) 1 6) ∷ [])

-- a CNode within a CNode
unfoldable pub nested_cnodes : Boot
nested_cnodes = one_core (boot.CNode 4 ∷ boot.CNode 8 ∷ boot.Endpoint ∷ context ∷ runner 10 (c 1) 52 1
    ∷ boot.Slot (c 1) 1 (cap_to (c 2) 0 0) ∷ boot.Slot (c 2) 5 (cap_to (e 1) 1 3) ∷ [])
