-- Which records are of slots, and which make objects.
use Rattle.std.specs.Prelude.{Bool, true, false, ◌≡◌, List}
use Rattle.std.specs.List.{list_any}
use Rattle.mcs_types.specs.declared.record.Rec.{Rec}
use Rattle.mcs_types.specs.declared.record.Rec.TheVariants.{Made, Closed, Slot, Prio, Turns, Joins, Parts, Sent, Took, Dropped, Owes, Paid, Void, Holds, Raised, Heard, Tied, Homed}

-- whether it says what a slot holds, or that an object was made or ended
abbrev pub is_of_slots : Rec → Bool
is_of_slots (Made object form) = true
is_of_slots (Closed object) = true
is_of_slots (Slot cnode index cap) = true
is_of_slots (Prio thread priority) = false
is_of_slots (Turns thread mode) = false
is_of_slots (Joins thread queue reply) = false
is_of_slots (Parts thread queue) = false
is_of_slots (Sent sender endpoint mode badge message) = false
is_of_slots (Took message thread) = false
is_of_slots (Dropped message) = false
is_of_slots (Owes reply caller context) = false
is_of_slots (Paid reply caller message) = false
is_of_slots (Void reply caller ending) = false
is_of_slots (Holds context thread) = false
is_of_slots (Raised notification badge) = false
is_of_slots (Heard thread notification word) = false
is_of_slots (Tied thread notification) = false
is_of_slots (Homed context notification) = false

-- whether it says that an object was made
abbrev pub is_making : Rec → Bool
is_making (Made object form) = true
is_making (Closed object) = false
is_making (Slot cnode index cap) = false
is_making (Prio thread priority) = false
is_making (Turns thread mode) = false
is_making (Joins thread queue reply) = false
is_making (Parts thread queue) = false
is_making (Sent sender endpoint mode badge message) = false
is_making (Took message thread) = false
is_making (Dropped message) = false
is_making (Owes reply caller context) = false
is_making (Paid reply caller message) = false
is_making (Void reply caller ending) = false
is_making (Holds context thread) = false
is_making (Raised notification badge) = false
is_making (Heard thread notification word) = false
is_making (Tied thread notification) = false
is_making (Homed context notification) = false

-- none of these records passes the test
abbrev pub HasNone : (Rec → Bool) → List Rec → Type 0
HasNone test records = list_any test records ≡ false
