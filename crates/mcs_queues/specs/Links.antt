-- Lines as links between slots.
use Rattle.std.specs.Prelude.{ℕ, zero, suc, ◌+◌, cond, ◌==◌, List, [], ◌∷◌, length, slice_index_or, slice_set, Option, Some, None, IfSome, ◌<◌}
use Rattle.mcs_types.specs.Waiters.{Waiter}
use Rattle.mcs_queues.specs.declared.lines.ThreadNo.{ThreadNo}
use Rattle.mcs_queues.specs.declared.slots.ThreadSlot.{ThreadSlot}
use Rattle.mcs_queues.specs.declared.slots.LineSlot.{LineSlot}
use Rattle.mcs_queues.specs.Changes.{Rooms}
use Rattle.mcs_queues.specs.Numbers.{line_number}

-- the slots of all threads and of all lines
pub record Links : Type 0 where
  pub threads : List ThreadSlot
  pub lines : List LineSlot

-- how many threads and lines have slots
abbrev pub rooms_of : Links → Rooms
rooms_of l = record { threads = length l.threads; lines = length l.lines }

-- the slot of a thread in no line
abbrev pub blank_slot : ThreadSlot
blank_slot = record { line = None; priority = record { 0 = 0 }; previous = None; next = None }

-- the ends of an empty line
abbrev pub blank_ends : LineSlot
blank_ends = record { first = None; last = None }

abbrev pub slot_at : Links → ℕ → ThreadSlot
slot_at l t = slice_index_or l.threads t blank_slot

abbrev pub ends_at : Links → ℕ → LineSlot
ends_at l q = slice_index_or l.lines q blank_ends

-- the threads that the next links spell from one on, at most n of them
abbrev pub spelled_from : (ℕ → ThreadSlot) → ℕ → Option ThreadNo → List Waiter
spelled_from f zero o = []
spelled_from f (suc n) None = []
spelled_from f (suc n) (Some t) = record { thread = t.0; priority = (f t.0).priority.0 } ∷ spelled_from f n (f t.0).next

-- the threads of a line, as its first and the next links spell them
abbrev pub spelled : Links → ℕ → List Waiter
spelled l q = spelled_from (slot_at l) (length l.threads) (ends_at l q).first

-- the line of a thread
abbrev pub stands_at : Links → ℕ → Option ℕ
stands_at l t = line_number (slot_at l t).line

-- a thread's slot is written
abbrev pub with_slot : ℕ → ThreadSlot → Links → Links
with_slot t s l = record l { threads = slice_set l.threads t s }

-- what is next to a thread in its line, or the first of the line
abbrev pub with_next : ℕ → Option ThreadNo → Option ThreadNo → Links → Links
with_next q None next l = record l { lines = slice_set l.lines q (record (ends_at l q) { first = next }) }
with_next q (Some b) next l = record l { threads = slice_set l.threads b.0 (record (slot_at l b.0) { next = next }) }

-- what is previous to a thread in its line, or the last of the line
abbrev pub with_previous : ℕ → Option ThreadNo → Option ThreadNo → Links → Links
with_previous q None previous l = record l { lines = slice_set l.lines q (record (ends_at l q) { last = previous }) }
with_previous q (Some a) previous l = record l { threads = slice_set l.threads a.0 (record (slot_at l a.0) { previous = previous }) }

-- what a join or a part writes: the links to thread t and its own slot
abbrev pub relinked : ℕ → ℕ → Option ThreadNo → Option ThreadNo → Option ThreadNo → Option ThreadNo → ThreadSlot → Links → Links
relinked q t before after x y s l = with_slot t s (with_previous q after y (with_next q before x l))

abbrev pub InRange : ℕ → Option ThreadNo → Type 0
InRange n o = IfSome o (λ t. t.0 < n)

-- the numbers that are written are in range
pub record Ranged (q t : ℕ) (before after : Option ThreadNo) (l : Links) : Type 0 where
  pub line : q < length l.lines
  pub thread : t < length l.threads
  pub before_is : InRange (length l.threads) before
  pub after_is : InRange (length l.threads) after

-- whether a link differs
abbrev pub differs : Option ThreadNo → Option ThreadNo → ℕ
differs None None = 0
differs None (Some b) = 1
differs (Some a) None = 1
differs (Some a) (Some b) = cond (a.0 == b.0) 0 1

-- how many link fields of threads differ
abbrev pub slot_changes : List ThreadSlot → List ThreadSlot → ℕ
slot_changes [] [] = 0
slot_changes [] (b ∷ bs) = 2 + slot_changes [] bs
slot_changes (a ∷ zs) [] = 2 + slot_changes zs []
slot_changes (a ∷ zs) (b ∷ bs) = differs a.previous b.previous + differs a.next b.next + slot_changes zs bs

-- how many link fields of lines differ
abbrev pub end_changes : List LineSlot → List LineSlot → ℕ
end_changes [] [] = 0
end_changes [] (b ∷ bs) = 2 + end_changes [] bs
end_changes (a ∷ zs) [] = 2 + end_changes zs []
end_changes (a ∷ zs) (b ∷ bs) = differs a.first b.first + differs a.last b.last + end_changes zs bs

-- how many link fields differ
abbrev pub link_changes : Links → Links → ℕ
link_changes l m = slot_changes l.threads m.threads + end_changes l.lines m.lines
