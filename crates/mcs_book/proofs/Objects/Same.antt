-- When an option is this object or this line, and when two lines are one.
use Rattle.std.specs.Prelude.{true, ◌≡◌, Option, Some, None}
use Rattle.std.proofs.Common.{ap}
use Rattle.mcs_types.specs.declared.id.ObjId.{ObjId}
use Rattle.mcs_types.specs.declared.record.Queue.{Queue}
use Rattle.mcs_types.specs.declared.record.Queue.TheVariants.{Senders, Receivers, Waiters}
use Rattle.mcs_types.proofs.Ids.{same-self, same-equal}
use Rattle.mcs_types.specs.Ids.{is_just}
use Rattle.mcs_book.specs.Queues.{same_queue, is_queue}

-- an option that is this object
pub is_just-some : (o : Option ObjId) (b : ObjId) → is_just o b ≡ true → o ≡ Some b
is_just-some None b h = absurd cc
is_just-some (Some a) b h = ap (λ x. Some x) (same-equal a b h)

-- a line is the same as itself
pub same_queue-self : (q : Queue) → same_queue q q ≡ true
same_queue-self (Senders a) = same-self a
same_queue-self (Receivers a) = same-self a
same_queue-self (Waiters a) = same-self a

-- lines that are the same are equal
pub same_queue-equal : (p q : Queue) → same_queue p q ≡ true → p ≡ q
same_queue-equal (Senders a) (Senders b) e = ap (λ o. Senders o) (same-equal a b e)
same_queue-equal (Receivers a) (Receivers b) e = ap (λ o. Receivers o) (same-equal a b e)
same_queue-equal (Waiters a) (Waiters b) e = ap (λ o. Waiters o) (same-equal a b e)
same_queue-equal _ _ e = absurd cc

-- an option that is this line
pub is_queue-some : (o : Option Queue) (q : Queue) → is_queue o q ≡ true → o ≡ Some q
is_queue-some None q e = absurd cc
is_queue-some (Some p) q e = ap (λ x. Some x) (same_queue-equal p q e)
