-- What is made is the next object of its kind, and there is room for it.
use Rattle.std.specs.Prelude.{◌≡◌, ◌+◌, ◌==◌, ◌||◌, true, false}
use Rattle.std.proofs.Common.{ap, arith}
use Rattle.std.proofs.lemmas.Grind.{common_steps}
use Rattle.mcs_types.specs.declared.id.Kind.{Kind}
use Rattle.mcs_book.specs.Logs.{Log, counted}
use Rattle.mcs_book.specs.Objects.{makes_kind, number_of, next_id}
use Rattle.mcs_objects.specs.Store.{Shape}
use Rattle.mcs_object_queues.specs.Queues.{has_queues, no_room}
use Rattle.mcs_state.specs.Tables.{Queueing, QueuesAgree, shape_said}
use Rattle.mcs_state.specs.Making.{HasRoom}

-- fewer than may be are there, and not each serial was given
pub room-left : (R : Log) (k : Kind) → HasRoom R k → ((number_of R k == 256) || (counted (makes_kind k) R == 4294967295)) ≡ false
room-left R k h = let few = h.few in let fresh = h.fresh in grind (arith, common_steps, few, fresh)

-- so the queues have room
pub queues-room : (R : Log) (k : Kind) (v : Queueing) → has_queues k ≡ true → QueuesAgree v R → HasRoom R k → no_room (v.made k) (v.there k) ≡ false
queues-room R k v own a h = rw (a.made k own, a.there k own) (room-left R k h)

-- and a store of a kind
pub store-room : (R : Log) (k : Kind) (s : Shape) → s ≡ shape_said k R → HasRoom R k → ((s.there == s.room) || (s.given == 4294967295)) ≡ false
store-room R k s e h = rw e (room-left R k h)

-- the next object of a shape is the next of its kind
pub next-of : (R : Log) (k : Kind) (s : Shape) → s ≡ shape_said k R → record { kind = s.kind; serial = s.given + 1 } ≡ next_id R k
next-of R k s e = ap (λ (x : Shape). record { kind = x.kind; serial = x.given + 1 }) e
