-- Who may enter: a living thread that was made, is in no queue, and is owed no reply.
use Rattle.std.specs.Prelude.{Bool, true, false, cond, ◌&&◌, ◌≡◌, Option, Some, None, refl}
use Rattle.mcs_types.specs.declared.id.ObjId.{ObjId}
use Rattle.mcs_types.specs.declared.id.CoreId.{CoreId}
use Rattle.mcs_types.specs.declared.id.Kind.TheVariants as kind
use Rattle.mcs_types.specs.declared.record.Queue.{Queue}
use Rattle.mcs_types.specs.declared.record.Status.TheVariants as status
use Rattle.mcs_types.specs.Ids.{same_kind}
use Rattle.mcs_book.specs.Logs.{Log}
use Rattle.mcs_book.specs.Objects.{was_made, was_closed, is_alive}
use Rattle.mcs_book.specs.Threads.{mode_of}
use Rattle.mcs_book.specs.Queues.{queue_of}
use Rattle.mcs_book.specs.Replies.{owing}
use Rattle.mcs_book.specs.Statuses.{status_of, may_enter, is_ready, status_by}
use Rattle.mcs_types.proofs.Ids.{same_kind-equal, parts, both}

-- what is known of a thread that may enter
pub record IsEntering (R : Log) (t : ObjId) : Type 0 where
  pub thread : t.kind ≡ kind.Thread
  pub made : was_made R t ≡ true
  pub alive : is_alive R t ≡ true
  pub stands_none : queue_of R t ≡ None
  pub owed_none : owing R t ≡ None

-- a thread that is ready is such a one
pub enters-ready : (R : Log) (core : CoreId) (t : ObjId) → may_enter R core t ≡ true → IsEntering R t
unfolding may_enter status_of
enters-ready R core t h = go (same_kind t.kind kind.Thread && was_made R t) refl (was_closed R t) refl (queue_of R t) refl (owing R t) refl ((parts _ _ h).0)
  where
    go : (b : Bool) → (same_kind t.kind kind.Thread && was_made R t) ≡ b → (c : Bool) → was_closed R t ≡ c → (q : Option Queue) → queue_of R t ≡ q → (o : Option ObjId) → owing R t ≡ o
        → is_ready (cond b (Some (cond c status.Closed (status_by q o (mode_of R t)))) None) ≡ true → IsEntering R t
    go true e false f None g None i k =
        let p : (same_kind t.kind kind.Thread ≡ true) × (was_made R t ≡ true) = parts _ _ e in
        record { thread = same_kind-equal t.kind kind.Thread p.0; made = p.1; alive = both _ _ p.1 (rw f refl); stands_none = g; owed_none = i }
    go true e false f None g (Some r) i k = absurd cc
    go true e false f (Some q) g o i k = absurd cc
    go true e true f q g o i k = absurd cc
    go false e c f q g o i k = absurd cc

-- who may enter was made
pub enters-made : (R : Log) (core : CoreId) (t : ObjId) → may_enter R core t ≡ true → (t.kind ≡ kind.Thread) × (was_made R t ≡ true)
enters-made R core t h = let e : IsEntering R t = enters-ready R core t h in (e.thread, e.made)
