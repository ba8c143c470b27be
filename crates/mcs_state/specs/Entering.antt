-- What holds where a thread enters.
use Rattle.std.specs.Prelude.{ℕ, ◌≡◌, ◌≢◌, Some}
use Rattle.mcs_types.specs.declared.id.ObjId.{ObjId}
use Rattle.mcs_types.specs.declared.cap.Cap.{Cap}
use Rattle.mcs_types.specs.declared.id.Kind.TheVariants as kind
use Rattle.mcs_types.specs.declared.record.Mode.TheVariants.{Running, Inactive}
use Rattle.mcs_types.specs.declared.record.Queue.TheVariants.{Senders, Waiters}
use Rattle.mcs_book.specs.Logs.{Log}
use Rattle.mcs_book.specs.Threads.{mode_of, root_of}
use Rattle.mcs_book.specs.Queues.{queue_of}
use Rattle.mcs_book.specs.Notifications.{bound_of}
use Rattle.mcs_book.specs.Fair.{IsOpenOf}
use Rattle.mcs_book.specs.Sound.{IsThere, IsIdle}

-- t is a thread that is there, is blocked on nothing, and is not inactive; its root is a CNode that
-- is there
pub record IsEntering (R : Log) (t : ObjId) : Type 0 where
  pub there : IsThere R kind.Thread t
  pub idle : IsIdle R t
  pub awake : mode_of R t ≢ Inactive
  pub rooted : (root : Cap) → root_of R t ≡ Some root → IsThere R kind.CNode root.obj

-- the same, after it was woken
pub record IsActing (R : Log) (t : ObjId) : Type 0 where
  pub there : IsThere R kind.Thread t
  pub idle : IsIdle R t
  pub runs : mode_of R t ≡ Running

-- who has an open message is queued among the senders of its endpoint
abbrev pub OpenStand : Log → Type 0
OpenStand R = (x e : ObjId) (m : ℕ) → IsOpenOf R x e m → queue_of R x ≡ Some (Senders e)

-- only the thread that is bound to a notification waits on it
abbrev pub OnlyBoundWait : Log → Type 0
OnlyBoundWait R = (w n u : ObjId) → queue_of R w ≡ Some (Waiters n) → bound_of R u ≡ Some n → u ≡ w
