-- What holds of a thread that enters, after it was woken.
use Rattle.std.specs.Prelude.{◌≡◌, true, Some, None}
use Rattle.std.proofs.Common.{refl}
use Rattle.mcs_types.specs.declared.id.ObjId.{ObjId}
use Rattle.mcs_types.specs.declared.id.Kind.{Kind}
use Rattle.mcs_types.specs.declared.record.Mode.{Mode}
use Rattle.mcs_types.specs.declared.record.Mode.TheVariants.{Running, Restart, Inactive}
use Rattle.mcs_book.specs.Logs.{Log, onto}
use Rattle.mcs_book.specs.Objects.{is_alive}
use Rattle.mcs_book.specs.Threads.{mode_of}
use Rattle.mcs_book.specs.Table.{wakes}
use Rattle.mcs_book.specs.Sound.{Allowed, IsThere}
use Rattle.mcs_types.proofs.Ids.{same-self}
use Rattle.mcs_state.specs.Changing.{record_of}
use Rattle.mcs_state.specs.declared.changes.Change.{Change}
use Rattle.mcs_state.specs.declared.changes.Change.TheVariants as change
use Rattle.mcs_state.specs.Entering.{IsEntering, IsActing, OpenStand, OnlyBoundWait}

-- who was woken acts
pub woken : (R : Log) (t : ObjId) → IsEntering R t → IsActing (onto (wakes (mode_of R t) t R) R) t
woken R t enters = go (mode_of R t) refl
  where
    go : (m : Mode) → mode_of R t ≡ m → IsActing (onto (wakes m t R) R) t
    go Running e = record { there = enters.there; idle = enters.idle; runs = e }
    go Restart e = record { there = enters.there; idle = enters.idle; runs = rw (same-self t) refl }
    go Inactive e = absurd (enters.awake e)

-- what is said of a log in ways that no waking changes
pub woken-same : (P : Log → Type 0) (R : Log) (t : ObjId) (m : Mode) → P R → ((S : Log) → S ≡ onto (wakes Restart t R) R → P R → P S) → P (onto (wakes m t R) R)
woken-same P R t Running h f = h
woken-same P R t Inactive h f = h
woken-same P R t Restart h f = f (onto (wakes Restart t R) R) refl h

-- an object is there still
pub woken-alive : (R : Log) (t : ObjId) (m : Mode) (o : ObjId) → is_alive R o ≡ true → is_alive (onto (wakes m t R) R) o ≡ true
woken-alive R t Running o h = h
woken-alive R t Restart o h = h
woken-alive R t Inactive o h = h

-- so is one of a kind
pub woken-there : (R : Log) (t : ObjId) (m : Mode) (k : Kind) (o : ObjId) → IsThere R k o → IsThere (onto (wakes m t R) R) k o
woken-there R t m k o there = (there.0, woken-alive R t m o there.1)

-- what may be changed may be changed still
pub woken-change : (R : Log) (t : ObjId) (m : Mode) (one : Change) → Allowed R (record_of one) → Allowed (onto (wakes m t R) R) (record_of one)
woken-change R t Running one ok = ok
woken-change R t Inactive one ok = ok
woken-change R t Restart (change.Holds s None) ok = ok
woken-change R t Restart (change.Holds s (Some x)) ok = ok
woken-change R t Restart (change.Homes s None) ok = ok
woken-change R t Restart (change.Homes s (Some n)) ok = ok
woken-change R t Restart (change.Ties x None) ok = ok
woken-change R t Restart (change.Ties x (Some n)) ok = ok
woken-change R t Restart (change.Sets x p) ok = ok

-- only bound threads wait still
pub woken-wait : (R : Log) (t : ObjId) → OnlyBoundWait R → OnlyBoundWait (onto (wakes (mode_of R t) t R) R)
woken-wait R t only = go (mode_of R t)
  where
    go : (m : Mode) → OnlyBoundWait (onto (wakes m t R) R)
    go Restart w n u at bound = only w n u at bound
    go Running w n u at bound = only w n u at bound
    go Inactive w n u at bound = only w n u at bound

-- and whoever has an open message is in its queue still
pub woken-stand : (R : Log) (t : ObjId) → OpenStand R → OpenStand (onto (wakes (mode_of R t) t R) R)
woken-stand R t stand = go (mode_of R t)
  where
    go : (m : Mode) → OpenStand (onto (wakes m t R) R)
    go Restart x e m still = stand x e m (record { sent = still.sent; is_letter = still.is_letter; is_open = still.is_open; of_sender = still.of_sender; on_endpoint = still.on_endpoint })
    go Running x e m still = stand x e m still
    go Inactive x e m still = stand x e m still
