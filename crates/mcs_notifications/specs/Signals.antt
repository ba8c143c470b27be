-- What a contract sees of `Notifications`: the pending word of each notification that is there, the
-- thread bound to it, and the context that is homed at it.
use Rattle.std.specs.Prelude.{◌≡◌, ℕ, Bool, Option, Some, is_some, option_and_then}
use Rattle.mcs_types.specs.declared.id.ObjId.{ObjId}
use Rattle.mcs_types.specs.declared.id.Kind.TheVariants.{Notification}
use Rattle.mcs_types.specs.Words.{with_badge}
use Rattle.mcs_types.specs.Ids.{ChangesAt}
use Rattle.mcs_types.specs.Limits.{object_limit}
use Rattle.mcs_objects.specs.Store.{Objects, Shape, value_at, shape, next_id, is_full}
use Rattle.mcs_notifications.specs.declared.notifications.NotificationRow.{NotificationRow}

pub record Signals : Type 0 where
  pub rows : Objects NotificationRow

-- how many notifications were made and are there
abbrev pub counts : Signals → Shape
counts v = shape v.rows

-- whether no notification can be made
abbrev pub no_room : Signals → Bool
no_room v = is_full v.rows

-- the notification that is made next
abbrev pub next_notification : Signals → ObjId
next_notification v = next_id v.rows

-- whether a notification is there
abbrev pub is_there : Signals → ObjId → Bool
is_there v n = is_some (value_at v.rows n)

-- the pending word of a notification
abbrev pub word_in : Signals → ObjId → Option ℕ
word_in v n = option_and_then (λ r. r.word) (value_at v.rows n)

-- the thread to which a notification is bound
abbrev pub thread_in : Signals → ObjId → Option ObjId
thread_in v n = option_and_then (λ r. r.thread) (value_at v.rows n)

-- the context that is homed at a notification
abbrev pub homed_in : Signals → ObjId → Option ObjId
homed_in v n = option_and_then (λ r. r.homed) (value_at v.rows n)

-- this is the pending word of n now, and the others have those that they had
abbrev pub SetsWord : Signals → Signals → ObjId → Option ℕ → Type 0
SetsWord old new n word = ChangesAt (word_in old) (word_in new) n word

-- the pending word of n gains the bits of a badge, and the others have those that they had
abbrev pub GainsBadge : Signals → Signals → ObjId → ℕ → Type 0
GainsBadge old new n badge = SetsWord old new n (Some (with_badge badge (word_in old n)))

-- n is bound to this thread now, or to none, and the others as they were
abbrev pub SetsThread : Signals → Signals → ObjId → Option ObjId → Type 0
SetsThread old new n thread = ChangesAt (thread_in old) (thread_in new) n thread

-- this context is homed at n now, or none is, and the others as they were
abbrev pub SetsHomed : Signals → Signals → ObjId → Option ObjId → Type 0
SetsHomed old new n context = ChangesAt (homed_in old) (homed_in new) n context

-- what holds of all notifications
pub record AreSignals (v : Signals) : Type 0 where
  pub room : v.rows.room ≡ object_limit
  pub kind : v.rows.kind ≡ Notification
