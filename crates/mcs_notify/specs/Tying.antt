-- What BindNtfn and UnbindNtfn test, and change.
use Rattle.std.specs.Prelude.{ℕ, ◌||◌, cond, is_some, Some, None, Ok, Err}
use Rattle.mcs_types.specs.declared.id.ObjId.{ObjId}
use Rattle.mcs_types.specs.declared.id.Kind.TheVariants as kind
use Rattle.mcs_types.specs.declared.record.Queue.TheVariants.{Waiters}
use Rattle.mcs_types.specs.declared.entry.Refusal.TheVariants.{AlreadyBound, NotBound}
use Rattle.mcs_book.specs.Logs.{Log}
use Rattle.mcs_book.specs.Checks.{Checked}
use Rattle.mcs_book.specs.Lookup.{capability}
use Rattle.mcs_book.specs.Notifications.{bound_of, tied_to}
use Rattle.mcs_book.specs.Queues.{first_in}
use Rattle.mcs_state.specs.Checks.{kinded, readable, object_found, object_named}
use Rattle.mcs_state.specs.declared.changes.Change.{Change}
use Rattle.mcs_state.specs.declared.changes.Change.TheVariants.{Ties}

-- a thread and a notification that were found, of which the first is tested first, where neither is
-- bound, and no thread waits
abbrev pub tied : Log → Checked ObjId → Checked ObjId → Checked Change
tied R (Err why) notification = Err why
tied R (Ok x) (Err why) = Err why
tied R (Ok x) (Ok n) = cond (is_some (bound_of R x) || is_some (tied_to R n) || is_some (first_in R (Waiters n))) (Err AlreadyBound) (Ok (Ties x (Some n)))

-- the notification that t names, over which it may receive
abbrev pub notification_named : Log → ObjId → ℕ → Checked ObjId
notification_named R t n = object_found (readable (kinded kind.Notification (capability R t n)))

-- what a bind by t changes, or the first check that fails
abbrev pub bindable : Log → ObjId → ℕ → ℕ → Checked Change
bindable R t x n = tied R (object_named R t kind.Thread x) (notification_named R t n)

-- a thread that was found, where a notification is bound to it
abbrev pub untied : Log → Checked ObjId → Checked Change
untied R (Err why) = Err why
untied R (Ok x) = cond (is_some (bound_of R x)) (Ok (Ties x None)) (Err NotBound)

-- what an unbind by t changes, or the first check that fails
abbrev pub unbindable : Log → ObjId → ℕ → Checked Change
unbindable R t x = untied R (object_named R t kind.Thread x)
