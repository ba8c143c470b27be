-- The row of Signal, in the parts in which the code does it.
use Rattle.std.specs.Prelude.{ℕ}
use Rattle.mcs_types.specs.declared.id.ObjId.{ObjId}
use Rattle.mcs_types.specs.declared.id.Kind.TheVariants.{Notification}
use Rattle.mcs_types.specs.declared.cap.Cap.{Cap}
use Rattle.mcs_types.specs.declared.entry.Answer.TheVariants.{Done}
use Rattle.mcs_book.specs.Logs.{Log}
use Rattle.mcs_book.specs.Checks.{Checked}
use Rattle.mcs_book.specs.Lookup.{capability}
use Rattle.mcs_book.specs.Pieces.{Act, answers}
use Rattle.mcs_book.specs.Signalling.{signal}
use Rattle.mcs_state.specs.Checks.{kinded, writable}

-- the capability over which t signals, or the first check that fails
abbrev pub signalable : Log → ObjId → ℕ → Checked Cap
signalable R t a = writable (kinded Notification (capability R t a))

-- a notification is signalled over a capability
unfoldable pub signal_act : Cap → Act
signal_act cap = answers Done (signal cap.obj cap.badge)
