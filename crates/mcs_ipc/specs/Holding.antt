-- What BindCtx and UnbindCtx test, and change.
use Rattle.std.specs.Prelude.{ℕ, ◌&&◌, ◌||◌, cond, is_some, is_none, Some, Ok, Err}
use Rattle.mcs_types.specs.declared.id.ObjId.{ObjId}
use Rattle.mcs_types.specs.declared.id.Kind.{Kind}
use Rattle.mcs_types.specs.declared.id.Kind.TheVariants.{Thread, Notification, Context}
use Rattle.mcs_types.specs.declared.cap.Cap.{Cap}
use Rattle.mcs_types.specs.declared.entry.Answer.TheVariants.{Done}
use Rattle.mcs_types.specs.declared.entry.Refusal.TheVariants.{WrongKind, AlreadyBound, NotBound}
use Rattle.mcs_book.specs.Logs.{Log}
use Rattle.mcs_book.specs.Checks.{Checked}
use Rattle.mcs_book.specs.Contexts.{holder_of, context_of, home_of, homed_at}
use Rattle.mcs_book.specs.Binding.{is_loose}
use Rattle.mcs_book.specs.Cancelling.{unbind}
use Rattle.mcs_book.specs.Lookup.{capability}
use Rattle.mcs_book.specs.Pieces.{Act, answers}
use Rattle.mcs_state.specs.Checks.{object_named}
use Rattle.mcs_state.specs.declared.changes.Change.{Change}
use Rattle.mcs_state.specs.declared.changes.Change.TheVariants.{Holds, Homes}

-- a loose context is given to a thread that holds none, or homed at a notification at which none is
abbrev pub given : Kind → Log → ObjId → ObjId → Checked Change
given Thread R s o = cond (is_loose R s && is_none (context_of R o)) (Ok (Holds s (Some o))) (Err AlreadyBound)
given Notification R s o = cond (is_loose R s && is_none (homed_at R o)) (Ok (Homes s (Some o))) (Err AlreadyBound)
given _ R s o = Err WrongKind

-- a context and a capability that were found, of which the first is tested first
abbrev pub given_found : Log → Checked ObjId → Checked Cap → Checked Change
given_found R (Err why) x = Err why
given_found R (Ok s) (Err why) = Err why
given_found R (Ok s) (Ok cap) = given cap.obj.kind R s cap.obj

-- what a bind by t changes, or the first check that fails
abbrev pub bindable : Log → ObjId → ℕ → ℕ → Checked Change
bindable R t s x = given_found R (object_named R t Context s) (capability R t x)

-- a context that was found, where somebody holds it or it is homed
abbrev pub taken_found : Log → Checked ObjId → Checked ObjId
taken_found R (Err why) = Err why
taken_found R (Ok s) = cond (is_some (holder_of R s) || is_some (home_of R s)) (Ok s) (Err NotBound)

-- the context that t unbinds, or the first check that fails
abbrev pub unbindable : Log → ObjId → ℕ → Checked ObjId
unbindable R t s = taken_found R (object_named R t Context s)

-- what an unbind does
abbrev pub unbinds : ObjId → Act
unbinds s = answers Done (unbind s)
