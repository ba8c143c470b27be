-- The row of CancelBadged, in the parts in which the code does it.
use Rattle.std.specs.Prelude.{ℕ, cond, ◌==◌, Ok, Err}
use Rattle.mcs_types.specs.declared.id.ObjId.{ObjId}
use Rattle.mcs_types.specs.declared.id.Kind.TheVariants as kind
use Rattle.mcs_types.specs.declared.cap.Cap.{Cap}
use Rattle.mcs_types.specs.declared.record.Mode.TheVariants.{Restart}
use Rattle.mcs_types.specs.declared.entry.Answer.TheVariants.{Done}
use Rattle.mcs_types.specs.declared.entry.Refusal.TheVariants.{NoRight}
use Rattle.mcs_book.specs.Logs.{Log}
use Rattle.mcs_book.specs.Cancelling.{cancel, cancel_all}
use Rattle.mcs_book.specs.Checks.{Checked}
use Rattle.mcs_book.specs.Lookup.{capability}
use Rattle.mcs_book.specs.Messages.{open_of}
use Rattle.mcs_book.specs.Pieces.{Piece, Act, nothing, answers}
use Rattle.mcs_book.specs.Placing.{has_badge, senders_with}
use Rattle.mcs_book.specs.Rights.{has_right}
use Rattle.mcs_state.specs.Checks.{kinded}

-- what was found, where it has all four rights
abbrev pub with_all : Checked Cap → Checked Cap
with_all (Err why) = Err why
with_all (Ok cap) = cond (has_right 15 cap) (Ok cap) (Err NoRight)

-- the capability whose badge t cancels, or the first check that fails
abbrev pub cancellable : Log → ObjId → ℕ → Checked Cap
cancellable R t a = with_all (kinded kind.Endpoint (capability R t a))

-- x restarts, where its open message has this badge
abbrev pub restarts_one : ℕ → ObjId → Piece
restarts_one badge x R = cond (has_badge badge (open_of R x)) (cancel x Restart) nothing R

-- the senders of e whose message in the log S has this badge restart
abbrev pub restarts_with : Log → ObjId → ℕ → Piece
restarts_with S e badge = cancel_all (senders_with S e badge) Restart

-- those whose message has the badge of a capability, where it is not 0
abbrev pub restarts_badged : Log → Cap → Piece
restarts_badged S cap = cond (cap.badge.0 == 0) nothing (restarts_with S cap.obj cap.badge.0)

abbrev pub cancels_badged : Log → Cap → Act
cancels_badged S cap = answers Done (restarts_badged S cap)
