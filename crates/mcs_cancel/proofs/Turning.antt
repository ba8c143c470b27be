-- The rows of Suspend and Resume are what the code does.
use Rattle.std.specs.Prelude.{ℕ, ◌≡◌, cond, Option, Some, None, Ok, Err}
use Rattle.std.proofs.Common.{refl, ap}
use Rattle.mcs_types.specs.declared.id.ObjId.{ObjId}
use Rattle.mcs_types.specs.declared.id.CoreId.{CoreId}
use Rattle.mcs_types.specs.declared.id.Kind.TheVariants as kind
use Rattle.mcs_types.specs.declared.cap.Cap.{Cap}
use Rattle.mcs_types.specs.declared.record.Mode.TheVariants.{Restart, Inactive}
use Rattle.mcs_types.specs.declared.record.Status.{Status}
use Rattle.mcs_types.specs.declared.record.Status.TheVariants as status
use Rattle.mcs_types.specs.declared.entry.Answer.TheVariants.{Done}
use Rattle.mcs_types.specs.declared.entry.Entry.TheVariants.{Suspend, Resume}
use Rattle.mcs_book.specs.Logs.{Log}
use Rattle.mcs_book.specs.Cancelling.{cancel}
use Rattle.mcs_book.specs.Checks.{Checked, ◌>>=◌}
use Rattle.mcs_book.specs.Lookup.{capability}
use Rattle.mcs_book.specs.Pieces.{Act, nothing, answers}
use Rattle.mcs_book.specs.Statuses.{status_of, is_ready}
use Rattle.mcs_book.specs.Table.{row}
use Rattle.mcs_state.specs.Checks.{kinded, object_found, object_named, act_of}
use Rattle.mcs_state.proofs.Named.{object-is}
use Rattle.mcs_cancel.specs.Turning.{sets_mode, mode_resumed}

-- the act of a suspension
abbrev pub suspends : ObjId → Act
suspends x = sets_mode x (Some Inactive)

-- the act of a resumption
abbrev pub resumes : Log → ObjId → Act
resumes R x = sets_mode x (mode_resumed (status_of R x))

-- the row of Suspend
pub row-suspend : (R : Log) (core : CoreId) (t : ObjId) (a : ℕ) → row R core t (Suspend a) ≡ act_of (object_named R t kind.Thread a) suspends
unfolding row ◌>>=◌
row-suspend R core t a = rw (object-is R t kind.Thread a) (go (kinded kind.Thread (capability R t a)))
  where
    go : (m : Checked Cap) → (m >>= λ c. Ok (answers Done (cancel c.obj Inactive))) ≡ act_of (object_found m) suspends
    go (Err why) = refl
    go (Ok c) = refl

-- the row of Resume
pub row-resume : (R : Log) (core : CoreId) (t : ObjId) (a : ℕ) → row R core t (Resume a) ≡ act_of (object_named R t kind.Thread a) (resumes R)
unfolding row ◌>>=◌
row-resume R core t a = rw (object-is R t kind.Thread a) (go (kinded kind.Thread (capability R t a)))
  where
    at : (x : ObjId) (s : Option Status) → answers Done (cond (is_ready s) nothing (cancel x Restart)) ≡ sets_mode x (mode_resumed s)
    at x None = refl
    at x (Some status.Running) = refl
    at x (Some status.Restart) = refl
    at x (Some status.Inactive) = refl
    at x (Some (status.Queued q)) = refl
    at x (Some (status.OnReply r)) = refl
    at x (Some status.Closed) = refl

    go : (m : Checked Cap) → (m >>= λ c. Ok (answers Done (cond (is_ready (status_of R c.obj)) nothing (cancel c.obj Restart)))) ≡ act_of (object_found m) (resumes R)
    go (Err why) = refl
    go (Ok c) = ap (λ act. Ok act) (at c.obj (status_of R c.obj))
