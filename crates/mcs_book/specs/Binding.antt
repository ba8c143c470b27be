-- Contexts that are given to threads (manual: Threads and Execution), or homed at notifications
-- (own).
use Rattle.std.specs.Prelude.{Bool, ◌&&◌, is_none, Some, Ok, Err}
use Rattle.mcs_types.specs.declared.id.ObjId.{ObjId}
use Rattle.mcs_types.specs.declared.id.Kind.{Kind}
use Rattle.mcs_types.specs.declared.id.Kind.TheVariants.{Thread, Notification}
use Rattle.mcs_types.specs.declared.record.Rec.TheVariants.{Holds, Homed}
use Rattle.mcs_types.specs.declared.entry.Answer.TheVariants.{Done}
use Rattle.mcs_types.specs.declared.entry.Refusal.TheVariants.{WrongKind, AlreadyBound}
use Rattle.mcs_book.specs.Logs.{Log}
use Rattle.mcs_book.specs.Contexts.{context_of, holder_of, home_of, homed_at}
use Rattle.mcs_book.specs.Chains.{is_unlent}
use Rattle.mcs_book.specs.Checks.{Checked, ◌>>◌, need}
use Rattle.mcs_book.specs.Pieces.{say, Act, answers}

-- whether no thread holds the context s, it is homed nowhere, and no open call passed it on
abbrev pub is_loose : Log → ObjId → Bool
is_loose R s = is_none (holder_of R s) && is_none (home_of R s) && is_unlent R s

-- the context s is bound to o, by the kind of o
unfoldable pub bind_by : Kind → Log → ObjId → ObjId → Checked Act
bind_by Thread R s o = do
  need (is_loose R s && is_none (context_of R o)) AlreadyBound
  Ok (answers Done (say (Holds s (Some o))))
bind_by Notification R s o = do
  need (is_loose R s && is_none (homed_at R o)) AlreadyBound
  Ok (answers Done (say (Homed s (Some o))))
bind_by _ R s o = Err WrongKind
