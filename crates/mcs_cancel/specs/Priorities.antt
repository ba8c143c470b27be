-- What SetPriority tests.
use Rattle.std.specs.Prelude.{ℕ, cond, nat_le, Ok, Err}
use Rattle.mcs_types.specs.declared.id.ObjId.{ObjId}
use Rattle.mcs_types.specs.declared.id.Prio.{Prio}
use Rattle.mcs_types.specs.declared.id.Kind.TheVariants as kind
use Rattle.mcs_types.specs.declared.entry.Refusal.TheVariants.{Range}
use Rattle.mcs_book.specs.Logs.{Log}
use Rattle.mcs_book.specs.Checks.{Checked}
use Rattle.mcs_book.specs.Threads.{maximum_of}
use Rattle.mcs_state.specs.Checks.{object_named}

-- a thread, where the authority may give this priority; the thread is tested first
abbrev pub under : Log → Prio → Checked ObjId → Checked ObjId → Checked ObjId
under R p (Err why) authority = Err why
under R p (Ok x) (Err why) = Err why
under R p (Ok x) (Ok giver) = cond (nat_le p.0 (maximum_of R giver)) (Ok x) (Err Range)

-- the thread whose priority t may set, or the first check that fails
abbrev pub settable_thread : Log → ObjId → ℕ → ℕ → Prio → Checked ObjId
settable_thread R t x authority p = under R p (object_named R t kind.Thread x) (object_named R t kind.Thread authority)
