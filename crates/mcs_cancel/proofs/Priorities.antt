-- The row of SetPriority is what the code does.
use Rattle.std.specs.Prelude.{ℕ, ◌≡◌, Bool, true, false, cond, nat_le, Ok, Err}
use Rattle.std.proofs.Common.{refl}
use Rattle.mcs_types.specs.declared.id.ObjId.{ObjId}
use Rattle.mcs_types.specs.declared.id.CoreId.{CoreId}
use Rattle.mcs_types.specs.declared.id.Prio.{Prio}
use Rattle.mcs_types.specs.declared.id.Kind.TheVariants as kind
use Rattle.mcs_types.specs.declared.cap.Cap.{Cap}
use Rattle.mcs_types.specs.declared.entry.Entry.TheVariants.{SetPriority}
use Rattle.mcs_types.specs.declared.entry.Refusal.TheVariants.{Range}
use Rattle.mcs_book.specs.Logs.{Log}
use Rattle.mcs_book.specs.Checks.{Checked, ◌>>=◌, ◌>>◌, need}
use Rattle.mcs_book.specs.Lookup.{capability}
use Rattle.mcs_book.specs.Pieces.{Act}
use Rattle.mcs_book.specs.Table.{row}
use Rattle.mcs_book.specs.Threads.{maximum_of}
use Rattle.mcs_state.specs.Checks.{kinded, object_found, act_of}
use Rattle.mcs_state.proofs.Named.{object-is}
use Rattle.mcs_state.specs.Changing.{changes}
use Rattle.mcs_state.specs.declared.changes.Change.TheVariants as change
use Rattle.mcs_cancel.specs.Priorities.{under, settable_thread}

-- the act, of the thread that was found
abbrev pub sets : Prio → ObjId → Act
sets p x = changes (change.Sets x p)

-- the row
pub row-set : (R : Log) (core : CoreId) (t : ObjId) (x authority : ℕ) (p : Prio) → row R core t (SetPriority x authority p) ≡ act_of (settable_thread R t x authority p) (sets p)
unfolding row ◌>>=◌ ◌>>◌ need
row-set R core t x authority p = rw (object-is R t kind.Thread x, object-is R t kind.Thread authority) (go (kinded kind.Thread (capability R t x)) (kinded kind.Thread (capability R t authority)))
  where
    test : (u : ObjId) (b : Bool) → (need b Range >> Ok (sets p u)) ≡ act_of (cond b (Ok u) (Err Range)) (sets p)
    test u true = refl
    test u false = refl

    go : (m k : Checked Cap) → (m >>= λ c. k >>= λ d. need (nat_le p.0 (maximum_of R d.obj)) Range >> Ok (sets p c.obj)) ≡ act_of (under R p (object_found m) (object_found k)) (sets p)
    go (Err why) k = refl
    go (Ok c) (Err why) = refl
    go (Ok c) (Ok d) = test c.obj (nat_le p.0 (maximum_of R d.obj))
