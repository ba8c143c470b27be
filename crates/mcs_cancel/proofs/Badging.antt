-- The row of CancelBadged is what the code does, also once its thread woke.
use Rattle.std.specs.Prelude.{ℕ, ◌≡◌, Bool, true, false, cond, Ok, Err}
use Rattle.std.proofs.Common.{refl, ap, ◌∙◌}
use Rattle.mcs_types.specs.declared.id.ObjId.{ObjId}
use Rattle.mcs_types.specs.declared.id.CoreId.{CoreId}
use Rattle.mcs_types.specs.declared.id.Kind.TheVariants as kind
use Rattle.mcs_types.specs.declared.cap.Cap.{Cap}
use Rattle.mcs_types.specs.declared.record.Mode.{Mode}
use Rattle.mcs_types.specs.declared.record.Mode.TheVariants.{Running, Restart, Inactive}
use Rattle.mcs_types.specs.declared.entry.Entry.TheVariants.{CancelBadged}
use Rattle.mcs_types.specs.declared.entry.Refusal.TheVariants.{NoRight}
use Rattle.mcs_book.specs.Logs.{Log, onto}
use Rattle.mcs_book.specs.Checks.{Checked, ◌>>=◌, ◌>>◌, need}
use Rattle.mcs_book.specs.Lookup.{capability}
use Rattle.mcs_book.specs.Messages.{open_of}
use Rattle.mcs_book.specs.Rights.{has_right}
use Rattle.mcs_book.specs.Table.{row, wakes}
use Rattle.mcs_book.specs.Threads.{mode_of}
use Rattle.mcs_state.specs.Checks.{kinded, act_of}
use Rattle.mcs_state.specs.Doing.{Makes}
use Rattle.mcs_state.specs.Now.{Now, so_far}
use Rattle.mcs_state.proofs.Doing.{so_far-made}
use Rattle.mcs_state.proofs.Named.{object-is}
use Rattle.mcs_cancel.specs.Badging.{with_all, cancellable, restarts_badged, cancels_badged}

-- the row
pub row-badged : (R : Log) (core : CoreId) (t : ObjId) (a : ℕ) → row R core t (CancelBadged a) ≡ act_of (cancellable R t a) (cancels_badged R)
unfolding row ◌>>=◌ ◌>>◌ need
row-badged R core t a = rw (object-is R t kind.Endpoint a) (go (kinded kind.Endpoint (capability R t a)))
  where
    test : (b : Bool) (c : Cap) → (need b NoRight >> Ok (cancels_badged R c)) ≡ act_of (cond b (Ok c) (Err NoRight)) (cancels_badged R)
    test true c = refl
    test false c = refl

    go : (m : Checked Cap) → (m >>= λ c. need (has_right 15 c) NoRight >> Ok (cancels_badged R c)) ≡ act_of (with_all m) (cancels_badged R)
    go (Err why) = refl
    go (Ok c) = test (has_right 15 c) c

-- no thread sends and no thread leaves a queue where a thread wakes, so the same senders restart
pub woken-badged : (n m : Now) (t : ObjId) (cap : Cap) → Makes (wakes (mode_of (so_far n) t) t) n m → restarts_badged (so_far m) cap ≡ restarts_badged (so_far n) cap
unfolding open_of
woken-badged n m t cap is = ap (λ S. restarts_badged S cap) (so_far-made (wakes (mode_of (so_far n) t) t) n m is) ∙ go (so_far n) (mode_of (so_far n) t)
  where
    go : (R : Log) (mode : Mode) → restarts_badged (onto (wakes mode t R) R) cap ≡ restarts_badged R cap
    go R Running = refl
    go R Inactive = refl
    go R Restart = refl
