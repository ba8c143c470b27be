-- The row of Signal is what the code does.
use Rattle.std.specs.Prelude.{ℕ, ◌≡◌, Bool, true, false, cond, Ok, Err}
use Rattle.std.proofs.Common.{refl}
use Rattle.mcs_types.specs.declared.id.ObjId.{ObjId}
use Rattle.mcs_types.specs.declared.id.CoreId.{CoreId}
use Rattle.mcs_types.specs.declared.id.Kind.TheVariants as kind
use Rattle.mcs_types.specs.declared.cap.Cap.{Cap}
use Rattle.mcs_types.specs.declared.entry.Answer.TheVariants.{Done}
use Rattle.mcs_types.specs.declared.entry.Entry.TheVariants.{Signal}
use Rattle.mcs_types.specs.declared.entry.Refusal.TheVariants.{NoRight}
use Rattle.mcs_book.specs.Logs.{Log}
use Rattle.mcs_book.specs.Checks.{Checked, ◌>>=◌, ◌>>◌, need}
use Rattle.mcs_book.specs.Lookup.{capability}
use Rattle.mcs_book.specs.Rights.{may_write}
use Rattle.mcs_book.specs.Signalling.{signal}
use Rattle.mcs_book.specs.Sound.{Sound, IsThere}
use Rattle.mcs_book.specs.Table.{row}
use Rattle.mcs_state.specs.Checks.{kinded, writable, act_of}
use Rattle.mcs_state.proofs.Named.{object-is, kinded-ok, writable-ok, found-alive}
use Rattle.mcs_notify.specs.Rows.{signalable, signal_act}

-- the row of Signal
pub row-signal : (R : Log) (core : CoreId) (t : ObjId) (a : ℕ) → row R core t (Signal a) ≡ act_of (signalable R t a) signal_act
unfolding row signal_act ◌>>=◌ ◌>>◌ need
row-signal R core t a = rw (object-is R t kind.Notification a) (go (kinded kind.Notification (capability R t a)))
  where
    test : (b : Bool) (c : Cap) → (need b NoRight >> Ok (signal_act c)) ≡ act_of (cond b (Ok c) (Err NoRight)) signal_act
    test true c = refl
    test false c = refl

    go : (m : Checked Cap) → (m >>= λ c. need (may_write c) NoRight >> Ok (signal_act c)) ≡ act_of (writable m) signal_act
    go (Err why) = refl
    go (Ok c) = test (may_write c) c

-- the answer, and the records
pub signals : (R : Log) (cap : Cap) → signal_act cap R ≡ record { answer = Done; records = signal cap.obj cap.badge R }
unfolding signal_act
signals R cap = refl

-- the notification that t signals is there
pub signalable-there : (R : Log) (t : ObjId) (a : ℕ) (c : Cap) → Sound R → signalable R t a ≡ Ok c → IsThere R kind.Notification c.obj
signalable-there R t a c sound e =
    let found = kinded-ok kind.Notification (capability R t a) c (writable-ok (kinded kind.Notification (capability R t a)) c e) in
    (found.1, found-alive R t a c sound found.0)
