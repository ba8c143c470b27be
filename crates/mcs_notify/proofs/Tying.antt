-- The rows of BindNtfn and UnbindNtfn are what the code does, and what it does is allowed.
use Rattle.std.specs.Prelude.{ℕ, ◌≡◌, ◌&&◌, ◌||◌, Bool, true, false, cond, Option, Some, None, is_some, is_none, IsSome, Ok, Err}
use Rattle.std.proofs.Common.{refl, sym, subst}
use Rattle.mcs_types.specs.declared.id.ObjId.{ObjId}
use Rattle.mcs_types.specs.declared.id.CoreId.{CoreId}
use Rattle.mcs_types.specs.declared.id.Kind.TheVariants as kind
use Rattle.mcs_types.specs.declared.cap.Cap.{Cap}
use Rattle.mcs_types.specs.declared.record.Queue.TheVariants.{Waiters}
use Rattle.mcs_types.specs.declared.entry.Entry.TheVariants.{BindNtfn, UnbindNtfn}
use Rattle.mcs_types.specs.declared.entry.Refusal.TheVariants.{NoRight, AlreadyBound, NotBound}
use Rattle.mcs_book.specs.Logs.{Log}
use Rattle.mcs_book.specs.Checks.{Checked, ◌>>=◌, ◌>>◌, need}
use Rattle.mcs_book.specs.Lookup.{capability}
use Rattle.mcs_book.specs.Notifications.{bound_of, tied_to}
use Rattle.mcs_book.specs.Pieces.{Act}
use Rattle.mcs_book.specs.Queues.{first_in}
use Rattle.mcs_book.specs.Rights.{may_read}
use Rattle.mcs_book.specs.Sound.{Sound, Allowed, IsThere}
use Rattle.mcs_book.specs.Table.{row}
use Rattle.mcs_book.proofs.Firm.Laws.{tied-none}
use Rattle.mcs_state.specs.Changing.{record_of, changes}
use Rattle.mcs_state.specs.declared.changes.Change.{Change}
use Rattle.mcs_state.specs.declared.changes.Change.TheVariants as change
use Rattle.mcs_state.specs.Checks.{kinded, readable, object_found, object_named, act_of}
use Rattle.mcs_state.proofs.Named.{object-is, kinded-ok, readable-ok, found-alive, named-there}
use Rattle.mcs_notify.specs.Tying.{tied, notification_named, bindable, untied, unbindable}

-- the row of BindNtfn
pub row-bind : (R : Log) (core : CoreId) (t : ObjId) (x n : ℕ) → row R core t (BindNtfn x n) ≡ act_of (bindable R t x n) changes
unfolding row ◌>>=◌ ◌>>◌ need
row-bind R core t x n = rw (object-is R t kind.Thread x, object-is R t kind.Notification n) (go (kinded kind.Thread (capability R t x)) (kinded kind.Notification (capability R t n)))
  where
    test : (u v : ObjId) (bound tied waits : Option ObjId)
        → (need (is_none bound && is_none tied && is_none waits) AlreadyBound >> Ok (changes (change.Ties u (Some v)))) ≡ act_of (cond (is_some bound || is_some tied || is_some waits) (Err AlreadyBound) (Ok (change.Ties u (Some v)))) changes
    test u v None None None = refl
    test u v None None (Some z) = refl
    test u v None (Some y) waits = refl
    test u v (Some y) tied waits = refl

    free : Cap → Cap → Checked Act
    free c d = need (is_none (bound_of R c.obj) && is_none (tied_to R d.obj) && is_none (first_in R (Waiters d.obj))) AlreadyBound >> Ok (changes (change.Ties c.obj (Some d.obj)))

    read : (b : Bool) (c d : Cap) → (need b NoRight >> free c d) ≡ act_of (tied R (Ok c.obj) (object_found (cond b (Ok d) (Err NoRight)))) changes
    read true c d = test c.obj d.obj (bound_of R c.obj) (tied_to R d.obj) (first_in R (Waiters d.obj))
    read false c d = refl

    go : (m k : Checked Cap) → (m >>= λ c. k >>= λ d. need (may_read d) NoRight >> free c d) ≡ act_of (tied R (object_found m) (object_found (readable k))) changes
    go (Err why) k = refl
    go (Ok c) (Err why) = refl
    go (Ok c) (Ok d) = read (may_read d) c d

-- the row of UnbindNtfn
pub row-unbind : (R : Log) (core : CoreId) (t : ObjId) (x : ℕ) → row R core t (UnbindNtfn x) ≡ act_of (unbindable R t x) changes
unfolding row ◌>>=◌ ◌>>◌ need
row-unbind R core t x = rw (object-is R t kind.Thread x) (go (kinded kind.Thread (capability R t x)))
  where
    test : (u : ObjId) (b : Bool) → (need b NotBound >> Ok (changes (change.Ties u None))) ≡ act_of (cond b (Ok (change.Ties u None)) (Err NotBound)) changes
    test u true = refl
    test u false = refl

    go : (m : Checked Cap) → (m >>= λ c. need (is_some (bound_of R c.obj)) NotBound >> Ok (changes (change.Ties c.obj None))) ≡ act_of (untied R (object_found m)) changes
    go (Err why) = refl
    go (Ok c) = test c.obj (is_some (bound_of R c.obj))

-- the notification that t names is there
notification-there : (R : Log) (t : ObjId) (n : ℕ) (o : ObjId) → Sound R → notification_named R t n ≡ Ok o → IsThere R kind.Notification o
notification-there R t n o sound e = go (readable (kinded kind.Notification (capability R t n))) refl e
  where
    go : (m : Checked Cap) → readable (kinded kind.Notification (capability R t n)) ≡ m → object_found m ≡ Ok o → IsThere R kind.Notification o
    go (Err why) is h = absurd cc
    go (Ok c) is h =
        let it : c.obj ≡ o = cc in
        let found = kinded-ok kind.Notification (capability R t n) c (readable-ok (kinded kind.Notification (capability R t n)) c is) in
        subst (λ x. IsThere R kind.Notification x) it (found.1, found-alive R t n c sound found.0)

-- the notification may be bound to the thread
pub bind-allowed : (R : Log) (t : ObjId) (x n : ℕ) (one : Change) → Sound R → bindable R t x n ≡ Ok one → Allowed R (record_of one)
bind-allowed R t x n one sound e = go (object_named R t kind.Thread x) refl (notification_named R t n) refl e
  where
    free : (u v : ObjId) → IsThere R kind.Thread u → IsThere R kind.Notification v → (bound : Option ObjId) → bound_of R u ≡ bound → (tied : Option ObjId) → tied_to R v ≡ tied → (waits : Option ObjId)
        → cond (is_some bound || is_some tied || is_some waits) (Err AlreadyBound) (Ok (change.Ties u (Some v))) ≡ Ok one → Allowed R (record_of one)
    free u v thread notification None none None untied None h =
        let it : change.Ties u (Some v) ≡ one = cc in
        subst (λ (p : Change). Allowed R (record_of p)) it (thread, notification, none, tied-none R v sound untied)
    free u v thread notification None none None untied (Some z) h = absurd cc
    free u v thread notification None none (Some y) tied waits h = absurd cc
    free u v thread notification (Some y) is tied k waits h = absurd cc

    go : (m : Checked ObjId) → object_named R t kind.Thread x ≡ m → (k : Checked ObjId) → notification_named R t n ≡ k → tied R m k ≡ Ok one → Allowed R (record_of one)
    go (Err why) p k q h = absurd cc
    go (Ok u) p (Err why) q h = absurd cc
    go (Ok u) p (Ok v) q h = free u v (named-there R t kind.Thread x u sound p) (notification-there R t n v sound q) (bound_of R u) refl (tied_to R v) refl (first_in R (Waiters v)) h

-- the thread's notification may be taken away
pub unbind-allowed : (R : Log) (t : ObjId) (x : ℕ) (one : Change) → unbindable R t x ≡ Ok one → Allowed R (record_of one)
unbind-allowed R t x one e = go (object_named R t kind.Thread x) e
  where
    held : (o : ObjId) (bound : Option ObjId) → bound_of R o ≡ bound → cond (is_some bound) (Ok (change.Ties o None)) (Err NotBound) ≡ Ok one → Allowed R (record_of one)
    held o None is h = absurd cc
    held o (Some y) is h = let it : change.Ties o None ≡ one = cc in subst (λ (p : Change). Allowed R (record_of p)) it (subst (λ (w : Option ObjId). IsSome w) (sym is) refl)

    go : (m : Checked ObjId) → untied R m ≡ Ok one → Allowed R (record_of one)
    go (Err why) h = absurd cc
    go (Ok o) h = held o (bound_of R o) refl h
