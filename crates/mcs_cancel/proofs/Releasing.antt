-- The end of an object: what its parts record together, and what they leave.
use Rattle.std.specs.Prelude.{◌≡◌, true, List, ◌∷◌, ◌++◌, Option, Some, None}
use Rattle.std.proofs.Common.{refl, ap, sym, ◌∙◌, inl, inr, subst}
use Rattle.mcs_types.specs.declared.id.ObjId.{ObjId}
use Rattle.mcs_types.specs.declared.id.Kind.TheVariants as kind
use Rattle.mcs_types.specs.declared.record.Mode.{Mode}
use Rattle.mcs_types.specs.declared.record.Mode.TheVariants.{Restart, Inactive}
use Rattle.mcs_types.specs.declared.record.Queue.{Queue}
use Rattle.mcs_types.specs.declared.record.Queue.TheVariants.{Waiters}
use Rattle.mcs_types.specs.declared.record.Rec.TheVariants as rec
use Rattle.mcs_book.specs.Logs.{Log, onto}
use Rattle.mcs_book.specs.Cancelling.{cancel, cancel_all, leave, untie, let_go, unhome, unbind, release, destroy}
use Rattle.mcs_book.specs.Contexts.{context_of, holder_of, home_of, homed_at}
use Rattle.mcs_book.specs.Notifications.{bound_of, tied_to}
use Rattle.mcs_book.specs.Objects.{is_alive}
use Rattle.mcs_book.specs.Pieces.{Piece, ◌then◌, say, with_any}
use Rattle.mcs_book.specs.Queues.{queue_of, queued_in}
use Rattle.mcs_book.specs.Sound.{Sound, Allowed, IsReleased, IsThere, IsIdle, HoldsNone, IsUnbound, IsNoHome, IsEmptyLine}
use Rattle.mcs_book.proofs.Firm.Cancel.{outlasts-cancel, outlasts-cancel_all}
use Rattle.mcs_book.proofs.Firm.Ends.{IsLast, last-release}
use Rattle.mcs_book.proofs.SoundLogs.Keeping.{then-next}
use Rattle.mcs_book.proofs.SoundLogs.KeptLaws.{set-split, same-never, bound-one, home-one}
use Rattle.mcs_book.proofs.Threads.HoldingLaws.{holder-one}
use Rattle.mcs_cancel.specs.Emptying.{restarts_all}
use Rattle.mcs_cancel.specs.Releasing.{IsUnnamed, releases, unties, lets_go, frees, clears, unhomes, unholds}
use Rattle.mcs_cancel.proofs.Leaving.{left-turns}

-- a queue is emptied
abbrev pub empties : Queue → Piece
empties q R = restarts_all R q R

-- who is cancelled is idle then
pub cancelled-idle : (R : Log) (x : ObjId) (mode : Mode) → Sound R → IsThere R kind.Thread x → IsIdle (onto (cancel x mode R) R) x
unfolding cancel
cancelled-idle R x mode sound there = then-next (λ S. IsIdle S x) (leave R x (queue_of R x)) (say (rec.Turns x mode)) R (left-turns R x mode sound there).1

-- a cancellation binds no thread
binding-kept : (R : Log) (x o : ObjId) (mode : Mode) → bound_of (onto (cancel x mode R) R) o ≡ bound_of R o
binding-kept R x o mode = outlasts-cancel (λ S. bound_of S o ≡ bound_of R o) x mode (record { dropped = λ S m h. h; parts = λ S q h. h; voided = λ S r h. h; turns = λ S h. h }) R refl

-- and gives no context
holding-kept : (R : Log) (x o : ObjId) (mode : Mode) → context_of (onto (cancel x mode R) R) o ≡ context_of R o
unfolding context_of
holding-kept R x o mode = outlasts-cancel (λ S. context_of S o ≡ context_of R o) x mode (record { dropped = λ S m h. h; parts = λ S q h. h; voided = λ S r h. h; turns = λ S h. h }) R refl

-- nor do those of a list
ties-kept : (R : Log) (xs : List ObjId) (n : ObjId) (mode : Mode) → tied_to (onto (cancel_all xs mode R) R) n ≡ tied_to R n
unfolding tied_to
ties-kept R xs n mode = outlasts-cancel_all (λ S. tied_to S n ≡ tied_to R n) xs mode (λ x. record { dropped = λ S m h. h; parts = λ S q h. h; voided = λ S r h. h; turns = λ S h. h }) R refl

-- what outlasts that a thread is bound to nothing any more
untied : (F : Log → Type 0) (t : ObjId) (R : Log) → (F R → F (rec.Tied t None ∷ R)) → F R → F (onto (unties t R) R)
untied F t R f h = go (bound_of R t)
  where
    go : (o : Option ObjId) → F (onto (with_any o (λ n. say (rec.Tied t None)) R) R)
    go None = h
    go (Some n) = f h

-- and that it holds nothing any more
released : (F : Log → Type 0) (t : ObjId) (R : Log) → ((s : ObjId) → F R → F (rec.Holds s None ∷ R)) → F R → F (onto (lets_go t R) R)
released F t R f h = go (context_of R t)
  where
    go : (o : Option ObjId) → F (onto (let_go o R) R)
    go None = h
    go (Some s) = f s h

-- and that no thread is bound to a notification any more
freed : (F : Log → Type 0) (n : ObjId) (R : Log) → ((t : ObjId) → F R → F (rec.Tied t None ∷ R)) → F R → F (onto (frees n R) R)
freed F n R f h = go (tied_to R n)
  where
    go : (o : Option ObjId) → F (onto (untie o R) R)
    go None = h
    go (Some t) = f t h

-- a thread that is unbound holds what it held
held-untied : (R : Log) (t o : ObjId) → context_of (onto (unties t R) R) o ≡ context_of R o
unfolding context_of
held-untied R t o = untied (λ S. context_of S o ≡ context_of R o) t R (λ h. h) refl

-- the end of a thread: it is cancelled, is bound to nothing, and holds nothing
pub thread-is : (o : ObjId) (R : Log) → ((cancel o Inactive then unties o) then lets_go o) R ≡ releases o kind.Thread R
unfolding ◌then◌
thread-is o R = holds ties
  where
    ties : (cancel o Inactive then unties o) R ≡ (cancel o Inactive then with_any (bound_of R o) (λ n. say (rec.Tied o None))) R
    ties = ap (λ b. cancel o Inactive R ++ with_any b (λ n. say (rec.Tied o None)) (onto (cancel o Inactive R) R)) (binding-kept R o o Inactive)

    keeps : context_of (onto ((cancel o Inactive then unties o) R) R) o ≡ context_of R o
    keeps = then-next (λ S. context_of S o ≡ context_of R o) (cancel o Inactive) (unties o) R (held-untied (onto (cancel o Inactive R) R) o o ∙ holding-kept R o o Inactive)

    holds : (cancel o Inactive then unties o) R ≡ (cancel o Inactive then with_any (bound_of R o) (λ n. say (rec.Tied o None))) R → ((cancel o Inactive then unties o) then lets_go o) R ≡ release R o kind.Thread R
    holds is = ap (λ s. (cancel o Inactive then unties o) R ++ let_go s (onto ((cancel o Inactive then unties o) R) R)) keeps ∙ ap (λ made. made ++ let_go (context_of R o) (onto made R)) is

-- no thread is left with it
pub thread-released : (R S T : Log) (o : ObjId) → IsIdle R o → S ≡ onto (unties o R) R → T ≡ onto (lets_go o S) S → bound_of S o ≡ None → IsIdle T o × (bound_of T o ≡ None)
thread-released R S T o idle is next none =
    let one : IsIdle S o = subst (λ L. IsIdle L o) (sym is) (untied (λ L. IsIdle L o) o R (λ h. (h.0, h.1)) idle) in
    subst (λ L. IsIdle L o × (bound_of L o ≡ None)) (sym next) (released (λ L. IsIdle L o × (bound_of L o ≡ None)) o S (λ s h. ((h.0.0, h.0.1), h.1)) (one, none))

-- who held one context and gave it up holds none
pub given-up : (R : Log) (x s : ObjId) → Sound R → holder_of R s ≡ Some x → HoldsNone (rec.Holds s None ∷ R) x
given-up R x s sound held c k = elim (set-split c s None (holder_of R c) (Some x) k) [ inl (who, none) ↦ absurd cc | inr (other, still) ↦ same-never c s (holder-one R c s x sound still held) other ]

-- the only thread that was bound to a notification is bound to it no more
pub tied-alone : (R : Log) (n t : ObjId) → Sound R → bound_of R t ≡ Some n → IsUnbound (rec.Tied t None ∷ R) n
tied-alone R n t sound bound y b = elim (set-split y t None (bound_of R y) (Some n) b) [ inl (who, none) ↦ absurd cc | inr (other, still) ↦ same-never y t (bound-one R y t n sound still bound) other ]

-- nor does it home anything elsewhere
homes-kept : (R : Log) (xs : List ObjId) (n : ObjId) (mode : Mode) → homed_at (onto (cancel_all xs mode R) R) n ≡ homed_at R n
unfolding homed_at
homes-kept R xs n mode = outlasts-cancel_all (λ S. homed_at S n ≡ homed_at R n) xs mode (λ x. record { dropped = λ S m h. h; parts = λ S q h. h; voided = λ S r h. h; turns = λ S h. h }) R refl

-- nor is anything homed elsewhere once no thread is bound
homed-freed : (R : Log) (n o : ObjId) → homed_at (onto (frees n R) R) o ≡ homed_at R o
unfolding homed_at
homed-freed R n o = freed (λ S. homed_at S o ≡ homed_at R o) n R (λ t h. h) refl

-- the end of a notification: its waiters restart, no thread is bound to it, and nothing is homed at
-- it
pub notification-is : (n : ObjId) (R : Log) → ((empties (Waiters n) then frees n) then clears n) R ≡ releases n kind.Notification R
unfolding ◌then◌
notification-is n R = homes ties
  where
    xs : List ObjId
    xs = queued_in R (Waiters n)

    ties : (empties (Waiters n) then frees n) R ≡ (cancel_all xs Restart then untie (tied_to R n)) R
    ties = ap (λ b. cancel_all xs Restart R ++ untie b (onto (cancel_all xs Restart R) R)) (ties-kept R xs n Restart)

    keeps : homed_at (onto ((empties (Waiters n) then frees n) R) R) n ≡ homed_at R n
    keeps = then-next (λ S. homed_at S n ≡ homed_at R n) (empties (Waiters n)) (frees n) R (homed-freed (onto (cancel_all xs Restart R) R) n n ∙ homes-kept R xs n Restart)

    homes : (empties (Waiters n) then frees n) R ≡ (cancel_all xs Restart then untie (tied_to R n)) R → ((empties (Waiters n) then frees n) then clears n) R ≡ release R n kind.Notification R
    homes is = ap (λ s. (empties (Waiters n) then frees n) R ++ unhome s (onto ((empties (Waiters n) then frees n) R) R)) keeps ∙ ap (λ made. made ++ unhome (homed_at R n) (onto made R)) is

-- what outlasts that no context is homed at n any more
pub cleared : (F : Log → Type 0) (n : ObjId) (R : Log) → ((s : ObjId) → F R → F (rec.Homed s None ∷ R)) → F R → F (onto (clears n R) R)
cleared F n R f h = go (homed_at R n)
  where
    go : (o : Option ObjId) → F (onto (unhome o R) R)
    go None = h
    go (Some s) = f s h

-- the only context that was homed at a notification is homed there no more
pub homed-alone : (R : Log) (n s : ObjId) → Sound R → home_of R s ≡ Some n → IsNoHome (rec.Homed s None ∷ R) n
homed-alone R n s sound home c k = elim (set-split c s None (home_of R c) (Some n) k) [ inl (who, none) ↦ absurd cc | inr (other, still) ↦ same-never c s (home-one R c s n sound still home) other ]

-- no thread waits on it or is bound to it still
pub still-unwatched : (R S : Log) (n : ObjId) → S ≡ onto (clears n R) R → IsEmptyLine R (Waiters n) → IsUnbound R n → IsEmptyLine S (Waiters n) × IsUnbound S n
still-unwatched R S n is empty unbound = subst (λ L. IsEmptyLine L (Waiters n) × IsUnbound L n) (sym is) (cleared (λ L. IsEmptyLine L (Waiters n) × IsUnbound L n) n R (λ s h. h) (empty, unbound))

-- a context that is homed nowhere and held by no thread: what is recorded, and that it is still
-- homed nowhere
pub unbind-is : (s : ObjId) (R : Log) → (unhomes s then unholds s) R ≡ unbind s R
unfolding ◌then◌ unbind
unbind-is s R = go (home_of R s)
  where
    go : (o : Option ObjId) → with_any o (λ n. say (rec.Homed s None)) R ++ unholds s (onto (with_any o (λ n. say (rec.Homed s None)) R) R)
        ≡ with_any o (λ n. say (rec.Homed s None)) R ++ with_any (holder_of R s) (λ t. say (rec.Holds s None)) (onto (with_any o (λ n. say (rec.Homed s None)) R) R)
    go None = refl
    go (Some n) = refl

pub still-homeless : (R S : Log) (s : ObjId) → S ≡ onto (unholds s R) R → home_of R s ≡ None → home_of S s ≡ None
still-homeless R S s is none = subst (λ L. home_of L s ≡ None) (sym is) (go (holder_of R s))
  where
    go : (o : Option ObjId) → home_of (onto (with_any o (λ t. say (rec.Holds s None)) R) R) s ≡ None
    go None = none
    go (Some t) = none

-- no thread waits on it still
pub still-nobody : (R S : Log) (n : ObjId) → S ≡ onto (frees n R) R → IsEmptyLine R (Waiters n) → IsEmptyLine S (Waiters n)
still-nobody R S n is empty = subst (λ L. IsEmptyLine L (Waiters n)) (sym is) (freed (λ L. IsEmptyLine L (Waiters n)) n R (λ t h. h) empty)

-- an object ends once no thread is left with it
pub destroy-is : (o : ObjId) (R : Log) → (releases o o.kind then say (rec.Closed o)) R ≡ destroy o R
unfolding destroy ◌then◌
destroy-is o R = refl

-- it may, if no slot names it
pub may-close : (R S : Log) (o : ObjId) → is_alive R o ≡ true → IsUnnamed R o → S ≡ onto (release R o o.kind R) R → IsReleased S o.kind o → Allowed S (rec.Closed o)
may-close R S o alive unnamed is done =
    let last : IsLast o S = subst (λ L. IsLast o L) (sym is) (last-release R o o o.kind (record { alive = alive; no_cap = unnamed })) in
    (last.alive, done, last.no_cap)
