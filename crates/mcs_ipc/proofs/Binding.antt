-- The rows of BindCtx and UnbindCtx are what the code does, and what it does is allowed.
use Rattle.std.specs.Prelude.{ℕ, ◌≡◌, ◌&&◌, ◌||◌, Bool, true, false, cond, List, [], ◌∷◌, Some, is_some, is_none, Ok, Err}
use Rattle.std.proofs.Common.{refl, subst}
use Rattle.mcs_types.specs.declared.id.ObjId.{ObjId}
use Rattle.mcs_types.specs.declared.id.CoreId.{CoreId}
use Rattle.mcs_types.specs.declared.id.Kind.{Kind}
use Rattle.mcs_types.specs.declared.id.Kind.TheVariants as kind
use Rattle.mcs_types.specs.declared.cap.Cap.{Cap}
use Rattle.mcs_types.specs.declared.entry.Entry.TheVariants.{BindCtx, UnbindCtx}
use Rattle.mcs_types.specs.declared.entry.Refusal.TheVariants.{AlreadyBound, NotBound}
use Rattle.mcs_types.specs.Chains.{head_of}
use Rattle.mcs_types.proofs.Ids.{parts}
use Rattle.mcs_book.specs.Logs.{Log}
use Rattle.mcs_book.specs.Binding.{is_loose, bind_by}
use Rattle.mcs_book.specs.Chains.{is_empty}
use Rattle.mcs_book.specs.Checks.{Checked, ◌>>=◌, ◌>>◌, need}
use Rattle.mcs_book.specs.Contexts.{holder_of, context_of, home_of, homed_at}
use Rattle.mcs_book.specs.Lookup.{capability}
use Rattle.mcs_book.specs.Objects.{is_alive}
use Rattle.mcs_book.specs.Sound.{Sound, Allowed, IsThere}
use Rattle.mcs_book.specs.Table.{row}
use Rattle.mcs_book.proofs.Firm.Laws.{context-none, homed_at-none, none-is}
use Rattle.mcs_state.specs.Changing.{record_of, changes}
use Rattle.mcs_state.specs.Checks.{kinded, object_found, object_named, act_of}
use Rattle.mcs_state.specs.declared.changes.Change.{Change}
use Rattle.mcs_state.specs.declared.changes.Change.TheVariants as change
use Rattle.mcs_state.proofs.Named.{object-is, named-there, found-alive}
use Rattle.mcs_ipc.specs.Holding.{given, given_found, bindable, taken_found, unbindable, unbinds}

-- a chain is empty where nothing is on top
pub top-none : (os : List ObjId) → is_none (head_of os) ≡ is_empty os
top-none [] = refl
top-none (o ∷ os) = refl

-- a bind, by the kind of what the context is bound to
bind-is : (k : Kind) (R : Log) (s o : ObjId) → bind_by k R s o ≡ act_of (given k R s o) changes
unfolding bind_by ◌>>◌ need
bind-is kind.Thread R s o = go (is_loose R s && is_none (context_of R o))
  where
    go : (b : Bool) → (need b AlreadyBound >> Ok (changes (change.Holds s (Some o)))) ≡ act_of (cond b (Ok (change.Holds s (Some o))) (Err AlreadyBound)) changes
    go true = refl
    go false = refl
bind-is kind.Notification R s o = go (is_loose R s && is_none (homed_at R o))
  where
    go : (b : Bool) → (need b AlreadyBound >> Ok (changes (change.Homes s (Some o)))) ≡ act_of (cond b (Ok (change.Homes s (Some o))) (Err AlreadyBound)) changes
    go true = refl
    go false = refl
bind-is kind.CNode R s o = refl
bind-is kind.Endpoint R s o = refl
bind-is kind.Reply R s o = refl
bind-is kind.Context R s o = refl

-- the row of BindCtx
pub row-bind : (R : Log) (core : CoreId) (t : ObjId) (s x : ℕ) → row R core t (BindCtx s x) ≡ act_of (bindable R t s x) changes
unfolding row ◌>>=◌
row-bind R core t s x = rw (object-is R t kind.Context s) (go (kinded kind.Context (capability R t s)) (capability R t x))
  where
    go : (m n : Checked Cap) → (m >>= λ c. n >>= λ d. bind_by d.obj.kind R c.obj d.obj) ≡ act_of (given_found R (object_found m) n) changes
    go (Err why) n = refl
    go (Ok c) (Err why) = refl
    go (Ok c) (Ok d) = bind-is d.obj.kind R c.obj d.obj

-- the row of UnbindCtx
pub row-unbind : (R : Log) (core : CoreId) (t : ObjId) (s : ℕ) → row R core t (UnbindCtx s) ≡ act_of (unbindable R t s) unbinds
unfolding row ◌>>=◌ ◌>>◌ need
row-unbind R core t s = rw (object-is R t kind.Context s) (go (kinded kind.Context (capability R t s)))
  where
    test : (u : ObjId) (b : Bool) → (need b NotBound >> Ok (unbinds u)) ≡ act_of (cond b (Ok u) (Err NotBound)) unbinds
    test u true = refl
    test u false = refl

    go : (m : Checked Cap) → (m >>= λ c. need (is_some (holder_of R c.obj) || is_some (home_of R c.obj)) NotBound >> Ok (unbinds c.obj)) ≡ act_of (taken_found R (object_found m)) unbinds
    go (Err why) = refl
    go (Ok c) = test c.obj (is_some (holder_of R c.obj) || is_some (home_of R c.obj))

-- what a bind changes is allowed
given-allowed : (R : Log) (k : Kind) (s o : ObjId) (one : Change) → Sound R → IsThere R kind.Context s → o.kind ≡ k → is_alive R o ≡ true → given k R s o ≡ Ok one → Allowed R (record_of one)
given-allowed R kind.Thread s o one sound there is alive e = go (is_loose R s && is_none (context_of R o)) refl e
  where
    go : (b : Bool) → (is_loose R s && is_none (context_of R o)) ≡ b → cond b (Ok (change.Holds s (Some o))) (Err AlreadyBound) ≡ Ok one → Allowed R (record_of one)
    go true ok h =
        let it : change.Holds s (Some o) ≡ one = cc in
        subst (λ (p : Change). Allowed R (record_of p)) it (there, (is, alive), context-none R o sound (none-is _ (parts _ _ ok).1))
    go false ok h = absurd cc
given-allowed R kind.Notification s o one sound there is alive e = go (is_loose R s && is_none (homed_at R o)) refl e
  where
    go : (b : Bool) → (is_loose R s && is_none (homed_at R o)) ≡ b → cond b (Ok (change.Homes s (Some o))) (Err AlreadyBound) ≡ Ok one → Allowed R (record_of one)
    go true ok h =
        let it : change.Homes s (Some o) ≡ one = cc in
        let (loose, none) = parts _ _ ok in
        let homeless = (parts _ _ (parts _ _ loose).0).1 in
        subst (λ (p : Change). Allowed R (record_of p)) it (there, (is, alive), none-is _ homeless, homed_at-none R o sound (none-is _ none))
    go false ok h = absurd cc
given-allowed R kind.CNode s o one sound there is alive e = absurd cc
given-allowed R kind.Endpoint s o one sound there is alive e = absurd cc
given-allowed R kind.Reply s o one sound there is alive e = absurd cc
given-allowed R kind.Context s o one sound there is alive e = absurd cc

pub bind-allowed : (R : Log) (t : ObjId) (s x : ℕ) (one : Change) → Sound R → bindable R t s x ≡ Ok one → Allowed R (record_of one)
bind-allowed R t s x one sound e = go (object_named R t kind.Context s) refl (capability R t x) refl e
  where
    go : (m : Checked ObjId) → object_named R t kind.Context s ≡ m → (n : Checked Cap) → capability R t x ≡ n → given_found R m n ≡ Ok one → Allowed R (record_of one)
    go (Err why) p n q h = absurd cc
    go (Ok u) p (Err why) q h = absurd cc
    go (Ok u) p (Ok d) q h = given-allowed R d.obj.kind u d.obj one sound (named-there R t kind.Context s u sound p) refl (found-alive R t x d sound q) h
