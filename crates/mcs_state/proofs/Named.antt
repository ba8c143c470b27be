-- What was found and passed its tests is there.
use Rattle.std.specs.Prelude.{ℕ, ◌≡◌, Bool, true, false, cond, Ok, Err, Result}
use Rattle.std.proofs.Common.{refl, ap, sym, ◌∙◌, subst}
use Rattle.mcs_types.specs.declared.id.ObjId.{ObjId}
use Rattle.mcs_types.specs.declared.id.Kind.{Kind}
use Rattle.mcs_types.specs.declared.cap.Cap.{Cap}
use Rattle.mcs_types.specs.declared.entry.Refusal.TheVariants.{WrongKind, NoRight}
use Rattle.mcs_types.proofs.Ids.{same_kind-equal}
use Rattle.mcs_book.specs.Logs.{Log}
use Rattle.mcs_book.specs.Checks.{Checked, ◌>>=◌, ◌>>◌, need}
use Rattle.mcs_book.specs.Lookup.{capability, of_kind}
use Rattle.mcs_book.specs.Objects.{is_alive}
use Rattle.mcs_book.specs.Paths.{IsNamed}
use Rattle.mcs_book.specs.Rights.{is_kind, may_write, may_read}
use Rattle.mcs_book.specs.Sound.{Sound, IsThere}
use Rattle.mcs_book.proofs.SoundLogs.KeptLaws.{slot-alive}
use Rattle.mcs_book.proofs.Paths.PathLaws.{capability-named}
use Rattle.mcs_state.specs.Checks.{kinded, writable, readable, object_found, object_named}

-- checks that were passed or not, and then others
pub bind-ok : {A B E : Type 0} (x : A) (f : A → Result B E) → (Ok x >>= f) ≡ f x
unfolding ◌>>=◌
bind-ok x f = refl

pub bind-err : {A B E : Type 0} (why : E) (f : A → Result B E) → (Err why >>= f) ≡ Err why
unfolding ◌>>=◌
bind-err why f = refl

-- an object of a kind at an address
pub object-is : (R : Log) (t : ObjId) (k : Kind) (a : ℕ) → of_kind R t k a ≡ kinded k (capability R t a)
unfolding of_kind ◌>>=◌ ◌>>◌ need
object-is R t k a = go (capability R t a)
  where
    test : (b : Bool) (c : Cap) → (need b WrongKind >> Ok c) ≡ cond b (Ok c) (Err WrongKind)
    test true c = refl
    test false c = refl

    go : (m : Checked Cap) → (m >>= λ c. need (is_kind k c) WrongKind >> Ok c) ≡ kinded k m
    go (Err why) = refl
    go (Ok c) = test (is_kind k c) c

-- what was found is there
pub found-alive : (R : Log) (t : ObjId) (a : ℕ) (c : Cap) → Sound R → capability R t a ≡ Ok c → is_alive R c.obj ≡ true
found-alive R t a c sound e =
    let named : IsNamed R t a c = capability-named R t a c e in
    slot-alive R named.named.at.cnode named.named.at.index c sound named.named.there

-- a capability of a kind that was found
pub kinded-ok : (k : Kind) (m : Checked Cap) (c : Cap) → kinded k m ≡ Ok c → (m ≡ Ok c) × (c.obj.kind ≡ k)
kinded-ok k (Err why) c e = absurd cc
kinded-ok k (Ok x) c e = let g = go (is_kind k x) refl e in (ap (λ y. Ok y) g.0, g.1)
  where
    go : (b : Bool) → is_kind k x ≡ b → cond b (Ok x) (Err WrongKind) ≡ Ok c → (x ≡ c) × (c.obj.kind ≡ k)
    go true is h = let it : x ≡ c = cc in (it, ap (λ (y : Cap). y.obj.kind) (sym it) ∙ same_kind-equal x.obj.kind k is)
    go false is h = absurd cc

pub writable-ok : (m : Checked Cap) (c : Cap) → writable m ≡ Ok c → m ≡ Ok c
writable-ok (Err why) c e = absurd cc
writable-ok (Ok x) c e = ap (λ y. Ok y) (go (may_write x) e)
  where
    go : (b : Bool) → cond b (Ok x) (Err NoRight) ≡ Ok c → x ≡ c
    go true h = cc
    go false h = absurd cc

pub readable-ok : (m : Checked Cap) (c : Cap) → readable m ≡ Ok c → m ≡ Ok c
readable-ok (Err why) c e = absurd cc
readable-ok (Ok x) c e = ap (λ y. Ok y) (go (may_read x) e)
  where
    go : (b : Bool) → cond b (Ok x) (Err NoRight) ≡ Ok c → x ≡ c
    go true h = cc
    go false h = absurd cc

-- the object of a kind that t names is there
pub named-there : (R : Log) (t : ObjId) (k : Kind) (a : ℕ) (o : ObjId) → Sound R → object_named R t k a ≡ Ok o → IsThere R k o
named-there R t k a o sound e = go (kinded k (capability R t a)) refl e
  where
    go : (m : Checked Cap) → kinded k (capability R t a) ≡ m → object_found m ≡ Ok o → IsThere R k o
    go (Err why) is h = absurd cc
    go (Ok c) is h =
        let it : c.obj ≡ o = cc in
        let found = kinded-ok k (capability R t a) c is in
        subst (λ x. IsThere R k x) it (found.1, found-alive R t a c sound found.0)
