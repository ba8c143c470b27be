-- Which objects of a kind are there after one more was made, or one was closed.
use Rattle.std.specs.Prelude.{◌≡◌, ◌&&◌, ◌||◌, Bool, true, false, cond, not, ◌∷◌, Option, None}
use Rattle.std.proofs.Common.{refl, ap, sym, ◌∙◌, subst}
use Rattle.mcs_types.specs.declared.id.ObjId.{ObjId}
use Rattle.mcs_types.specs.declared.id.Kind.{Kind}
use Rattle.mcs_types.specs.declared.record.Form.{Form}
use Rattle.mcs_types.specs.declared.record.Rec.TheVariants as rec
use Rattle.mcs_types.specs.Ids.{same, same_kind, value_after}
use Rattle.mcs_types.proofs.Ids.{both, same-equal, same_kind-equal, same_kind-self}
use Rattle.mcs_book.specs.Logs.{Log}
use Rattle.mcs_book.specs.Objects.{was_made, was_closed, is_alive}
use Rattle.mcs_book.specs.Sound.{Sound, Allowed, IsThere, IsReleased}
use Rattle.mcs_state.specs.Tables.{is_there}
use Rattle.mcs_state.proofs.Saying.{unclosed}

-- being of one kind goes both ways
pub kind-flip : (k l : Kind) → same_kind k l ≡ same_kind l k
kind-flip k l = go (same_kind k l) refl (same_kind l k) refl
  where
    go : (b : Bool) → same_kind k l ≡ b → (c : Bool) → same_kind l k ≡ c → b ≡ c
    go true e true f = refl
    go false e false f = refl
    go true e false f = let no : true ≡ false = sym (same_kind-self k) ∙ ap (λ j. same_kind j k) (same_kind-equal k l e) ∙ f in absurd cc
    go false e true f = let no : true ≡ false = sym (same_kind-self l) ∙ ap (λ j. same_kind j l) (same_kind-equal l k f) ∙ e in absurd cc

-- what was made is there, and all else as before
pub there-made : (R : Log) (o x : ObjId) (f : Form) (k : Kind) → Sound R → was_made R o ≡ false → ((same_kind x.kind k && same x o) || is_there R k x) ≡ is_there (rec.Made o f ∷ R) k x
there-made R o x f k sound never = go (same_kind x.kind k) (same x o) refl
  where
    go : (b c : Bool) → same x o ≡ c → ((b && c) || (b && (was_made R x && not (was_closed R x)))) ≡ (b && ((c || was_made R x) && not (was_closed R x)))
    go false c e = refl
    go true false e = refl
    go true true e = ap (λ d. not d) (sym (unclosed R x sound (ap (was_made R) (same-equal x o e) ∙ never)))

-- nothing changes of the other kinds
pub there-beside : (R : Log) (o x : ObjId) (f : Form) (k : Kind) → same_kind o.kind k ≡ false → is_there R k x ≡ is_there (rec.Made o f ∷ R) k x
there-beside R o x f k other = go (same_kind x.kind k) refl (same x o) refl
  where
    go : (b : Bool) → same_kind x.kind k ≡ b → (c : Bool) → same x o ≡ c → (b && (was_made R x && not (was_closed R x))) ≡ (b && ((c || was_made R x) && not (was_closed R x)))
    go false e c g = refl
    go true e false g = refl
    go true e true g = let no : true ≡ false = sym e ∙ ap (λ (y : ObjId). same_kind y.kind k) (same-equal x o g) ∙ other in absurd cc

-- what is there
pub there : (R : Log) (k : Kind) (o : ObjId) → IsThere R k o → is_there R k o ≡ true
there R k o h = both _ _ (ap (λ j. same_kind j k) h.0 ∙ same_kind-self k) h.1

-- what was closed is there no more, and all else as before
pub alive-closed : (R : Log) (o x : ObjId) → value_after x o false (is_alive R x) ≡ is_alive (rec.Closed o ∷ R) x
alive-closed R o x = go (same x o) (was_made R x)
  where
    go : (b m : Bool) → cond b false (m && not (was_closed R x)) ≡ (m && not (b || was_closed R x))
    go true true = refl
    go true false = refl
    go false m = refl

pub there-closed : (R : Log) (o x : ObjId) (k : Kind) → value_after x o false (is_there R k x) ≡ is_there (rec.Closed o ∷ R) k x
there-closed R o x k = go (same x o) (same_kind x.kind k) ∙ ap (λ b. same_kind x.kind k && b) (alive-closed R o x)
  where
    go : (b c : Bool) → cond b false (c && is_alive R x) ≡ (c && cond b false (is_alive R x))
    go true true = refl
    go true false = refl
    go false c = refl

-- nothing changes of the other kinds
pub there-unclosed : (R : Log) (o x : ObjId) (k : Kind) → same_kind o.kind k ≡ false → is_there R k x ≡ is_there (rec.Closed o ∷ R) k x
there-unclosed R o x k other = go (same x o) refl ∙ there-closed R o x k
  where
    go : (b : Bool) → same x o ≡ b → is_there R k x ≡ cond b false (is_there R k x)
    go false e = refl
    go true e = rw (same-equal x o e, other) refl

-- so of what is said of the objects that are there, that of the closed one goes
unless : {A : Type 0} (b c : Bool) (said : Option A) → cond b None (cond c said None) ≡ cond (cond b false c) said None
unless true c said = refl
unless false c said = refl

pub said-closed : {A : Type 0} (R : Log) (o x : ObjId) (said : Option A) → value_after x o None (cond (is_alive R x) said None) ≡ cond (is_alive (rec.Closed o ∷ R) x) said None
said-closed R o x said = unless (same x o) (is_alive R x) said ∙ ap (λ b. cond b said None) (alive-closed R o x)

pub said-closed_of : {A : Type 0} (R : Log) (o x : ObjId) (k : Kind) (said : Option A) → value_after x o None (cond (is_there R k x) said None) ≡ cond (is_there (rec.Closed o ∷ R) k x) said None
said-closed_of R o x k said = unless (same x o) (is_there R k x) said ∙ ap (λ b. cond b said None) (there-closed R o x k)

-- no thread is left with what is closed, as its kind says
pub released : (R : Log) (o : ObjId) (k : Kind) → o.kind ≡ k → Allowed R (rec.Closed o) → IsReleased R k o
released R o k e ok = subst (λ (j : Kind). IsReleased R j o) e ok.1
