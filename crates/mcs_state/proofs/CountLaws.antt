-- How many objects of a kind were made and are there, after one record more.
use Rattle.std.specs.Prelude.{ℕ, ◌≡◌, ◌≢◌, ◌+◌, ◌&&◌, ◌||◌, Bool, true, false, cond, not, List, [], ◌∷◌}
use Rattle.std.proofs.Common.{refl, ap, sym, ◌∙◌, inl, inr, subst, arith}
use Rattle.mcs_types.specs.declared.id.ObjId.{ObjId}
use Rattle.mcs_types.specs.declared.id.Kind.{Kind}
use Rattle.mcs_types.specs.declared.record.Form.{Form}
use Rattle.mcs_types.specs.declared.record.Rec.TheVariants as rec
use Rattle.mcs_types.specs.Ids.{same, same_kind}
use Rattle.mcs_types.proofs.Ids.{same-self, same-other, same_kind-equal, same_kind-self}
use Rattle.mcs_book.specs.Logs.{Log, counted}
use Rattle.mcs_book.specs.Objects.{made_of, was_made, was_closed, is_alive, number_of}
use Rattle.mcs_book.specs.Sound.{Sound, Allowed}
use Rattle.mcs_book.proofs.Objects.CountLaws.{next-unmade}
use Rattle.mcs_book.proofs.Objects.MadeLaws.{alive-made, made-in, made-distinct}
use Rattle.mcs_book.proofs.Firm.Laws.{in-made}
use Rattle.mcs_book.proofs.Queues.Sorted.{In, Distinct}
use Rattle.mcs_objects.specs.Store.{Shape, one_more, IsOneFewer}
use Rattle.mcs_state.specs.Tables.{shape_said}
use Rattle.mcs_state.proofs.Saying.{unclosed}
use Rattle.mcs_state.proofs.ThereLaws.{alive-closed}

-- what was never made is the next of its kind
pub never-made : (R : Log) (o : ObjId) (f : Form) → Sound R → Allowed R (rec.Made o f) → was_made R o ≡ false
never-made R o f sound ok = ap (was_made R) ok.0 ∙ next-unmade R o.kind sound

-- as many pass one test as another that agrees on the list
counted-same : (p q : ObjId → Bool) (xs : List ObjId) → ((x : ObjId) → In x xs → p x ≡ q x) → counted p xs ≡ counted q xs
counted-same p q [] h = refl
counted-same p q (x ∷ xs) h = rw (h x (inl refl), counted-same p q xs (λ y i. h y (inr i))) refl

-- an object that is made is there, and all others are as they were
pub number-made : (R : Log) (o : ObjId) (f : Form) (k : Kind) → Sound R → Allowed R (rec.Made o f) → number_of (rec.Made o f ∷ R) k ≡ cond (same_kind o.kind k) (number_of R k + 1) (number_of R k)
number-made R o f k sound ok = go (same_kind o.kind k)
  where
    either : (b c : Bool) → ((b || true) && c) ≡ (true && c)
    either true c = refl
    either false c = refl

    others : counted (is_alive (rec.Made o f ∷ R)) (made_of R k) ≡ number_of R k
    others = counted-same (is_alive (rec.Made o f ∷ R)) (is_alive R) (made_of R k) (λ x i. rw (in-made R x k i).1 (either (same x o) (not (was_closed R x))))

    here : is_alive (rec.Made o f ∷ R) o ≡ true
    here = rw (same-self o, unclosed R o sound (never-made R o f sound ok)) refl

    go : (b : Bool) → counted (is_alive (rec.Made o f ∷ R)) (cond b (o ∷ made_of R k) (made_of R k)) ≡ cond b (number_of R k + 1) (number_of R k)
    go true = rw (here, others) refl
    go false = others

-- the counts of a kind after one of it was made, or one of another kind
pub shape-made : (R : Log) (o : ObjId) (f : Form) (k : Kind) → Sound R → Allowed R (rec.Made o f) → same_kind o.kind k ≡ true → one_more (shape_said k R) ≡ shape_said k (rec.Made o f ∷ R)
shape-made R o f k sound ok own = sym (rw (number-made R o f k sound ok, own) refl)

pub shape-beside : (R : Log) (o : ObjId) (f : Form) (k : Kind) → Sound R → Allowed R (rec.Made o f) → same_kind o.kind k ≡ false → shape_said k R ≡ shape_said k (rec.Made o f ∷ R)
shape-beside R o f k sound ok other = sym (rw (number-made R o f k sound ok, other) refl)

-- two tests that differ at o alone, which passes the first: one more passes that
module _ (p q : ObjId → Bool) (o : ObjId) (passes : p o ≡ true) (fails : q o ≡ false) (agree : (x : ObjId) → x ≢ o → p x ≡ q x) where
  counted-fewer : (xs : List ObjId) → Distinct xs → In o xs → counted p xs ≡ counted q xs + 1
  counted-fewer [] once i = absurd i
  counted-fewer (x ∷ xs) once (inl e) =
      let others : counted p xs ≡ counted q xs = counted-same p q xs (λ y i. agree y (λ is. once.0 (subst (λ (z : ObjId). In z xs) (is ∙ e) i))) in
      rw (ap p (sym e) ∙ passes, ap q (sym e) ∙ fails) (ap (λ n. n + 1) others)
  counted-fewer (x ∷ xs) once (inr i) = rw (agree x (λ is. once.0 (subst (λ (z : ObjId). In z xs) (sym is) i)), counted-fewer xs once.1 i) (go (q x))
    where
      go : (b : Bool) → cond b (counted q xs + 1 + 1) (counted q xs + 1) ≡ cond b (counted q xs + 1) (counted q xs) + 1
      go true = refl
      go false = refl

-- an object that is closed is there no more, and all others are as they were
pub number-closed : (R : Log) (o : ObjId) (k : Kind) → Sound R → Allowed R (rec.Closed o) → number_of R k ≡ cond (same_kind o.kind k) (number_of (rec.Closed o ∷ R) k + 1) (number_of (rec.Closed o ∷ R) k)
number-closed R o k sound ok = go (same_kind o.kind k) refl
  where
    left : (x : ObjId) → x ≢ o → is_alive R x ≡ is_alive (rec.Closed o ∷ R) x
    left x ne = ap (λ b. cond b false (is_alive R x)) (sym (same-other x o ne)) ∙ alive-closed R o x

    gone : is_alive (rec.Closed o ∷ R) o ≡ false
    gone = sym (alive-closed R o o) ∙ ap (λ b. cond b false (is_alive R o)) (same-self o)

    go : (b : Bool) → same_kind o.kind k ≡ b → number_of R k ≡ cond b (number_of (rec.Closed o ∷ R) k + 1) (number_of (rec.Closed o ∷ R) k)
    go true e = counted-fewer (is_alive R) (is_alive (rec.Closed o ∷ R)) o ok.0 gone left (made_of R k) (made-distinct R k sound) (made-in R o k (same_kind-equal o.kind k e) (alive-made R o ok.0))
    go false e = counted-same (is_alive R) (is_alive (rec.Closed o ∷ R)) (made_of R k) (λ x i. left x (λ is. other x i is))
      where
        other : (x : ObjId) → In x (made_of R k) → x ≡ o → ⊥
        other x i is = let no : true ≡ false = sym (same_kind-self k) ∙ ap (λ j. same_kind j k) (sym (in-made R x k i).0 ∙ ap (λ (y : ObjId). y.kind) is) ∙ e in absurd cc

-- the counts of a kind after one of it was closed, or one of another kind
pub shape-closed : (R : Log) (o : ObjId) (k : Kind) (old new : Shape) → Sound R → Allowed R (rec.Closed o) → same_kind o.kind k ≡ true → IsOneFewer old new → old ≡ shape_said k R → new ≡ shape_said k (rec.Closed o ∷ R)
shape-closed R o k old new sound ok own fewer is =
    let kind : new.kind ≡ k = ap (λ (s : Shape). s.kind) fewer ∙ ap (λ (s : Shape). s.kind) is in
    let room : new.room ≡ (shape_said k R).room = ap (λ (s : Shape). s.room) fewer ∙ ap (λ (s : Shape). s.room) is in
    let more : new.given + 1 ≡ old.given + 1 = ap (λ (s : Shape). s.given) fewer in
    let given : new.given ≡ (shape_said k R).given = plus-one new.given old.given more ∙ ap (λ (s : Shape). s.given) is in
    let left : new.there + 1 ≡ number_of (rec.Closed o ∷ R) k + 1 = ap (λ (s : Shape). s.there) fewer ∙ ap (λ (s : Shape). s.there) is ∙ number-closed R o k sound ok ∙ rw own refl in
    let there : new.there ≡ number_of (rec.Closed o ∷ R) k = plus-one new.there (number_of (rec.Closed o ∷ R) k) left in
    λ i. record { kind = kind i; room = room i; given = given i; there = there i }
  where
    plus-one : (a b : ℕ) → a + 1 ≡ b + 1 → a ≡ b
    plus-one a b e = omega (arith, e)

pub shape-unclosed : (R : Log) (o : ObjId) (k : Kind) → Sound R → Allowed R (rec.Closed o) → same_kind o.kind k ≡ false → shape_said k R ≡ shape_said k (rec.Closed o ∷ R)
shape-unclosed R o k sound ok other = rw (number-closed R o k sound ok, other) refl
