-- What was made: each object once, and who was made is among the objects of its kind.
use Rattle.std.specs.Prelude.{◌+◌, ◌≤◌, Bool, true, false, cond, ◌||◌, ◌≡◌, [], ◌∷◌, refl}
use Rattle.std.proofs.Common.{ap, sym, ◌∙◌, inl, inr, arith}
use Rattle.mcs_types.specs.declared.id.ObjId.{ObjId}
use Rattle.mcs_types.specs.declared.id.Kind.{Kind}
use Rattle.mcs_types.specs.declared.record.Rec.TheVariants.{Made}
use Rattle.mcs_types.specs.Ids.{same, same_kind}
use Rattle.mcs_book.specs.Logs.{Log, counted}
use Rattle.mcs_book.specs.Objects.{made_of, makes_kind, was_made, is_alive}
use Rattle.mcs_book.specs.Sound.{Sound}
use Rattle.mcs_types.proofs.Ids.{parts, same-equal, same_kind-self, same_kind-equal}
use Rattle.mcs_book.proofs.Queues.Sorted.{In, Distinct}

-- who was made is among the objects of its kind
pub made-in : (R : Log) (o : ObjId) (k : Kind) → o.kind ≡ k → was_made R o ≡ true → In o (made_of R k)
made-in [] o k e h = absurd cc
made-in (Made o' form ∷ R) o k e h = go (same o o') refl h (made-in R o k e)
  where
    more : (b : Bool) → In o (made_of R k) → In o (cond b (o' ∷ made_of R k) (made_of R k))
    more true i = inr i
    more false i = i

    here : (b : Bool) → b ≡ true → o ≡ o' → In o (cond b (o' ∷ made_of R k) (made_of R k))
    here true e s = inl s
    here false e s = absurd cc

    go : (b : Bool) → same o o' ≡ b → (b || was_made R o) ≡ true → (was_made R o ≡ true → In o (made_of R k)) → In o (made_of (Made o' form ∷ R) k)
    go true is h later = let s : o ≡ o' = same-equal o o' is in here (same_kind o'.kind k) (rw (← s, e) (same_kind-self k)) s
    go false is h later = more (same_kind o'.kind k) (later h)
made-in (_ ∷ R) o k e h = made-in R o k e h

-- the serials of a kind are at most as many as were made
pub serial-below : (R : Log) (o : ObjId) (k : Kind) → Sound R → In o (made_of R k) → o.serial ≤ counted (makes_kind k) R
serial-below [] o k s i = absurd i
serial-below (Made o' form ∷ R) o k s i = go (same_kind o'.kind k) refl i (serial-below R o k s.1)
  where
    go : (b : Bool) → same_kind o'.kind k ≡ b → In o (cond b (o' ∷ made_of R k) (made_of R k)) → (In o (made_of R k) → o.serial ≤ counted (makes_kind k) R) → o.serial ≤ cond b (counted (makes_kind k) R + 1) (counted (makes_kind k) R)
    go true is (inl e) later =
        let kinds : o'.kind ≡ k = same_kind-equal o'.kind k is in
        let serial : o'.serial ≡ counted (makes_kind o'.kind) R + 1 = ap (λ (x : ObjId). x.serial) s.0.0 in
        let counts : counted (makes_kind o'.kind) R ≡ counted (makes_kind k) R = ap (λ j. counted (makes_kind j) R) kinds in
        let same_serial : o.serial ≡ o'.serial = ap (λ (x : ObjId). x.serial) e in
        omega (arith, serial, counts, same_serial)
    go true is (inr j) later = let le : o.serial ≤ counted (makes_kind k) R = later j in omega (arith, le)
    go false is j later = later j
serial-below (_ ∷ R) o k s i = serial-below R o k s.1 i

-- what was made has a serial from 1 to the number of its kind
pub made-serial : (R : Log) (o : ObjId) → Sound R → was_made R o ≡ true → (1 ≤ o.serial) × (o.serial ≤ counted (makes_kind o.kind) R)
made-serial [] o sound h = absurd cc
made-serial (Made u form ∷ R) o sound h = go (same o u) refl h (made-serial R o sound.1)
  where
    more : (b : Bool) → o.serial ≤ counted (makes_kind o.kind) R → o.serial ≤ cond b (counted (makes_kind o.kind) R + 1) (counted (makes_kind o.kind) R)
    more true le = omega (arith, le)
    more false le = le

    go : (b : Bool) → same o u ≡ b → (b || was_made R o) ≡ true → (was_made R o ≡ true → (1 ≤ o.serial) × (o.serial ≤ counted (makes_kind o.kind) R))
        → (1 ≤ o.serial) × (o.serial ≤ cond (same_kind u.kind o.kind) (counted (makes_kind o.kind) R + 1) (counted (makes_kind o.kind) R))
    go true is k later =
        let it : o ≡ u = same-equal o u is in
        let serial : u.serial ≡ counted (makes_kind u.kind) R + 1 = ap (λ (x : ObjId). x.serial) sound.0.0 in
        let own : o.serial ≡ counted (makes_kind o.kind) R + 1 = ap (λ (x : ObjId). x.serial) it ∙ serial ∙ ap (λ (x : ObjId). counted (makes_kind x.kind) R + 1) (sym it) in
        let kinds : same_kind u.kind o.kind ≡ true = ap (λ (x : ObjId). same_kind x.kind o.kind) (sym it) ∙ same_kind-self o.kind in
        (omega (arith, own), rw kinds (omega (arith, own)))
    go false is k later = let l = later k in (l.0, more (same_kind u.kind o.kind) l.1)
made-serial (_ ∷ R) o sound h = made-serial R o sound.1 h

-- no object is made twice
pub made-distinct : (R : Log) (k : Kind) → Sound R → Distinct (made_of R k)
made-distinct [] k s = tt
made-distinct (Made o form ∷ R) k s = go (same_kind o.kind k) refl (made-distinct R k s.1)
  where
    go : (b : Bool) → same_kind o.kind k ≡ b → Distinct (made_of R k) → Distinct (cond b (o ∷ made_of R k) (made_of R k))
    go true is rest =
        let kinds : o.kind ≡ k = same_kind-equal o.kind k is in
        let serial : o.serial ≡ counted (makes_kind o.kind) R + 1 = ap (λ (x : ObjId). x.serial) s.0.0 in
        let counts : counted (makes_kind o.kind) R ≡ counted (makes_kind k) R = ap (λ j. counted (makes_kind j) R) kinds in
        (λ i. let le : o.serial ≤ counted (makes_kind k) R = serial-below R o k s.1 i in absurd (omega (arith, serial, counts, le)), rest)
    go false is rest = rest
made-distinct (_ ∷ R) k s = made-distinct R k s.1

-- who is there was made
pub alive-made : (R : Log) (o : ObjId) → is_alive R o ≡ true → was_made R o ≡ true
alive-made R o h = (parts _ _ h).0
