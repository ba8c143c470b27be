-- What the writes of an owing and of an ending leave of the links.
use Rattle.std.proofs.Common.{◌≡◌, ◌||◌, ℕ, Bool, true, false, cond, nat_eq, List, ◌∷◌, Option, Some, None, is_none, refl, ap, sym, ◌∙◌, arith}
use Rattle.std.proofs.lemmas.Grind.{common_steps}
use Rattle.std.proofs.lemmas.Bool.{false≢true}
use Rattle.mcs_types.specs.declared.id.ObjId.{ObjId}
use Rattle.mcs_types.specs.Ids.{same}
use Rattle.mcs_types.proofs.Ids.{same-self, same-equal}
use Rattle.mcs_types.specs.Chains.{head_of}
use Rattle.mcs_replies.specs.declared.places.PlaceNo.{PlaceNo}
use Rattle.mcs_replies.specs.declared.links.Link.{Link}
use Rattle.mcs_replies.specs.Places.{place_number, place_at_number}
use Rattle.mcs_replies.specs.Neighbours.{has, below, above, above_from, upper, lower}
use Rattle.mcs_replies.specs.Links.{is_with, is_at, below_of, above_of, with_above, with_below, Spells}
use Rattle.mcs_replies.proofs.Neighbours.{above-under, above-head, apart-upper, upper-lower, has-upper, above-upper, below-upper, above-below, head-upper}

-- what a changed field leaves
pub with-above : (s : ObjId) (a : Option PlaceNo) (o : Option Link) → is_with s (with_above a o) ≡ is_with s o
with-above s a None = refl
with-above s a (Some l) = refl

pub with-below : (s : ObjId) (a : Option PlaceNo) (o : Option Link) → is_with s (with_below a o) ≡ is_with s o
with-below s a None = refl
with-below s a (Some l) = refl

below-kept : (a : Option PlaceNo) (o : Option Link) → below_of (with_above a o) ≡ below_of o
below-kept a None = refl
below-kept a (Some l) = refl

above-kept : (a : Option PlaceNo) (o : Option Link) → above_of (with_below a o) ≡ above_of o
above-kept a None = refl
above-kept a (Some l) = refl

above-none : (o : Option Link) → above_of (with_above None o) ≡ None
above-none None = refl
above-none (Some l) = refl

below-none : (o : Option Link) → below_of (with_below None o) ≡ None
below-none None = refl
below-none (Some l) = refl

above-set : (s : ObjId) (a : Option PlaceNo) (o : Option Link) → is_with s o ≡ true → above_of (with_above a o) ≡ place_number a
above-set s a None h = absurd (false≢true h)
above-set s a (Some l) h = refl

-- in one chain at most
pub one-with : (x s : ObjId) (o : Option Link) → is_with x o ≡ true → is_with s o ≡ true → x ≡ s
one-with x s None h k = absurd (false≢true h)
one-with x s (Some l) h k = sym (same-equal l.context x h) ∙ same-equal l.context s k

pub not-with : (x s : ObjId) (o : Option Link) → same x s ≡ false → is_with x o ≡ true → is_with s o ≡ false
not-with x s o ne h = go (is_with s o) refl
  where
    go : (b : Bool) → is_with s o ≡ b → b ≡ false
    go false e = refl
    go true e = sym (same-self s) ∙ ap (λ (z : ObjId). same z s) (sym (one-with x s o h e)) ∙ ne

-- a chain whose links are as they were
pub spells-other : (f f' : ℕ → Option Link) (top : Option ℕ) (x : ObjId) (ps : List ℕ) → Spells f top x ps → ((u : ℕ) → is_with x (f u) ≡ true → f' u ≡ f u) → ((u : ℕ) → is_with x (f u) ≡ false → is_with x (f' u) ≡ false) → Spells f' top x ps
spells-other f f' top x ps old kept out = record {
  tops = old.tops;
  apart = old.apart;
  stands = λ u. old.stands u ∙ sym (with-kept u (is_with x (f u)) refl);
  aboves = λ u h. ap above_of (kept u (sym (old.stands u) ∙ h)) ∙ old.aboves u h;
  belows = λ u h. ap below_of (kept u (sym (old.stands u) ∙ h)) ∙ old.belows u h;
}
  where
    with-kept : (u : ℕ) (b : Bool) → is_with x (f u) ≡ b → is_with x (f' u) ≡ is_with x (f u)
    with-kept u true e = ap (is_with x) (kept u e)
    with-kept u false e = out u e ∙ sym e

-- a reply object that came on top
abbrev pub linked : ObjId → ObjId → Option PlaceNo → Link
linked s r t = record { context = s; reply = r; above = None; below = t }

pub on-top : (f f' : ℕ → Option Link) (p : ℕ) (s r : ObjId) (t : Option PlaceNo) (ps : List ℕ) → f p ≡ None
    → ((u : ℕ) → f' u ≡ cond (nat_eq p u) (Some (linked s r t)) (cond (is_at (place_number t) u) (with_above (Some (place_at_number p)) (f u)) (f u)))
    → Spells f (place_number t) s ps → Spells f' (Some p) s (p ∷ ps)
on-top f f' p s r t ps free w old = record {
  tops = refl;
  apart = (out, old.apart);
  stands = λ u. stands u (nat_eq p u) refl;
  aboves = λ u h. aboves u (nat_eq p u) refl h;
  belows = λ u h. belows u (nat_eq p u) refl h;
}
  where
    out : has p ps ≡ false
    out = old.stands p ∙ ap (is_with s) free

    there : (u : ℕ) → nat_eq p u ≡ true → f' u ≡ Some (record { context = s; reply = r; above = None; below = t })
    there u e = w u ∙ ap (λ b. cond b (Some (record { context = s; reply = r; above = None; below = t })) (cond (is_at (place_number t) u) (with_above (Some (place_at_number p)) (f u)) (f u))) e

    later : (u : ℕ) → nat_eq p u ≡ false → f' u ≡ cond (is_at (place_number t) u) (with_above (Some (place_at_number p)) (f u)) (f u)
    later u e = w u ∙ ap (λ b. cond b (Some (record { context = s; reply = r; above = None; below = t })) (cond (is_at (place_number t) u) (with_above (Some (place_at_number p)) (f u)) (f u))) e

    with-cond : (u : ℕ) (b : Bool) → is_with s (cond b (with_above (Some (place_at_number p)) (f u)) (f u)) ≡ is_with s (f u)
    with-cond u true = with-above s (Some (place_at_number p)) (f u)
    with-cond u false = refl

    stands : (u : ℕ) (b : Bool) → nat_eq p u ≡ b → has u (p ∷ ps) ≡ is_with s (f' u)
    stands u true e = ap (λ b. b || has u ps) e ∙ sym (ap (is_with s) (there u e) ∙ same-self s)
    stands u false e = ap (λ b. b || has u ps) e ∙ old.stands u ∙ sym (ap (is_with s) (later u e) ∙ with-cond u (is_at (place_number t) u))

    above-cond : (u : ℕ) (b : Bool) → is_with s (f u) ≡ true → above_of (cond b (with_above (Some (place_at_number p)) (f u)) (f u)) ≡ cond b (Some p) (above_of (f u))
    above-cond u true h = above-set s (Some (place_at_number p)) (f u) h
    above-cond u false h = refl

    aboves : (u : ℕ) (b : Bool) → nat_eq p u ≡ b → has u (p ∷ ps) ≡ true → above_of (f' u) ≡ above u (p ∷ ps)
    aboves u true e h = ap above_of (there u e) ∙ sym (ap (λ b. cond b None (above_from (Some p) u ps)) e)
    aboves u false e h =
        let i : has u ps ≡ true = sym (ap (λ b. b || has u ps) e) ∙ h in
        ap above_of (later u e) ∙ above-cond u (is_at (place_number t) u) (sym (old.stands u) ∙ i) ∙ ap (λ o. cond (is_at (place_number t) u) (Some p) o) (old.aboves u i)
        ∙ ap (λ o. cond (is_at o u) (Some p) (above u ps)) old.tops ∙ sym (above-under p u ps old.apart i) ∙ sym (ap (λ b. cond b None (above_from (Some p) u ps)) e)

    below-cond : (u : ℕ) (b : Bool) → below_of (cond b (with_above (Some (place_at_number p)) (f u)) (f u)) ≡ below_of (f u)
    below-cond u true = below-kept (Some (place_at_number p)) (f u)
    below-cond u false = refl

    belows : (u : ℕ) (b : Bool) → nat_eq p u ≡ b → has u (p ∷ ps) ≡ true → below_of (f' u) ≡ below u (p ∷ ps)
    belows u true e h = ap below_of (there u e) ∙ old.tops ∙ sym (ap (λ b. cond b (head_of ps) (below u ps)) e)
    belows u false e h =
        let i : has u ps ≡ true = sym (ap (λ b. b || has u ps) e) ∙ h in
        ap below_of (later u e) ∙ below-cond u (is_at (place_number t) u) ∙ old.belows u i ∙ sym (ap (λ b. cond b (head_of ps) (below u ps)) e)

-- the top was taken off
pub off-top : (f f' : ℕ → Option Link) (p : ℕ) (s : ObjId) (t : Option ℕ) (ps : List ℕ)
    → ((u : ℕ) → f' u ≡ cond (is_at (head_of ps) u) (with_above None (cond (nat_eq p u) None (f u))) (cond (nat_eq p u) None (f u)))
    → Spells f t s (p ∷ ps) → Spells f' (head_of ps) s ps
off-top f f' p s t ps w old = record {
  tops = refl;
  apart = old.apart.1;
  stands = λ u. stands u (nat_eq p u) refl;
  aboves = λ u h. aboves u (nat_eq p u) refl h;
  belows = λ u h. belows u (nat_eq p u) refl h;
}
  where
    with-cond : (u : ℕ) (b : Bool) (o : Option Link) → is_with s (cond b (with_above None o) o) ≡ is_with s o
    with-cond u true o = with-above s None o
    with-cond u false o = refl

    is : (u : ℕ) (b : Bool) → nat_eq p u ≡ b → f' u ≡ cond (is_at (head_of ps) u) (with_above None (cond b None (f u))) (cond b None (f u))
    is u b e = w u ∙ ap (λ b. cond (is_at (head_of ps) u) (with_above None (cond b None (f u))) (cond b None (f u))) e

    stands : (u : ℕ) (b : Bool) → nat_eq p u ≡ b → has u ps ≡ is_with s (f' u)
    stands u true e =
        let i : p ≡ u = grind (arith, common_steps) in
        ap (λ z. has z ps) (sym i) ∙ old.apart.0 ∙ sym (ap (is_with s) (is u true e) ∙ with-cond u (is_at (head_of ps) u) None)
    stands u false e = sym (ap (λ b. b || has u ps) e) ∙ old.stands u ∙ sym (ap (is_with s) (is u false e) ∙ with-cond u (is_at (head_of ps) u) (f u))

    other : (u : ℕ) → has u ps ≡ true → nat_eq p u ≡ true → ⊥
    other u h e =
        let i : p ≡ u = grind (arith, common_steps) in
        false≢true (sym old.apart.0 ∙ ap (λ z. has z ps) i ∙ h)

    above-cond : (u : ℕ) (b : Bool) → is_at (head_of ps) u ≡ b → has u ps ≡ true → above_of (cond b (with_above None (f u)) (f u)) ≡ cond b None (above_of (f u))
    above-cond u true e h = above-none (f u)
    above-cond u false e h = refl

    same-above : (u : ℕ) (b : Bool) → is_at (head_of ps) u ≡ b → has u ps ≡ true → cond b None (cond b (Some p) (above u ps)) ≡ above u ps
    same-above u true e h = sym (above-head u ps e)
    same-above u false e h = refl

    aboves : (u : ℕ) (b : Bool) → nat_eq p u ≡ b → has u ps ≡ true → above_of (f' u) ≡ above u ps
    aboves u true e h = absurd (other u h e)
    aboves u false e h =
        let i : has u (p ∷ ps) ≡ true = ap (λ b. b || has u ps) e ∙ h in
        ap above_of (is u false e) ∙ above-cond u (is_at (head_of ps) u) refl h
        ∙ ap (λ o. cond (is_at (head_of ps) u) None o) (old.aboves u i ∙ ap (λ b. cond b None (above_from (Some p) u ps)) e ∙ above-under p u ps old.apart.1 h)
        ∙ same-above u (is_at (head_of ps) u) refl h

    below-cond : (u : ℕ) (b : Bool) → below_of (cond b (with_above None (f u)) (f u)) ≡ below_of (f u)
    below-cond u true = below-kept None (f u)
    below-cond u false = refl

    belows : (u : ℕ) (b : Bool) → nat_eq p u ≡ b → has u ps ≡ true → below_of (f' u) ≡ below u ps
    belows u true e h = absurd (other u h e)
    belows u false e h =
        let i : has u (p ∷ ps) ≡ true = ap (λ b. b || has u ps) e ∙ h in
        ap below_of (is u false e) ∙ below-cond u (is_at (head_of ps) u) ∙ old.belows u i ∙ ap (λ b. cond b (head_of ps) (below u ps)) e

-- a place and all below it were taken away
pub cut-below : (f f' : ℕ → Option Link) (p : ℕ) (s : ObjId) (t : Option ℕ) (ps : List ℕ) → has p ps ≡ true
    → ((u : ℕ) → f' u ≡ cond (is_at (above p ps) u) (with_below None (cond (has u (lower p ps)) None (f u))) (cond (has u (lower p ps)) None (f u)))
    → Spells f t s ps → Spells f' (cond (is_none (above p ps)) None t) s (upper p ps)
cut-below f f' p s t ps in_p w old = record {
  tops = ap (λ o. cond (is_none (above p ps)) None o) old.tops ∙ sym (head-upper p ps in_p);
  apart = apart-upper p ps old.apart;
  stands = λ u. upper-lower p u ps old.apart ∙ stands u (has u (lower p ps)) refl;
  aboves = λ u h. aboves u h (has u (lower p ps)) refl;
  belows = λ u h. belows u h (has u (lower p ps)) refl;
}
  where
    with-cond : (b : Bool) (o : Option Link) → is_with s (cond b (with_below None o) o) ≡ is_with s o
    with-cond true o = with-below s None o
    with-cond false o = refl

    is : (u : ℕ) (b : Bool) → has u (lower p ps) ≡ b → f' u ≡ cond (is_at (above p ps) u) (with_below None (cond b None (f u))) (cond b None (f u))
    is u b e = w u ∙ ap (λ b. cond (is_at (above p ps) u) (with_below None (cond b None (f u))) (cond b None (f u))) e

    stands : (u : ℕ) (b : Bool) → has u (lower p ps) ≡ b → cond (has u (lower p ps)) false (has u ps) ≡ is_with s (f' u)
    stands u true e = ap (λ b. cond b false (has u ps)) e ∙ sym (ap (is_with s) (is u true e) ∙ with-cond (is_at (above p ps) u) None)
    stands u false e = ap (λ b. cond b false (has u ps)) e ∙ old.stands u ∙ sym (ap (is_with s) (is u false e) ∙ with-cond (is_at (above p ps) u) (f u))

    other : (u : ℕ) → has u (upper p ps) ≡ true → has u (lower p ps) ≡ true → ⊥
    other u h e = false≢true (sym (upper-lower p u ps old.apart ∙ ap (λ b. cond b false (has u ps)) e) ∙ h)

    above-cond : (b : Bool) (o : Option Link) → above_of (cond b (with_below None o) o) ≡ above_of o
    above-cond true o = above-kept None o
    above-cond false o = refl

    aboves : (u : ℕ) → has u (upper p ps) ≡ true → (b : Bool) → has u (lower p ps) ≡ b → above_of (f' u) ≡ above u (upper p ps)
    aboves u h true e = absurd (other u h e)
    aboves u h false e = ap above_of (is u false e) ∙ above-cond (is_at (above p ps) u) (f u) ∙ old.aboves u (has-upper p u ps h) ∙ sym (above-upper None p u ps h)

    below-cond : (b : Bool) (o : Option Link) → below_of (cond b (with_below None o) o) ≡ cond b None (below_of o)
    below-cond true o = below-none o
    below-cond false o = refl

    belows : (u : ℕ) → has u (upper p ps) ≡ true → (b : Bool) → has u (lower p ps) ≡ b → below_of (f' u) ≡ below u (upper p ps)
    belows u h true e = absurd (other u h e)
    belows u h false e =
        ap below_of (is u false e) ∙ below-cond (is_at (above p ps) u) (f u) ∙ ap (λ o. cond (is_at (above p ps) u) None o) (old.belows u (has-upper p u ps h))
        ∙ ap (λ b. cond b None (below u ps)) (above-below p u ps old.apart h in_p) ∙ sym (below-upper p u ps old.apart h)
