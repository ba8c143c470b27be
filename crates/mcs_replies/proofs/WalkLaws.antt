-- Walks along links.
use Rattle.std.proofs.Common.{◌≡◌, ◌≤◌, ◌||◌, ℕ, zero, suc, Bool, true, false, cond, nat_eq, List, [], ◌∷◌, length, Option, Some, None, option_map, is_some, refl, ap, sym, ◌∙◌, subst, arith}
use Rattle.std.proofs.lemmas.Grind.{common_steps}
use Rattle.std.proofs.lemmas.Bool.{false≢true}
use Rattle.mcs_types.specs.declared.id.ObjId.{ObjId}
use Rattle.mcs_types.specs.Chains.{head_of}
use Rattle.mcs_replies.specs.declared.links.Link.{Link}
use Rattle.mcs_replies.specs.Places.{place_number}
use Rattle.mcs_replies.specs.Neighbours.{has, Apart, below}
use Rattle.mcs_replies.specs.Links.{walk, step, below_of}

-- a place whose link is changed
pub map-missing : (g : Link → Link) (f : ℕ → Option Link) (p u : ℕ) → f p ≡ None → f u ≡ cond (nat_eq p u) (option_map g (f u)) (f u)
map-missing g f p u h = go (nat_eq p u) refl
  where
    go : (b : Bool) → nat_eq p u ≡ b → f u ≡ cond b (option_map g (f u)) (f u)
    go true e =
        let i : p ≡ u = grind (arith, common_steps) in
        let at : f u ≡ None = ap f (sym i) ∙ h in
        at ∙ sym (ap (option_map g) at)
    go false e = refl

pub map-written : (g : Link → Link) (f f' : ℕ → Option Link) (p u : ℕ) (l : Link) → f p ≡ Some l → f' u ≡ cond (nat_eq p u) (Some (g l)) (f u) → f' u ≡ cond (nat_eq p u) (option_map g (f u)) (f u)
map-written g f f' p u l h w = w ∙ go (nat_eq p u) refl
  where
    go : (b : Bool) → nat_eq p u ≡ b → cond b (Some (g l)) (f u) ≡ cond b (option_map g (f u)) (f u)
    go true e =
        let i : p ≡ u = grind (arith, common_steps) in
        let at : f u ≡ Some l = ap f (sym i) ∙ h in
        sym (ap (option_map g) at)
    go false e = refl

pub walk-none : (f : ℕ → Option Link) (n : ℕ) → walk f n None ≡ []
walk-none f zero = refl
walk-none f (suc n) = refl

pub walk-missing : (f : ℕ → Option Link) (n p : ℕ) → f p ≡ None → walk f n (Some p) ≡ []
walk-missing f zero p h = refl
walk-missing f (suc n) p h = ap (λ x. step x (λ o. walk f n o) p) h

pub walk-some : (f : ℕ → Option Link) (n p : ℕ) (l : Link) → f p ≡ Some l → walk f (suc n) (Some p) ≡ p ∷ walk f n (place_number l.below)
walk-some f n p l h = ap (λ x. step x (λ o. walk f n o) p) h

none-either : (b : Bool) → cond {A = Option Link} b None None ≡ None
none-either true = refl
none-either false = refl

-- a place that the walk does not visit may be cleared
pub walk-frame : (f f' : ℕ → Option Link) (p : ℕ) → ((u : ℕ) → f' u ≡ cond (nat_eq p u) None (f u)) → (n : ℕ) (o : Option ℕ) → has p (walk f n o) ≡ false → walk f' n o ≡ walk f n o
walk-frame f f' p w zero o h = refl
walk-frame f f' p w (suc n) None h = refl
walk-frame f f' p w (suc n) (Some q) h = go (f q) refl (λ o. walk-frame f f' p w n o)
  where
    go : (x : Option Link) → f q ≡ x → ((o : Option ℕ) → has p (walk f n o) ≡ false → walk f' n o ≡ walk f n o) → walk f' (suc n) (Some q) ≡ walk f (suc n) (Some q)
    go None e r =
        let none : f' q ≡ None = w q ∙ ap (λ x. cond (nat_eq p q) None x) e ∙ none-either (nat_eq p q) in
        walk-missing f' (suc n) q none ∙ sym (walk-missing f (suc n) q e)
    go (Some l) e r =
        let is = walk-some f n q l e in
        let out : has p (q ∷ walk f n (place_number l.below)) ≡ false = ap (has p) (sym is) ∙ h in
        let ne : nat_eq p q ≡ false = grind (arith, common_steps, out) in
        let there : f' q ≡ Some l = w q ∙ ap (λ b. cond b None (f q)) ne ∙ e in
        let rest : has p (walk f n (place_number l.below)) ≡ false = grind (arith, common_steps, out) in
        walk-some f' n q l there ∙ ap (λ zs. q ∷ zs) (r (place_number l.below) rest) ∙ sym is

-- one step of the clearing walk
pub record Cleared (f f' : ℕ → Option Link) (ps qs : List ℕ) : Type 0 where
  pub apart : Apart qs
  pub same : (u : ℕ) → cond (has u qs) None (f' u) ≡ cond (has u ps) None (f u)

pub clear-step : (f f' : ℕ → Option Link) (p n : ℕ) (l : Link) → f p ≡ Some l → ((u : ℕ) → f' u ≡ cond (nat_eq p u) None (f u)) → Apart (walk f (suc n) (Some p)) → Cleared f f' (walk f (suc n) (Some p)) (walk f' n (place_number l.below))
clear-step f f' p n l e w apart =
    let is = walk-some f n p l e in
    let a : Apart (p ∷ walk f n (place_number l.below)) = subst Apart is apart in
    let frame = walk-frame f f' p w n (place_number l.below) a.0 in
    record {
      apart = subst Apart (sym frame) a.1;
      same = λ u. ap (λ zs. cond (has u zs) None (f' u)) frame ∙ ap (λ x. cond (has u (walk f n (place_number l.below))) None x) (w u) ∙ either (nat_eq p u) (has u (walk f n (place_number l.below))) (f u) ∙ ap (λ zs. cond (has u zs) None (f u)) (sym is);
    }
  where
    either : (a b : Bool) (x : Option Link) → cond b None (cond a None x) ≡ cond (a || b) None x
    either true true x = refl
    either true false x = refl
    either false true x = refl
    either false false x = refl

-- the walk from the top spells the list
pub walk-spells : (f : ℕ → Option Link) (s : ObjId) (ps : List ℕ) → Apart ps → ((u : ℕ) → has u ps ≡ true → is_some (f u) ≡ true) → ((u : ℕ) → has u ps ≡ true → below_of (f u) ≡ below u ps) → (n : ℕ) → length ps ≤ n → walk f n (head_of ps) ≡ ps
walk-spells f s [] apart there belows n le = walk-none f n
walk-spells f s (x ∷ xs) apart there belows zero le = absurd (omega (arith, le))
walk-spells f s (x ∷ xs) apart there belows (suc n) le = go (f x) refl (walk-spells f s xs apart.1 (λ u h. there u (later u h)) (λ u h. belows u (later u h) ∙ deeper u h) n (omega (arith, le)))
  where
    here : has x (x ∷ xs) ≡ true
    here = grind (arith, common_steps)

    under : below x (x ∷ xs) ≡ head_of xs
    under = grind (arith, common_steps)

    later : (u : ℕ) → has u xs ≡ true → has u (x ∷ xs) ≡ true
    later u h = grind (arith, common_steps)

    deeper : (u : ℕ) → has u xs ≡ true → below u (x ∷ xs) ≡ below u xs
    deeper u h = let o = apart.0 in grind (arith, common_steps, o)

    go : (o : Option Link) → f x ≡ o → walk f n (head_of xs) ≡ xs → walk f (suc n) (Some x) ≡ x ∷ xs
    go None e rest = absurd (false≢true (sym (ap (λ (o : Option Link). is_some o) e) ∙ there x here))
    go (Some l) e rest =
        let next : (place_number l.below) ≡ head_of xs = sym (ap below_of e) ∙ belows x here ∙ under in
        walk-some f n x l e ∙ ap (λ o. x ∷ walk f n o) next ∙ ap (λ zs. x ∷ zs) rest
