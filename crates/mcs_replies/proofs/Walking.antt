-- Links that spell a list: what the walk from the top is, and the reply objects on it.
use Rattle.std.proofs.Common.{◌≡◌, ◌≢◌, ◌<◌, ℕ, Bool, true, false, cond, nat_eq, List, [], ◌∷◌, length, Option, Some, None, is_some, option_map, refl, ap, sym, ◌∙◌, subst, arith}
use Rattle.std.proofs.lemmas.Grind.{common_steps}
use Rattle.mcs_types.specs.declared.id.ObjId.{ObjId}
use Rattle.mcs_types.specs.declared.record.Ending.{Ending}
use Rattle.mcs_types.specs.declared.record.Ending.TheVariants.{Deleted, Cancelled}
use Rattle.mcs_types.specs.Ids.{same}
use Rattle.mcs_types.proofs.Ids.{same-equal}
use Rattle.mcs_types.specs.Limits.{object_limit}
use Rattle.mcs_types.specs.Chains.{ended}
use Rattle.mcs_types.specs.Chains.{above as ids_above}
use Rattle.mcs_replies.specs.declared.places.PlaceNo.{PlaceNo}
use Rattle.mcs_replies.specs.declared.links.Link.{Link}
use Rattle.mcs_replies.specs.Places.{place_number, place_at_number}
use Rattle.mcs_replies.specs.Tops.{TopRows, top_at, AreTops, entered}
use Rattle.mcs_replies.specs.Neighbours.{has, upper}
use Rattle.mcs_replies.specs.Links.{link_at, is_with, is_at, reply_of, replies_of, reply_in, walk, with_above, Spells, places_of, linked_of, Sound}
use Rattle.mcs_replies.proofs.Neighbours.{has-head, length-apart}
use Rattle.mcs_replies.proofs.WalkLaws.{walk-spells}
use Rattle.mcs_replies.proofs.AmongLaws.{flip}
use Rattle.mcs_replies.proofs.TopLaws.{top-entered, tops-entered}
use Rattle.mcs_replies.proofs.Relinking.{with-above, spells-other, on-top, not-with}

pub in-range : (ls : List (Option Link)) (u : ℕ) → is_some (link_at ls u) ≡ true → u < length ls
in-range ls u h = grind (arith, common_steps)

pub some-with : (s : ObjId) (o : Option Link) → is_with s o ≡ true → is_some o ≡ true
some-with s None h = h
some-with s (Some l) h = refl

-- the walk from the top
pub rewalk : (ls : List (Option Link)) (t : Option ℕ) (s : ObjId) (ps : List ℕ) → length ls ≡ object_limit → Spells (link_at ls) t s ps → walk (link_at ls) object_limit t ≡ ps
rewalk ls t s ps places sp =
    let there : (u : ℕ) → has u ps ≡ true → is_some (link_at ls u) ≡ true = λ u h. some-with s (link_at ls u) (sym (sp.stands u) ∙ h) in
    let short = length-apart object_limit ps sp.apart (λ u h. subst (λ n. u < n) places (in-range ls u (there u h))) in
    ap (λ o. walk (link_at ls) object_limit o) sp.tops ∙ walk-spells (link_at ls) s ps sp.apart there sp.belows object_limit short

pub respell : (ls : List (Option Link)) (t : Option ℕ) (s : ObjId) (ps : List ℕ) → length ls ≡ object_limit → Spells (link_at ls) t s ps → Spells (link_at ls) t s (walk (link_at ls) object_limit t)
respell ls t s ps places sp = subst (λ zs. Spells (link_at ls) t s zs) (sym (rewalk ls t s ps places sp)) sp

-- the reply objects of places whose links keep them
pub replies-same : (f g : ℕ → Option Link) (ps : List ℕ) → ((u : ℕ) → has u ps ≡ true → reply_of (g u) ≡ reply_of (f u)) → replies_of g ps ≡ replies_of f ps
replies-same f g [] h = refl
replies-same f g (x ∷ xs) h =
    let here : has x (x ∷ xs) ≡ true = grind (arith, common_steps) in
    let rest = replies-same f g xs (λ u k. h u (grind (arith, common_steps, k))) in
    ap (λ o. o ∷ replies_of g xs) (h x here) ∙ ap (λ zs. reply_of (f x) ∷ zs) rest

pub reply-above : (a : Option PlaceNo) (b : Bool) (o : Option Link) → reply_of (cond b (with_above a o) o) ≡ reply_of o
reply-above a true None = refl
reply-above a true (Some l) = refl
reply-above a false o = refl

-- a part of a chain is told by its place
pub upper-replies : (f : ℕ → Option Link) (r : ObjId) (p : ℕ) (ps : List ℕ) → ((u : ℕ) → has u ps ≡ true → same (reply_of (f u)) r ≡ nat_eq u p) → ids_above r (replies_of f ps) ≡ replies_of f (upper p ps)
upper-replies f r p [] h = refl
upper-replies f r p (x ∷ xs) h = go (nat_eq x p) (h x here) (upper-replies f r p xs (λ u k. h u (later u k)))
  where
    here : has x (x ∷ xs) ≡ true
    here = grind (arith, common_steps)

    later : (u : ℕ) → has u xs ≡ true → has u (x ∷ xs) ≡ true
    later u k = grind (arith, common_steps)

    go : (b : Bool) → same (reply_of (f x)) r ≡ b → ids_above r (replies_of f xs) ≡ replies_of f (upper p xs) → ids_above r (replies_of f (x ∷ xs)) ≡ replies_of f (cond b [] (x ∷ upper p xs))
    go true e ih = ap (λ b. cond b [] (reply_of (f x) ∷ ids_above r (replies_of f xs))) e
    go false e ih = ap (λ b. cond b [] (reply_of (f x) ∷ ids_above r (replies_of f xs))) e ∙ ap (λ zs. reply_of (f x) ∷ zs) ih

pub above-out : (f : ℕ → Option Link) (r : ObjId) (ps : List ℕ) → ((u : ℕ) → has u ps ≡ true → same (reply_of (f u)) r ≡ false) → ids_above r (replies_of f ps) ≡ replies_of f ps
above-out f r [] h = refl
above-out f r (x ∷ xs) h =
    let here : has x (x ∷ xs) ≡ true = grind (arith, common_steps) in
    ap (λ b. cond b [] (reply_of (f x) ∷ ids_above r (replies_of f xs))) (h x here) ∙ ap (λ zs. reply_of (f x) ∷ zs) (above-out f r xs (λ u k. h u (grind (arith, common_steps, k))))

pub ended-out : (how : Ending) (f : ℕ → Option Link) (r : ObjId) (ps : List ℕ) → ((u : ℕ) → has u ps ≡ true → same (reply_of (f u)) r ≡ false) → ended how r (replies_of f ps) ≡ replies_of f ps
ended-out Cancelled f r ps h = above-out f r ps h
ended-out Deleted f r [] h = refl
ended-out Deleted f r (x ∷ xs) h =
    let here : has x (x ∷ xs) ≡ true = grind (arith, common_steps) in
    ap (λ b. cond b (replies_of f xs) (reply_of (f x) ∷ ids_above r (replies_of f xs))) (h x here) ∙ ap (λ zs. reply_of (f x) ∷ zs) (above-out f r xs (λ u k. h u (grind (arith, common_steps, k))))

-- what the top of another chain is not
pub other-top : (f : ℕ → Option Link) (t : Option ℕ) (s x : ObjId) (ps : List ℕ) (u : ℕ) → Spells f t s ps → same x s ≡ false → is_with x (f u) ≡ true → is_at t u ≡ false
other-top f t s x ps u sp ne h = go (is_at t u) refl
  where
    go : (b : Bool) → is_at t u ≡ b → b ≡ false
    go false e = refl
    go true e =
        let st : has u ps ≡ true = has-head u ps (ap (λ o. is_at o u) (sym sp.tops) ∙ e) in
        let w : is_with s (f u) ≡ true = sym (sp.stands u) ∙ st in
        sym w ∙ not-with x s (f u) ne h

-- a reply object that came on top of the chain of s
module _ (ls ms : List (Option Link)) (ts us : TopRows) (p : ℕ) (s r : ObjId) (t : Option PlaceNo) (under : place_number t ≡ top_at ts s) (sound : Sound ls ts) (free : link_at ls p ≡ None) (places : length ms ≡ object_limit)
    (writes : (u : ℕ) → link_at ms u ≡ cond (nat_eq p u) (Some (record { context = s; reply = r; above = None; below = t })) (cond (is_at (place_number t) u) (with_above (Some (place_at_number p)) (link_at ls u)) (link_at ls u)))
    (tops : us ≡ entered s p ts) where
  old-own : Spells (link_at ls) (place_number t) s (places_of ls ts s)
  old-own = subst (λ o. Spells (link_at ls) o s (places_of ls ts s)) (sym under) (sound.linked s)

  free-other : (x : ObjId) (u : ℕ) → is_with x (link_at ls u) ≡ true → nat_eq p u ≡ false
  free-other x u h = go (nat_eq p u) refl
    where
      go : (b : Bool) → nat_eq p u ≡ b → b ≡ false
      go false e = refl
      go true e =
          let i : p ≡ u = grind (arith, common_steps) in
          sym h ∙ ap (λ z. is_with x (link_at ls z)) (sym i) ∙ ap (is_with x) free

  kept-other : (x : ObjId) (u : ℕ) → same x s ≡ false → is_with x (link_at ls u) ≡ true → link_at ms u ≡ link_at ls u
  kept-other x u ne h =
      writes u ∙ ap (λ b. cond b (Some (record { context = s; reply = r; above = None; below = t })) (cond (is_at (place_number t) u) (with_above (Some (place_at_number p)) (link_at ls u)) (link_at ls u))) (free-other x u h)
      ∙ ap (λ b. cond b (with_above (Some (place_at_number p)) (link_at ls u)) (link_at ls u)) (other-top (link_at ls) (place_number t) s x (places_of ls ts s) u old-own ne h)

  out-other : (x : ObjId) (u : ℕ) → same x s ≡ false → is_with x (link_at ls u) ≡ false → is_with x (link_at ms u) ≡ false
  out-other x u ne h = ap (is_with x) (writes u) ∙ go (nat_eq p u) (is_at (place_number t) u)
    where
      go : (a b : Bool) → is_with x (cond a (Some (record { context = s; reply = r; above = None; below = t })) (cond b (with_above (Some (place_at_number p)) (link_at ls u)) (link_at ls u))) ≡ false
      go true b = flip x s ne
      go false true = with-above x (Some (place_at_number p)) (link_at ls u) ∙ h
      go false false = h

  laid : (x : ObjId) (b : Bool) → same x s ≡ b → Spells (link_at ms) (cond b (Some p) (top_at ts x)) x (cond b (p ∷ places_of ls ts x) (places_of ls ts x))
  laid x true e =
      subst (λ z. Spells (link_at ms) (Some p) z (p ∷ places_of ls ts z)) (sym (same-equal x s e)) (on-top (link_at ls) (link_at ms) p s r t (places_of ls ts s) free writes old-own)
  laid x false e = spells-other (link_at ls) (link_at ms) (top_at ts x) x (places_of ls ts x) (sound.linked x) (λ u h. kept-other x u e h) (λ u h. out-other x u e h)

  top-is : (x : ObjId) → top_at us x ≡ cond (same x s) (Some p) (top_at ts x)
  top-is x = ap (λ zs. top_at zs x) tops ∙ top-entered s p ts sound.tops x

  spelled : (x : ObjId) → Spells (link_at ms) (top_at us x) x (cond (same x s) (p ∷ places_of ls ts x) (places_of ls ts x))
  spelled x = subst (λ o. Spells (link_at ms) o x (cond (same x s) (p ∷ places_of ls ts x) (places_of ls ts x))) (sym (top-is x)) (laid x (same x s) refl)

  reply-kept : (x : ObjId) (u : ℕ) → has u (places_of ls ts x) ≡ true → reply_of (link_at ms u) ≡ reply_of (link_at ls u)
  reply-kept x u h =
      let w : is_with x (link_at ls u) ≡ true = sym ((sound.linked x).stands u) ∙ h in
      ap reply_of (writes u ∙ ap (λ b. cond b (Some (record { context = s; reply = r; above = None; below = t })) (cond (is_at (place_number t) u) (with_above (Some (place_at_number p)) (link_at ls u)) (link_at ls u))) (free-other x u w))
      ∙ reply-above (Some (place_at_number p)) (is_at (place_number t) u) (link_at ls u)

  own-reply : reply_of (link_at ms p) ≡ r
  own-reply =
      let here : nat_eq p p ≡ true = grind (arith, common_steps) in
      ap reply_of (writes p ∙ ap (λ b. cond b (Some (record { context = s; reply = r; above = None; below = t })) (cond (is_at (place_number t) p) (with_above (Some (place_at_number p)) (link_at ls p)) (link_at ls p))) here)

  pub laid-chains : (x : ObjId) → linked_of ms us x ≡ cond (same x s) (r ∷ linked_of ls ts x) (linked_of ls ts x)
  laid-chains x = ap (λ zs. replies_of (link_at ms) zs) (rewalk ms (top_at us x) x _ places (spelled x)) ∙ go (same x s)
    where
      rest : replies_of (link_at ms) (places_of ls ts x) ≡ linked_of ls ts x
      rest = replies-same (link_at ls) (link_at ms) (places_of ls ts x) (λ u h. reply-kept x u h)

      go : (b : Bool) → replies_of (link_at ms) (cond b (p ∷ places_of ls ts x) (places_of ls ts x)) ≡ cond b (r ∷ linked_of ls ts x) (linked_of ls ts x)
      go true = ap (λ o. o ∷ replies_of (link_at ms) (places_of ls ts x)) own-reply ∙ ap (λ zs. r ∷ zs) rest
      go false = rest

  replies : (u : ℕ) → reply_in ms u ≡ cond (nat_eq p u) (Some r) (reply_in ls u)
  replies u = ap (λ (o : Option Link). option_map (λ (l : Link). l.reply) o) (writes u) ∙ go (nat_eq p u) (is_at (place_number t) u) (link_at ls u)
    where
      go : (a b : Bool) (o : Option Link) → option_map {T = Link} (λ l. l.reply) (cond a (Some (record { context = s; reply = r; above = None; below = t })) (cond b (with_above (Some (place_at_number p)) o) o)) ≡ cond a (Some r) (option_map {T = Link} (λ l. l.reply) o)
      go true b o = refl
      go false true None = refl
      go false true (Some l) = refl
      go false false o = refl

  pub laid-sound : ((u : ℕ) → reply_in ls u ≢ Some r) → Sound ms us
  laid-sound out = record {
    places = places;
    tops = subst AreTops (sym tops) (tops-entered s p ts sound.tops);
    linked = λ x. respell ms (top_at us x) x _ places (spelled x);
    once = λ u w q h k. once u w q (nat_eq p u) (nat_eq p w) refl refl (sym (replies u) ∙ h) (sym (replies w) ∙ k);
  }
    where
      once : (u w : ℕ) (q : ObjId) (a b : Bool) → nat_eq p u ≡ a → nat_eq p w ≡ b → cond (nat_eq p u) (Some r) (reply_in ls u) ≡ Some q → cond (nat_eq p w) (Some r) (reply_in ls w) ≡ Some q → u ≡ w
      once u w q true true e f h k = grind (arith, common_steps)
      once u w q true false e f h k =
          let one : Some r ≡ Some q = ap (λ b. cond b (Some r) (reply_in ls u)) (sym e) ∙ h in
          let two : reply_in ls w ≡ Some q = ap (λ b. cond b (Some r) (reply_in ls w)) (sym f) ∙ k in
          absurd (out w (two ∙ sym one))
      once u w q false true e f h k =
          let one : Some r ≡ Some q = ap (λ b. cond b (Some r) (reply_in ls w)) (sym f) ∙ k in
          let two : reply_in ls u ≡ Some q = ap (λ b. cond b (Some r) (reply_in ls u)) (sym e) ∙ h in
          absurd (out u (two ∙ sym one))
      once u w q false false e f h k =
          sound.once u w q (ap (λ b. cond b (Some r) (reply_in ls u)) (sym e) ∙ h) (ap (λ b. cond b (Some r) (reply_in ls w)) (sym f) ∙ k)
