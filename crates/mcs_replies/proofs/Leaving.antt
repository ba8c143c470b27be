-- What an ending leaves of the chains.
use Rattle.std.proofs.Common.{◌≡◌, ◌≤◌, ◌<◌, ◌||◌, ℕ, Bool, true, false, cond, nat_eq, List, [], ◌∷◌, length, Option, Some, None, is_some, is_none, option_map, refl, ap, sym, ◌∙◌, subst, arith}
use Rattle.std.specs.Prelude.{IsSome}
use Rattle.std.proofs.lemmas.Grind.{common_steps}
use Rattle.std.proofs.lemmas.Bool.{false≢true}
use Rattle.mcs_types.specs.declared.id.ObjId.{ObjId}
use Rattle.mcs_types.specs.declared.record.Ending.{Ending}
use Rattle.mcs_types.specs.declared.record.Ending.TheVariants.{Deleted, Cancelled}
use Rattle.mcs_types.specs.Ids.{same, value_after}
use Rattle.mcs_types.proofs.Ids.{same-self, same-equal}
use Rattle.mcs_types.specs.Limits.{object_limit}
use Rattle.mcs_types.specs.Chains.{head_of, taken_off, ended}
use Rattle.mcs_types.specs.Chains.{above as ids_above}
use Rattle.mcs_replies.specs.declared.places.PlaceNo.{PlaceNo}
use Rattle.mcs_replies.specs.declared.links.Link.{Link}
use Rattle.mcs_replies.specs.Tops.{TopRows, top_at, AreTops, left, moved}
use Rattle.mcs_replies.specs.Places.{place_number}
use Rattle.mcs_replies.specs.Neighbours.{has, Apart, below, above, above_from, upper, lower}
use Rattle.mcs_replies.specs.Links.{link_at, is_with, is_at, below_of, above_of, reply_of, replies_of, reply_in, walk, with_above, with_below, Spells, places_of, linked_of, Sound, Ends}
use Rattle.mcs_replies.proofs.Neighbours.{has-head, some-above, lower-in, head-lower, apart-lower, below-lower, length-lower, length-apart, above-has}
use Rattle.mcs_replies.proofs.WalkLaws.{walk-spells}
use Rattle.mcs_replies.proofs.TopLaws.{top-moved, tops-moved, top-left, tops-left}
use Rattle.mcs_replies.proofs.Relinking.{with-above, with-below, spells-other, off-top, cut-below, not-with}
use Rattle.mcs_replies.proofs.Walking.{in-range, some-with, rewalk, respell, replies-same, upper-replies, ended-out}

has-neq : (p u : ℕ) → nat_eq p u ≡ true → p ≡ u
has-neq p u e = grind (arith, common_steps)

-- a list whose place p has nothing above
pub record First (p : ℕ) (ps : List ℕ) : Type 0 where
  pub rest : List ℕ
  pub is : ps ≡ p ∷ rest

pub first : (p : ℕ) (ps : List ℕ) → has p ps ≡ true → above p ps ≡ None → First p ps
first p [] h k = absurd (false≢true h)
first p (x ∷ xs) h k = go (nat_eq x p) refl
  where
    go : (b : Bool) → nat_eq x p ≡ b → First p (x ∷ xs)
    go true e = record { rest = xs; is = ap (λ z. z ∷ xs) (has-neq x p e) }
    go false e =
        let i : has p xs ≡ true = sym (ap (λ b. b || has p xs) e) ∙ h in
        let none : above_from (Some x) p xs ≡ None = sym (ap (λ b. cond b None (above_from (Some x) p xs)) e) ∙ k in
        absurd (false≢true (sym (some-above x p xs i) ∙ ap (λ (o : Option ℕ). is_none o) none))

-- a reply object that has a place has that one
reply-some : (o : Option Link) → is_some o ≡ true → option_map {T = Link} (λ l. l.reply) o ≡ Some (reply_of o)
reply-some None h = absurd (false≢true h)
reply-some (Some l) h = refl

some-reply : (o : Option Link) (r : ObjId) → option_map {T = Link} (λ l. l.reply) o ≡ Some r → reply_of o ≡ r
some-reply None r h = absurd (cc)
some-reply (Some l) r h = cc

module _ (ls ms : List (Option Link)) (ts us : TopRows) (p : ℕ) (l : Link) (sound : Sound ls ts) (at : link_at ls p ≡ Some l) where
  with-own : is_with l.context (link_at ls p) ≡ true
  with-own = ap (is_with l.context) at ∙ same-self l.context

  pub has-own : has p (places_of ls ts l.context) ≡ true
  has-own = (sound.linked l.context).stands p ∙ with-own

  pub same-place : (x : ObjId) (u : ℕ) → has u (places_of ls ts x) ≡ true → same (reply_of (link_at ls u)) l.reply ≡ nat_eq u p
  same-place x u h = go (nat_eq u p) (same (reply_of (link_at ls u)) l.reply) refl refl
    where
      there : is_some (link_at ls u) ≡ true
      there = some-with x (link_at ls u) (sym ((sound.linked x).stands u) ∙ h)

      go : (a b : Bool) → nat_eq u p ≡ a → same (reply_of (link_at ls u)) l.reply ≡ b → b ≡ a
      go true b e f =
          let i : u ≡ p = has-neq u p e in
          sym f ∙ ap (λ (o : Option Link). same (reply_of o) l.reply) (ap (link_at ls) i ∙ at) ∙ same-self l.reply
      go false true e f =
          let one : reply_in ls u ≡ Some l.reply = reply-some (link_at ls u) there ∙ ap Some (same-equal (reply_of (link_at ls u)) l.reply f) in
          let two : reply_in ls p ≡ Some l.reply = ap (λ (o : Option Link). option_map {T = Link} (λ l. l.reply) o) at in
          let i : u ≡ p = sound.once u p l.reply one two in
          let no : nat_eq u p ≡ true = grind (arith, common_steps, i) in
          absurd (false≢true (sym e ∙ no))
      go false false e f = refl

  -- what an ending has to keep
  module _ (how : Ending) (t : Option ℕ) (qs : List ℕ) (places : length ms ≡ object_limit) (kept-tops : AreTops us)
      (kept : (u : ℕ) → is_with l.context (link_at ls u) ≡ false → link_at ms u ≡ link_at ls u)
      (fresh : (x : ObjId) (u : ℕ) → is_with x (link_at ls u) ≡ false → is_with x (link_at ms u) ≡ false)
      (others : (u : ℕ) (q : ObjId) → reply_in ms u ≡ Some q → reply_in ls u ≡ Some q)
      (gone : link_at ms p ≡ None)
      (tops : (x : ObjId) → top_at us x ≡ value_after x l.context t (top_at ts x))
      (own : Spells (link_at ms) t l.context qs)
      (own-chain : ended how l.reply (linked_of ls ts l.context) ≡ replies_of (link_at ls) qs) where
    ends-spelled : (x : ObjId) (b : Bool) → same x l.context ≡ b → Spells (link_at ms) (cond b t (top_at ts x)) x (cond b qs (places_of ls ts x))
    ends-spelled x true e = subst (λ z. Spells (link_at ms) t z qs) (sym (same-equal x l.context e)) own
    ends-spelled x false e = spells-other (link_at ls) (link_at ms) (top_at ts x) x (places_of ls ts x) (sound.linked x) (λ u h. kept u (not-with x l.context (link_at ls u) e h)) (λ u h. fresh x u h)

    ends-all : (x : ObjId) → Spells (link_at ms) (top_at us x) x (cond (same x l.context) qs (places_of ls ts x))
    ends-all x = subst (λ o. Spells (link_at ms) o x (cond (same x l.context) qs (places_of ls ts x))) (sym (tops x)) (ends-spelled x (same x l.context) refl)

    reply-kept : (x : ObjId) (u : ℕ) → is_with x (link_at ms u) ≡ true → reply_of (link_at ms u) ≡ reply_of (link_at ls u)
    reply-kept x u h = sym (some-reply (link_at ls u) (reply_of (link_at ms u)) (others u (reply_of (link_at ms u)) (reply-some (link_at ms u) (some-with x (link_at ms u) h))))

    other-chain : (x : ObjId) → same x l.context ≡ false → ended how l.reply (linked_of ls ts x) ≡ linked_of ls ts x
    other-chain x e = ended-out how (link_at ls) l.reply (places_of ls ts x) (λ u h. same-place x u h ∙ go u h (nat_eq u p) refl)
      where
        go : (u : ℕ) → has u (places_of ls ts x) ≡ true → (b : Bool) → nat_eq u p ≡ b → b ≡ false
        go u h false f = refl
        go u h true f =
            let i : u ≡ p = has-neq u p f in
            let w : is_with x (link_at ls p) ≡ true = sym ((sound.linked x).stands p) ∙ ap (λ z. has z (places_of ls ts x)) (sym i) ∙ h in
            sym with-own ∙ not-with x l.context (link_at ls p) e w

    chains : (x : ObjId) (b : Bool) → same x l.context ≡ b → Spells (link_at ms) (top_at us x) x (cond b qs (places_of ls ts x)) → replies_of (link_at ms) (cond b qs (places_of ls ts x)) ≡ ended how l.reply (linked_of ls ts x)
    chains x true e sp =
        replies-same (link_at ls) (link_at ms) qs (λ u h. reply-kept x u (sym (sp.stands u) ∙ h)) ∙ sym own-chain ∙ ap (λ (z : ObjId). ended how l.reply (linked_of ls ts z)) (sym (same-equal x l.context e))
    chains x false e sp =
        replies-same (link_at ls) (link_at ms) (places_of ls ts x) (λ u h. reply-kept x u (sym (sp.stands u) ∙ h)) ∙ sym (other-chain x e)

    pub ends : Ends ls ts ms us p how l.reply
    ends = record {
      sound = record {
        places = places;
        tops = kept-tops;
        linked = λ x. respell ms (top_at us x) x _ places (ends-all x);
        once = λ u w q h k. sound.once u w q (others u q h) (others w q k);
      };
      chains = λ x. ap (λ zs. replies_of (link_at ms) zs) (rewalk ms (top_at us x) x _ places (ends-all x)) ∙ chains x (same x l.context) refl (ends-all x);
      gone = gone;
      others = others;
    }

-- what the writes of an ending do to one link
ch-with : (x : ObjId) (a b : Bool) (o : Option Link) → is_with x o ≡ false → is_with x (cond b (with_above None (cond a None o)) (cond a None o)) ≡ false
ch-with x true true o h = refl
ch-with x true false o h = refl
ch-with x false true o h = with-above x None o ∙ h
ch-with x false false o h = h

ch-reply : (a b : Bool) (o : Option Link) (q : ObjId) → option_map {T = Link} (λ l. l.reply) (cond b (with_above None (cond a None o)) (cond a None o)) ≡ Some q → option_map {T = Link} (λ l. l.reply) o ≡ Some q
ch-reply true true o q h = absurd (cc)
ch-reply true false o q h = absurd (cc)
ch-reply false true None q h = h
ch-reply false true (Some l) q h = h
ch-reply false false o q h = h

ch-gone : (b : Bool) → cond {A = Option Link} b (with_above None None) None ≡ None
ch-gone true = refl
ch-gone false = refl

dh-with : (x : ObjId) (a b : Bool) (o : Option Link) → is_with x o ≡ false → is_with x (cond b (with_below None (cond a None o)) (cond a None o)) ≡ false
dh-with x true true o h = refl
dh-with x true false o h = refl
dh-with x false true o h = with-below x None o ∙ h
dh-with x false false o h = h

dh-reply : (a b : Bool) (o : Option Link) (q : ObjId) → option_map {T = Link} (λ l. l.reply) (cond b (with_below None (cond a None o)) (cond a None o)) ≡ Some q → option_map {T = Link} (λ l. l.reply) o ≡ Some q
dh-reply true true o q h = absurd (cc)
dh-reply true false o q h = absurd (cc)
dh-reply false true None q h = h
dh-reply false true (Some l) q h = h
dh-reply false false o q h = h

dh-gone : (b : Bool) → cond {A = Option Link} b (with_below None None) None ≡ None
dh-gone true = refl
dh-gone false = refl

-- what is in no chain of s
none-true : (b : Bool) → (b ≡ true → true ≡ false) → b ≡ false
none-true false h = refl
none-true true h = h refl

-- the top is taken off
module _ (ls ms : List (Option Link)) (ts us : TopRows) (p : ℕ) (l : Link) (sound : Sound ls ts) (at : link_at ls p ≡ Some l) (top : (place_number l.above) ≡ None) (places : length ms ≡ object_limit)
    (writes : (u : ℕ) → link_at ms u ≡ cond (is_at (place_number l.below) u) (with_above None (cond (nat_eq p u) None (link_at ls u))) (cond (nat_eq p u) None (link_at ls u)))
    (tops : us ≡ moved l.context (place_number l.below) ts) where
  own-first : First p (places_of ls ts l.context)
  own-first = first p (places_of ls ts l.context) (has-own ls ms ts us p l sound at) (sym ((sound.linked l.context).aboves p (has-own ls ms ts us p l sound at)) ∙ ap above_of at ∙ top)

  under : (place_number l.below) ≡ head_of own-first.rest
  under =
      let here : below p (p ∷ own-first.rest) ≡ head_of own-first.rest = grind (arith, common_steps) in
      sym (ap below_of at) ∙ (sound.linked l.context).belows p (has-own ls ms ts us p l sound at) ∙ ap (below p) own-first.is ∙ here

  popped-own : Spells (link_at ms) (place_number l.below) l.context own-first.rest
  popped-own =
      subst (λ o. Spells (link_at ms) o l.context own-first.rest) (sym under)
      (off-top (link_at ls) (link_at ms) p l.context (top_at ts l.context) own-first.rest
      (λ u. writes u ∙ ap (λ o. cond (is_at o u) (with_above None (cond (nat_eq p u) None (link_at ls u))) (cond (nat_eq p u) None (link_at ls u))) under)
      (subst (λ zs. Spells (link_at ls) (top_at ts l.context) l.context zs) own-first.is (sound.linked l.context)))

  popped-chain : ended Deleted l.reply (linked_of ls ts l.context) ≡ replies_of (link_at ls) own-first.rest
  popped-chain =
      let is : same (reply_of (link_at ls p)) l.reply ≡ true = ap (λ (o : Option Link). same (reply_of o) l.reply) at ∙ same-self l.reply in
      ap (λ zs. taken_off l.reply (replies_of (link_at ls) zs)) own-first.is ∙ ap (λ b. cond b (replies_of (link_at ls) own-first.rest) (reply_of (link_at ls p) ∷ ids_above l.reply (replies_of (link_at ls) own-first.rest))) is

  popped-kept : (u : ℕ) → is_with l.context (link_at ls u) ≡ false → link_at ms u ≡ link_at ls u
  popped-kept u h =
      let sp = sound.linked l.context in
      let apart : nat_eq p u ≡ false = none-true (nat_eq p u) (λ e. sym (with-own ls ms ts us p l sound at) ∙ ap (λ z. is_with l.context (link_at ls z)) (has-neq p u e) ∙ h) in
      let off : is_at (place_number l.below) u ≡ false = none-true (is_at (place_number l.below) u) (λ e.
      let in_rest : has u own-first.rest ≡ true = has-head u own-first.rest (ap (λ o. is_at o u) (sym under) ∙ e) in
      let in_all : has u (p ∷ own-first.rest) ≡ true = grind (arith, common_steps, in_rest) in
      sym (sym (sp.stands u) ∙ ap (has u) own-first.is ∙ in_all) ∙ h) in
      writes u ∙ ap (λ b. cond b (with_above None (cond (nat_eq p u) None (link_at ls u))) (cond (nat_eq p u) None (link_at ls u))) off ∙ ap (λ b. cond b None (link_at ls u)) apart

  pub popped : Ends ls ts ms us p Deleted l.reply
  popped =
      let here : nat_eq p p ≡ true = grind (arith, common_steps) in
      ends ls ms ts us p l sound at Deleted (place_number l.below) own-first.rest places (subst AreTops (sym tops) (tops-moved l.context (place_number l.below) ts sound.tops))
      popped-kept
      (λ x u h. ap (is_with x) (writes u) ∙ ch-with x (nat_eq p u) (is_at (place_number l.below) u) (link_at ls u) h)
      (λ u q h. ch-reply (nat_eq p u) (is_at (place_number l.below) u) (link_at ls u) q (sym (ap (λ (o : Option Link). option_map {T = Link} (λ l. l.reply) o) (writes u)) ∙ h))
      (writes p ∙ ap (λ b. cond (is_at (place_number l.below) p) (with_above None (cond b None (link_at ls p))) (cond b None (link_at ls p))) here ∙ ch-gone (is_at (place_number l.below) p))
      (λ x. ap (λ zs. top_at zs x) tops ∙ top-moved l.context (place_number l.below) ts sound.tops x)
      popped-own
      popped-chain

-- not the first
taken-upper : (f : ℕ → Option Link) (r : ObjId) (p : ℕ) (ps : List ℕ) → is_none (above p ps) ≡ false → ((u : ℕ) → has u ps ≡ true → same (reply_of (f u)) r ≡ nat_eq u p) → taken_off r (replies_of f ps) ≡ replies_of f (upper p ps)
taken-upper f r p [] left h = refl
taken-upper f r p (x ∷ xs) left h =
    let here : has x (x ∷ xs) ≡ true = grind (arith, common_steps) in
    let ne : nat_eq x p ≡ false = none-true (nat_eq x p) (λ e. sym (ap (λ b. is_none (cond b None (above_from (Some x) p xs))) e) ∙ left) in
    let out : same (reply_of (f x)) r ≡ false = h x here ∙ ne in
    let all = upper-replies f r p (x ∷ xs) h in
    ap (λ b. cond b (replies_of f xs) (reply_of (f x) ∷ ids_above r (replies_of f xs))) out
    ∙ sym (ap (λ b. cond b [] (reply_of (f x) ∷ ids_above r (replies_of f xs))) out) ∙ all

-- the walk from a place in a chain
module _ (ls ms : List (Option Link)) (ts us : TopRows) (p : ℕ) (l : Link) (sound : Sound ls ts) (at : link_at ls p ≡ Some l) where
  lower-walk : walk (link_at ls) object_limit (Some p) ≡ lower p (places_of ls ts l.context)
  lower-walk =
      let ps = places_of ls ts l.context in
      let sp = sound.linked l.context in
      let in_p = has-own ls ms ts us p l sound at in
      let there : (u : ℕ) → has u ps ≡ true → is_some (link_at ls u) ≡ true = λ u h. some-with l.context (link_at ls u) (sym (sp.stands u) ∙ h) in
      let short : length ps ≤ object_limit = length-apart object_limit ps sp.apart (λ u h. subst (λ n. u < n) sound.places (in-range ls u (there u h))) in
      let less = length-lower p ps in
      ap (λ o. walk (link_at ls) object_limit o) (sym (head-lower p ps in_p))
      ∙ walk-spells (link_at ls) l.context (lower p ps) (apart-lower p ps sp.apart) (λ u h. there u (lower-in p u ps h)) (λ u h. sp.belows u (lower-in p u ps h) ∙ below-lower p u ps sp.apart h) object_limit (omega (arith, short, less))

  pub lower-apart : Apart (walk (link_at ls) object_limit (Some p))
  lower-apart = subst Apart (sym lower-walk) (apart-lower p (places_of ls ts l.context) (sound.linked l.context).apart)

  module _ (places : length ms ≡ object_limit)
      (writes : (u : ℕ) → link_at ms u ≡ cond (is_at (place_number l.above) u) (with_below None (cond (has u (walk (link_at ls) object_limit (Some p))) None (link_at ls u))) (cond (has u (walk (link_at ls) object_limit (Some p))) None (link_at ls u)))
      (tops : us ≡ cond (is_none (place_number l.above)) (left l.context ts) ts) where
    above-is : (place_number l.above) ≡ above p (places_of ls ts l.context)
    above-is = sym (ap above_of at) ∙ (sound.linked l.context).aboves p (has-own ls ms ts us p l sound at)

    writes-lower : (u : ℕ) → link_at ms u ≡ cond (is_at (place_number l.above) u) (with_below None (cond (has u (lower p (places_of ls ts l.context))) None (link_at ls u))) (cond (has u (lower p (places_of ls ts l.context))) None (link_at ls u))
    writes-lower u = writes u ∙ ap (λ zs. cond (is_at (place_number l.above) u) (with_below None (cond (has u zs) None (link_at ls u))) (cond (has u zs) None (link_at ls u))) lower-walk

    cut-own : Spells (link_at ms) (cond (is_none (place_number l.above)) None (top_at ts l.context)) l.context (upper p (places_of ls ts l.context))
    cut-own =
        subst (λ o. Spells (link_at ms) (cond (is_none o) None (top_at ts l.context)) l.context (upper p (places_of ls ts l.context))) (sym above-is)
        (cut-below (link_at ls) (link_at ms) p l.context (top_at ts l.context) (places_of ls ts l.context) (has-own ls ms ts us p l sound at)
        (λ u. writes-lower u ∙ ap (λ o. cond (is_at o u) (with_below None (cond (has u (lower p (places_of ls ts l.context))) None (link_at ls u))) (cond (has u (lower p (places_of ls ts l.context))) None (link_at ls u))) above-is)
        (sound.linked l.context))

    cut-tops : (x : ObjId) → top_at us x ≡ value_after x l.context (cond (is_none (place_number l.above)) None (top_at ts l.context)) (top_at ts x)
    cut-tops x = ap (λ zs. top_at zs x) tops ∙ go (is_none (place_number l.above))
      where
        stay : (b : Bool) → same x l.context ≡ b → top_at ts x ≡ cond b (top_at ts l.context) (top_at ts x)
        stay true e = ap (top_at ts) (same-equal x l.context e)
        stay false e = refl

        go : (b : Bool) → top_at (cond b (left l.context ts) ts) x ≡ cond (same x l.context) (cond b None (top_at ts l.context)) (top_at ts x)
        go true = top-left l.context ts sound.tops x
        go false = stay (same x l.context) refl

    cut-kept-tops : AreTops us
    cut-kept-tops = subst AreTops (sym tops) (go (is_none (place_number l.above)))
      where
        go : (b : Bool) → AreTops (cond b (left l.context ts) ts)
        go true = tops-left l.context ts sound.tops
        go false = sound.tops

    cut-kept : (u : ℕ) → is_with l.context (link_at ls u) ≡ false → link_at ms u ≡ link_at ls u
    cut-kept u h =
        let ps = places_of ls ts l.context in
        let sp = sound.linked l.context in
        let off : has u (lower p ps) ≡ false = none-true (has u (lower p ps)) (λ e. sym (sym (sp.stands u) ∙ lower-in p u ps e) ∙ h) in
        let not_above : is_at (place_number l.above) u ≡ false = none-true (is_at (place_number l.above) u) (λ e. sym (sym (sp.stands u) ∙ above-has p u ps (ap (λ o. is_at o u) (sym above-is) ∙ e)) ∙ h) in
        writes-lower u ∙ ap (λ b. cond b (with_below None (cond (has u (lower p ps)) None (link_at ls u))) (cond (has u (lower p ps)) None (link_at ls u))) not_above ∙ ap (λ b. cond b None (link_at ls u)) off

    own-lower : has p (lower p (places_of ls ts l.context)) ≡ true
    own-lower = has-head p (lower p (places_of ls ts l.context)) (ap (λ o. is_at o p) (head-lower p (places_of ls ts l.context) (has-own ls ms ts us p l sound at)) ∙ grind (arith, common_steps))

    cut-ends : (how : Ending) → ended how l.reply (linked_of ls ts l.context) ≡ replies_of (link_at ls) (upper p (places_of ls ts l.context)) → Ends ls ts ms us p how l.reply
    cut-ends how chain =
        let ps = places_of ls ts l.context in
        ends ls ms ts us p l sound at how (cond (is_none (place_number l.above)) None (top_at ts l.context)) (upper p ps) places cut-kept-tops
        cut-kept
        (λ x u h. ap (is_with x) (writes-lower u) ∙ dh-with x (has u (lower p ps)) (is_at (place_number l.above) u) (link_at ls u) h)
        (λ u q h. dh-reply (has u (lower p ps)) (is_at (place_number l.above) u) (link_at ls u) q (sym (ap (λ (o : Option Link). option_map {T = Link} (λ l. l.reply) o) (writes-lower u)) ∙ h))
        (writes-lower p ∙ ap (λ b. cond (is_at (place_number l.above) p) (with_below None (cond b None (link_at ls p))) (cond b None (link_at ls p))) own-lower ∙ dh-gone (is_at (place_number l.above) p))
        cut-tops
        cut-own
        chain

    pub cut-cancelled : Ends ls ts ms us p Cancelled l.reply
    cut-cancelled = cut-ends Cancelled (upper-replies (link_at ls) l.reply p (places_of ls ts l.context) (λ u h. same-place ls ms ts us p l sound at l.context u h))

    pub cut-deleted : IsSome l.above → Ends ls ts ms us p Deleted l.reply
    cut-deleted some = cut-ends Deleted (taken-upper (link_at ls) l.reply p (places_of ls ts l.context) (ap (λ o. is_none o) (sym above-is) ∙ not-none l.above some) (λ u h. same-place ls ms ts us p l sound at l.context u h))
      where
        not-none : (o : Option PlaceNo) → IsSome o → is_none (place_number o) ≡ false
        not-none None h = absurd (false≢true h)
        not-none (Some q) h = refl
