-- What reply objects that are linked owe, and how the chains change with what they owe.
use Rattle.std.proofs.Common.{◌≡◌, ◌≢◌, ◌<◌, ◌||◌, ℕ, suc, Bool, true, false, cond, nat_eq, List, [], ◌∷◌, length, replicate, get_or, Option, Some, None, is_some, is_none, option_map, refl, ap, sym, ◌∙◌, subst, arith}
use Rattle.std.specs.Prelude.{IsSome, OnSome, option_and_then}
use Rattle.std.specs.List.{list_any}
use Rattle.std.proofs.lemmas.Grind.{common_steps}
use Rattle.std.proofs.lemmas.Bool.{false≢true}
use Rattle.std.proofs.lemmas.List.{length-replicate}
use Rattle.mcs_types.specs.declared.id.ObjId.{ObjId}
use Rattle.mcs_types.specs.declared.record.Ending.{Ending}
use Rattle.mcs_types.specs.declared.record.Ending.TheVariants.{Cancelled}
use Rattle.mcs_types.specs.Ids.{same, value_after, is_just, ChangesAt}
use Rattle.mcs_types.proofs.Ids.{same-self, same-equal}
use Rattle.mcs_types.specs.Limits.{object_limit}
use Rattle.mcs_types.specs.Chains.{head_of, is_in, ended}
use Rattle.mcs_objects.specs.Store.{Objects, HasPlaces, value_at, place_at, shape, IsOneFewer}
use Rattle.mcs_replies.specs.declared.links.Link.{Link}
use Rattle.mcs_replies.specs.declared.tops.Top.{Top}
use Rattle.mcs_replies.specs.declared.replies.ReplyRow.{ReplyRow}
use Rattle.mcs_replies.specs.Tops.{TopRows, top_at, top_among, AreSingle, is_for}
use Rattle.mcs_replies.specs.Places.{place_number}
use Rattle.mcs_replies.specs.Neighbours.{has, Apart, above, above_from, upper}
use Rattle.mcs_replies.specs.Links.{link_at, is_with, is_at, above_of, reply_of, replies_of, reply_in, walk, places_of, linked_of, Sound, Ends, Spells, topped_by}
use Rattle.mcs_replies.specs.Owing.{Owing, owed_at, owed_in, AreOnce, EndsDebt, IsChained, IsOwing}
use Rattle.mcs_replies.proofs.Neighbours.{has-head, some-above, length-apart}
use Rattle.mcs_replies.proofs.Relinking.{one-with, not-with}
use Rattle.mcs_replies.proofs.Walking.{in-range, some-with, upper-replies, ended-out}
use Rattle.mcs_replies.proofs.AmongLaws.{top-out}
use Rattle.mcs_replies.proofs.TopLaws.{top-others, get-same, no-top, no-tops}
use Rattle.mcs_replies.proofs.Leaving.{same-place, has-own}

pub none-true : (b : Bool) → (b ≡ true → true ≡ false) → b ≡ false
none-true false h = refl
none-true true h = h refl

some-reply : (o : Option Link) → is_some o ≡ true → option_map {T = Link} (λ l. l.reply) o ≡ Some (reply_of o)
some-reply None h = absurd (false≢true h)
some-reply (Some l) h = refl

pub same-sym : (a b : ObjId) → same a b ≡ same b a
same-sym a b = go (same a b) (same b a) refl refl
  where
    go : (v w : Bool) → same a b ≡ v → same b a ≡ w → v ≡ w
    go true true e f = refl
    go false false e f = refl
    go true false e f = sym (same-self a) ∙ ap (λ (z : ObjId). same z a) (same-equal a b e) ∙ f
    go false true e f = sym e ∙ ap (λ (z : ObjId). same z b) (sym (same-equal b a f)) ∙ same-self b

-- who owes is another than who owes no thread
pub owes-other : (rows : Objects ReplyRow) (q r : ObjId) → IsSome (owed_at rows q) → owed_at rows r ≡ None → same q r ≡ false
owes-other rows q r some none = none-true (same q r) (λ e. sym some ∙ ap (λ (z : ObjId). is_some (owed_at rows z)) (same-equal q r e) ∙ ap (λ (o : Option ObjId). is_some o) none)

abbrev Owners : Objects ReplyRow → List (Option Link) → Type 0
Owners rows ls = (u : ℕ) (r : ObjId) → reply_in ls u ≡ Some r → place_at rows r ≡ Some u

abbrev Owes : Objects ReplyRow → List (Option Link) → Type 0
Owes rows ls = (u : ℕ) (r : ObjId) → reply_in ls u ≡ Some r → IsSome (owed_at rows r)

-- a reply object that owes no thread is linked nowhere
pub free-out : (rows : Objects ReplyRow) (ls : List (Option Link)) (r : ObjId) → Owes rows ls → owed_at rows r ≡ None → (u : ℕ) → reply_in ls u ≢ Some r
free-out rows ls r owes none u h = false≢true (sym (ap (λ (o : Option ObjId). is_some o) none) ∙ owes u r h)

pub free-link : (rows : Objects ReplyRow) (ls : List (Option Link)) (r : ObjId) (p : ℕ) → HasPlaces rows → Owners rows ls → Owes rows ls → owed_at rows r ≡ None → place_at rows r ≡ Some p → link_at ls p ≡ None
free-link rows ls r p places owners owes none at = go (link_at ls p) refl
  where
    go : (o : Option Link) → link_at ls p ≡ o → o ≡ None
    go None e = refl
    go (Some l) e =
        let is : reply_in ls p ≡ Some l.reply = ap (λ (o : Option Link). option_map {T = Link} (λ l. l.reply) o) e in
        let one : l.reply ≡ r = places.apart l.reply r p (owners p l.reply is) at in
        absurd (free-out rows ls r owes none p (is ∙ ap Some one))

-- no chain has a reply object that is not linked
pub ended-absent : (how : Ending) (r : ObjId) (ls : List (Option Link)) (ts : TopRows) → Sound ls ts → ((u : ℕ) → reply_in ls u ≢ Some r) → (s : ObjId) → ended how r (linked_of ls ts s) ≡ linked_of ls ts s
ended-absent how r ls ts sound out s =
    ended-out how (link_at ls) r (places_of ls ts s) (λ u h. none-true (same (reply_of (link_at ls u)) r) (λ e.
    let there = some-with s (link_at ls u) (sym ((sound.linked s).stands u) ∙ h) in
    absurd (out u (some-reply (link_at ls u) there ∙ ap Some (same-equal (reply_of (link_at ls u)) r e)))))

-- where a reply object owes no thread, the end of its debt changes no chain
pub unowed-ends : (v : Owing) (how : Ending) (r : ObjId) → IsOwing v → owed_in v r ≡ None → EndsDebt v v how r
unowed-ends v how r all free s = sym (ended-absent how r v.links v.tops all.sound (free-out v.rows v.links r all.owing free) s)

-- links and tops before any debt
no-link : (ls : List (Option Link)) → ls ≡ replicate object_limit None → (u : ℕ) → link_at ls u ≡ None
no-link ls is u = ap (λ (zs : List (Option Link)). get_or zs u None) is ∙ get-same None object_limit u

pub no-reply : (ls : List (Option Link)) → ls ≡ replicate object_limit None → (u : ℕ) (r : ObjId) → reply_in ls u ≢ Some r
no-reply ls is u r h =
    let none : Some r ≡ None = sym h ∙ ap (λ (o : Option Link). option_map {T = Link} (λ l. l.reply) o) (no-link ls is u) in
    absurd (cc)

pub no-chain : (ls : List (Option Link)) (ts : TopRows) → ts.homes ≡ replicate object_limit None → ts.others ≡ [] → (s : ObjId) → linked_of ls ts s ≡ []
no-chain ls ts homes others s = ap (λ o. replies_of (link_at ls) (walk (link_at ls) object_limit o)) (no-top ts homes others s)

pub sound-none : (ls : List (Option Link)) (ts : TopRows) → ls ≡ replicate object_limit None → ts.homes ≡ replicate object_limit None → ts.others ≡ [] → Sound ls ts
sound-none ls ts is homes others =
    let link : Option Link = None in
    record {
      places = ap length is ∙ length-replicate object_limit link;
      tops = no-tops ts homes others;
      linked = λ s. subst (λ o. Spells (link_at ls) o s (walk (link_at ls) object_limit o)) (sym (no-top ts homes others s)) (none s);
      once = λ u w r h k. absurd (no-reply ls is u r h);
    }
  where
    none : (s : ObjId) → Spells (link_at ls) None s []
    none s = record {
      tops = refl;
      apart = tt;
      stands = λ u. sym (ap (is_with s) (no-link ls is u));
      aboves = λ u h. absurd (false≢true h);
      belows = λ u h. absurd (false≢true h);
    }

-- the link of a place is that of its reply object
pub own-link : (rows : Objects ReplyRow) (ls : List (Option Link)) (r : ObjId) (p : ℕ) (l : Link) → HasPlaces rows → Owners rows ls → place_at rows r ≡ Some p → link_at ls p ≡ Some l → l.reply ≡ r
own-link rows ls r p l places owners at e = places.apart l.reply r p (owners p l.reply (ap (λ (o : Option Link). option_map {T = Link} (λ l. l.reply) o) e)) at

pub bare-out : (rows : Objects ReplyRow) (ls : List (Option Link)) (r : ObjId) (p : ℕ) → Owners rows ls → place_at rows r ≡ Some p → link_at ls p ≡ None → (u : ℕ) → reply_in ls u ≢ Some r
bare-out rows ls r p owners at e u h =
    let i : Some u ≡ Some p = sym (owners u r h) ∙ at in
    let j : u ≡ p = cc in
    let no : Some r ≡ None = sym h ∙ ap (reply_in ls) j ∙ ap (λ (o : Option Link). option_map {T = Link} (λ l. l.reply) o) e in
    absurd (cc)

-- the context whose chain it tops
head-above : (p : ℕ) (ps : List ℕ) → has p ps ≡ true → is_at (head_of ps) p ≡ is_none (above p ps)
head-above p [] h = absurd (false≢true h)
head-above p (x ∷ xs) h = go (nat_eq x p) refl
  where
    go : (b : Bool) → nat_eq x p ≡ b → nat_eq x p ≡ is_none (above p (x ∷ xs))
    go true e = e ∙ sym (ap (λ b. is_none (cond b None (above_from (Some x) p xs))) e)
    go false e =
        let i : has p xs ≡ true = sym (ap (λ b. b || has p xs) e) ∙ h in
        e ∙ sym (ap (λ b. is_none (cond b None (above_from (Some x) p xs))) e ∙ some-above x p xs i)

head-reply : (f : ℕ → Option Link) (r : ObjId) (p : ℕ) (ps : List ℕ) → ((u : ℕ) → has u ps ≡ true → same (reply_of (f u)) r ≡ nat_eq u p) → is_just (head_of (replies_of f ps)) r ≡ is_at (head_of ps) p
head-reply f r p [] h = refl
head-reply f r p (x ∷ xs) h = let here : has x (x ∷ xs) ≡ true = grind (arith, common_steps) in h x here

pub topped-link : (ls : List (Option Link)) (ts : TopRows) (p : ℕ) (l : Link) → Sound ls ts → link_at ls p ≡ Some l → (s : ObjId) → is_just (cond (is_none (place_number l.above)) (Some l.context) None) s ≡ is_just (head_of (linked_of ls ts s)) l.reply
topped-link ls ts p l sound at s =
    go (same l.context s) refl ∙ sym (head-reply (link_at ls) l.reply p (places_of ls ts s) (λ u h. same-place ls ls ts ts p l sound at s u h))
  where
    read : (b : Bool) → is_just (cond b (Some l.context) None) s ≡ cond b (same l.context s) false
    read true = refl
    read false = refl

    both : (b : Bool) → cond b false false ≡ false
    both true = refl
    both false = refl

    plain : (b : Bool) → cond b true false ≡ b
    plain true = refl
    plain false = refl

    go : (b : Bool) → same l.context s ≡ b → is_just (cond (is_none (place_number l.above)) (Some l.context) None) s ≡ is_at (head_of (places_of ls ts s)) p
    go true e =
        let i = same-equal l.context s e in
        let above_is : (place_number l.above) ≡ above p (places_of ls ts l.context) = sym (ap above_of at) ∙ (sound.linked l.context).aboves p (has-own ls ls ts ts p l sound at) in
        read (is_none (place_number l.above)) ∙ ap (λ b. cond (is_none (place_number l.above)) b false) e ∙ plain (is_none (place_number l.above)) ∙ ap (λ (o : Option ℕ). is_none o) above_is
        ∙ sym (head-above p (places_of ls ts l.context) (has-own ls ls ts ts p l sound at)) ∙ ap (λ (z : ObjId). is_at (head_of (places_of ls ts z)) p) i
    go false e =
        let off : is_at (head_of (places_of ls ts s)) p ≡ false = none-true (is_at (head_of (places_of ls ts s)) p) (λ h.
        let st : has p (places_of ls ts s) ≡ true = has-head p (places_of ls ts s) h in
        let w : is_with s (link_at ls p) ≡ true = sym ((sound.linked s).stands p) ∙ st in
        sym w ∙ ap (is_with s) at ∙ e) in
        read (is_none (place_number l.above)) ∙ ap (λ b. cond (is_none (place_number l.above)) b false) e ∙ both (is_none (place_number l.above)) ∙ sym off

pub topped-none : (ls : List (Option Link)) (ts : TopRows) (r : ObjId) → Sound ls ts → ((u : ℕ) → reply_in ls u ≢ Some r) → (s : ObjId) → false ≡ is_just (head_of (linked_of ls ts s)) r
topped-none ls ts r sound out s = go (places_of ls ts s) refl
  where
    go : (ps : List ℕ) → places_of ls ts s ≡ ps → false ≡ is_just (head_of (replies_of (link_at ls) ps)) r
    go [] e = refl
    go (x ∷ xs) e = sym (none-true (same (reply_of (link_at ls x)) r) (λ k.
        let h : has x (places_of ls ts s) ≡ true = ap (has x) e ∙ grind (arith, common_steps) in
        let there = some-with s (link_at ls x) (sym ((sound.linked s).stands x) ∙ h) in
        absurd (out x (some-reply (link_at ls x) there ∙ ap Some (same-equal (reply_of (link_at ls x)) r k)))))

-- a chain that is dropped
pub dropped : (ls : List (Option Link)) (ts : TopRows) (p : ℕ) (l : Link) (c : ObjId) → Sound ls ts → link_at ls p ≡ Some l → top_at ts c ≡ Some p → (s : ObjId) → ended Cancelled l.reply (linked_of ls ts s) ≡ value_after s c [] (linked_of ls ts s)
dropped ls ts p l c sound at top s = upper-replies (link_at ls) l.reply p (places_of ls ts s) (λ u h. same-place ls ls ts ts p l sound at s u h) ∙ go (same s c) refl
  where
    head : head_of (places_of ls ts c) ≡ Some p
    head = sym (sound.linked c).tops ∙ top

    none : (ps : List ℕ) → head_of ps ≡ Some p → upper p ps ≡ []
    none [] e = absurd (cc)
    none (x ∷ xs) e =
        let i : x ≡ p = cc in
        let b : nat_eq x p ≡ true = grind (arith, common_steps, i) in
        ap (λ v. cond v [] (x ∷ upper p xs)) b

    own : is_with c (link_at ls p) ≡ true
    own = sym ((sound.linked c).stands p) ∙ has-head p (places_of ls ts c) (ap (λ o. is_at o p) head ∙ grind (arith, common_steps))

    whole : (ps : List ℕ) → has p ps ≡ false → upper p ps ≡ ps
    whole [] h = refl
    whole (x ∷ xs) h =
        let one : nat_eq x p ≡ false = grind (arith, common_steps, h) in
        let two : has p xs ≡ false = grind (arith, common_steps, h) in
        ap (λ v. cond v [] (x ∷ upper p xs)) one ∙ ap (λ zs. x ∷ zs) (whole xs two)

    go : (b : Bool) → same s c ≡ b → replies_of (link_at ls) (upper p (places_of ls ts s)) ≡ cond b [] (linked_of ls ts s)
    go true e = ap (λ (z : ObjId). replies_of (link_at ls) (upper p (places_of ls ts z))) (same-equal s c e) ∙ ap (replies_of (link_at ls)) (none (places_of ls ts c) head)
    go false e =
        let out : has p (places_of ls ts s) ≡ false = none-true (has p (places_of ls ts s)) (λ h. sym own ∙ not-with s c (link_at ls p) e (sym ((sound.linked s).stands p) ∙ h)) in
        ap (replies_of (link_at ls)) (whole (places_of ls ts s) out)

pub dropped-none : (ls : List (Option Link)) (ts : TopRows) (c : ObjId) → top_at ts c ≡ None → (s : ObjId) → linked_of ls ts s ≡ value_after s c [] (linked_of ls ts s)
dropped-none ls ts c top s = go (same s c) refl
  where
    go : (b : Bool) → same s c ≡ b → linked_of ls ts s ≡ cond b [] (linked_of ls ts s)
    go false e = refl
    go true e = ap (λ (z : ObjId). linked_of ls ts z) (same-equal s c e) ∙ ap (λ o. replies_of (link_at ls) (walk (link_at ls) object_limit o)) top

-- fewer tops than places, where a place is free
tops-of : List Top → List ℕ
tops-of [] = []
tops-of (x ∷ xs) = x.top.0 ∷ tops-of xs

module _ (f : ℕ → Option Link) where
  abbrev AreAtTops : List Top → Type 0
  AreAtTops [] = Unit {0}
  AreAtTops (x ∷ xs) = (is_with x.context (f x.top.0) ≡ true) × AreAtTops xs

  apart-tops : (c : ObjId) (u : ℕ) (ts : List Top) → is_with c (f u) ≡ true → list_any (is_for c) ts ≡ false → AreAtTops ts → has u (tops-of ts) ≡ false
  unfolding tops-of
  apart-tops c u [] w out all = refl
  apart-tops c u (x ∷ xs) w out all =
      let first : same x.context c ≡ false = none-true (same x.context c) (λ e. sym (ap (λ b. b || list_any (is_for c) xs) e) ∙ out) in
      let rest : list_any (is_for c) xs ≡ false = sym (ap (λ b. b || list_any (is_for c) xs) first) ∙ out in
      let ne : nat_eq x.top.0 u ≡ false = none-true (nat_eq x.top.0 u) (λ e.
      let i : x.top.0 ≡ u = grind (arith, common_steps, e) in
      let same_one : x.context ≡ c = one-with x.context c (f u) (ap (λ z. is_with x.context (f z)) (sym i) ∙ all.0) w in
      sym (same-self c) ∙ ap (λ (z : ObjId). same z c) (sym same_one) ∙ first) in
      ap (λ b. b || has u (tops-of xs)) ne ∙ apart-tops c u xs w rest all.1

  tops-apart : (ts : List Top) → AreSingle ts → AreAtTops ts → Apart (tops-of ts)
  unfolding tops-of
  tops-apart [] single all = tt
  tops-apart (x ∷ xs) single all = (apart-tops x.context x.top.0 xs all.0 single.0 all.1, tops-apart xs single.1 all.1)

  tops-some : (ts : List Top) → AreAtTops ts → (u : ℕ) → has u (tops-of ts) ≡ true → is_some (f u) ≡ true
  unfolding tops-of
  tops-some [] all u h = absurd (false≢true h)
  tops-some (x ∷ xs) all u h = go (nat_eq x.top.0 u) refl (tops-some xs all.1 u)
    where
      go : (b : Bool) → nat_eq x.top.0 u ≡ b → (has u (tops-of xs) ≡ true → is_some (f u) ≡ true) → is_some (f u) ≡ true
      go true e r = let i : x.top.0 ≡ u = grind (arith, common_steps, e) in ap (λ z. is_some (f z)) (sym i) ∙ some-with x.context (f x.top.0) all.0
      go false e r = r (sym (ap (λ b. b || has u (tops-of xs)) e) ∙ h)

length-tops : (ts : List Top) → length (tops-of ts) ≡ length ts
unfolding tops-of
length-tops [] = refl
length-tops (x ∷ xs) = ap suc (length-tops xs)

all-tops : (ls : List (Option Link)) (ts : TopRows) (rest : List Top) → Sound ls ts → ((x : ObjId) (u : ℕ) → top_among rest x ≡ Some u → top_at ts x ≡ Some u) → AreSingle rest → AreAtTops (link_at ls) rest
all-tops ls ts [] sound sub single = tt
all-tops ls ts (x ∷ xs) sound sub single =
    let here : top_among (x ∷ xs) x.context ≡ Some x.top.0 = ap (λ b. cond b (Some x.top.0) (top_among xs x.context)) (same-self x.context) in
    let st : is_with x.context (link_at ls x.top.0) ≡ true =
    sym ((sound.linked x.context).stands x.top.0)
    ∙ has-head x.top.0 (places_of ls ts x.context) (ap (λ o. is_at o x.top.0) (sym (sound.linked x.context).tops ∙ sub x.context x.top.0 here) ∙ grind (arith, common_steps)) in
    (st, all-tops ls ts xs sound (λ y u h. sub y u (later y u h)) single.1)
  where
    gone : (zs : List Top) (y : ObjId) (u : ℕ) → list_any (is_for y) zs ≡ false → top_among zs y ≡ Some u → true ≡ false
    gone zs y u o h = let none : Some u ≡ None = sym h ∙ top-out y zs o in absurd (cc)

    later : (y : ObjId) (u : ℕ) → top_among xs y ≡ Some u → top_among (x ∷ xs) y ≡ Some u
    later y u h = go (same x.context y) refl
      where
        go : (b : Bool) → same x.context y ≡ b → cond (same x.context y) (Some x.top.0) (top_among xs y) ≡ Some u
        go false e = ap (λ b. cond b (Some x.top.0) (top_among xs y)) e ∙ h
        go true e = absurd (false≢true (sym (gone xs x.context u single.0 (ap (top_among xs) (same-equal x.context y e) ∙ h))))

pub few-tops : (ls : List (Option Link)) (ts : TopRows) (p : ℕ) → Sound ls ts → p < object_limit → link_at ls p ≡ None → length ts.others < object_limit
unfolding tops-of
few-tops ls ts p sound lt free =
    let all = all-tops ls ts ts.others sound (λ x u h. top-others ts sound.tops x u h) sound.tops.single in
    let out : has p (tops-of ts.others) ≡ false = none-true (has p (tops-of ts.others)) (λ h. sym (tops-some (link_at ls) ts.others all p h) ∙ ap (λ (o : Option Link). is_some o) free) in
    let le = length-apart object_limit (p ∷ tops-of ts.others) (out, tops-apart (link_at ls) ts.others sound.tops.single all) (λ u h. go u h (nat_eq p u) refl all) in
    omega (arith, le, length-tops ts.others)
  where
    go : (u : ℕ) → has u (p ∷ tops-of ts.others) ≡ true → (b : Bool) → nat_eq p u ≡ b → AreAtTops (link_at ls) ts.others → u < object_limit
    go u h true e all = let i : p ≡ u = grind (arith, common_steps, e) in subst (λ z. z < object_limit) i lt
    go u h false e all = subst (λ n. u < n) sound.places (in-range ls u (tops-some (link_at ls) ts.others all u (sym (ap (λ b. b || has u (tops-of ts.others)) e) ∙ h)))

-- what still owes after a row changed or went
pub owes-still : (rows new : Objects ReplyRow) (q r : ObjId) → ChangesAt (owed_at rows) (owed_at new) r None → same q r ≡ false → IsSome (owed_at rows q) → IsSome (owed_at new q)
owes-still rows new q r changes ne some = ap (λ (o : Option ObjId). is_some o) (changes q ∙ ap (λ b. cond b None (owed_at rows q)) ne) ∙ some

pub owed-removed : (rows new : Objects ReplyRow) (r : ObjId) → ChangesAt (value_at rows) (value_at new) r None → ChangesAt (owed_at rows) (owed_at new) r None
owed-removed rows new r changes q = ap (λ (o : Option ReplyRow). option_and_then (λ x. x.caller) o) (changes q) ∙ go (same q r)
  where
    go : (b : Bool) → option_and_then (λ (x : ReplyRow). x.caller) (cond b None (value_at rows q)) ≡ cond b None (owed_at rows q)
    go true = refl
    go false = refl

pub place-still : (rows new : Objects ReplyRow) (q r : ObjId) (u : ℕ) → ChangesAt (place_at rows) (place_at new) r None → same q r ≡ false → place_at rows q ≡ Some u → place_at new q ≡ Some u
place-still rows new q r u changes ne at = changes q ∙ ap (λ b. cond b None (place_at rows q)) ne ∙ at

-- a debt that ends, whether its reply object is linked or not
module _ (rows : Objects ReplyRow) (ls ms : List (Option Link)) (ts us : TopRows) (how : Ending) (r : ObjId) (p : ℕ) (sound : Sound ls ts) (apart : HasPlaces rows) (owners : Owners rows ls) (at : place_at rows r ≡ Some p)
    (ends : (l : Link) → link_at ls p ≡ Some l → Ends ls ts ms us p how l.reply) (links : link_at ls p ≡ None → ms ≡ ls) (tops : link_at ls p ≡ None → us ≡ ts) where
  pub void-chains : (s : ObjId) → linked_of ms us s ≡ ended how r (linked_of ls ts s)
  void-chains s = go (link_at ls p) refl
    where
      go : (o : Option Link) → link_at ls p ≡ o → linked_of ms us s ≡ ended how r (linked_of ls ts s)
      go (Some l) e = (ends l e).chains s ∙ ap (λ (z : ObjId). ended how z (linked_of ls ts s)) (own-link rows ls r p l apart owners at e)
      go None e = ap (λ zs. linked_of zs us s) (links e) ∙ ap (λ zs. linked_of ls zs s) (tops e) ∙ sym (ended-absent how r ls ts sound (bare-out rows ls r p owners at e) s)

  pub void-sound : Sound ms us
  void-sound = go (link_at ls p) refl
    where
      go : (o : Option Link) → link_at ls p ≡ o → Sound ms us
      go (Some l) e = (ends l e).sound
      go None e = subst (λ zs. Sound zs us) (sym (links e)) (subst (λ zs. Sound ls zs) (sym (tops e)) sound)

  pub void-others : (u : ℕ) (q : ObjId) → reply_in ms u ≡ Some q → reply_in ls u ≡ Some q
  void-others u q h = go (link_at ls p) refl
    where
      go : (o : Option Link) → link_at ls p ≡ o → reply_in ls u ≡ Some q
      go (Some l) e = (ends l e).others u q h
      go None e = ap (λ zs. reply_in zs u) (sym (links e)) ∙ h

  pub void-out : (u : ℕ) → reply_in ms u ≢ Some r
  void-out u h = go (link_at ls p) refl
    where
      here : u ≡ p
      here = let i : Some u ≡ Some p = sym (owners u r (void-others u r h)) ∙ at in cc

      go : (o : Option Link) → link_at ls p ≡ o → ⊥
      go (Some l) e =
          let none : Some r ≡ None = sym h ∙ ap (reply_in ms) here ∙ ap (λ (o : Option Link). option_map {T = Link} (λ l. l.reply) o) (ends l e).gone in
          absurd (cc)
      go None e = bare-out rows ls r p owners at e u (void-others u r h)

  pub void-topped : (result : Option ObjId) → result ≡ topped_by (link_at ls p) → (s : ObjId) → is_just result s ≡ is_just (head_of (linked_of ls ts s)) r
  void-topped result topped s = go (link_at ls p) refl
    where
      go : (o : Option Link) → link_at ls p ≡ o → is_just result s ≡ is_just (head_of (linked_of ls ts s)) r
      go (Some l) e = ap (λ o. is_just o s) (topped ∙ ap topped_by e) ∙ topped-link ls ts p l sound e s ∙ ap (λ (z : ObjId). is_just (head_of (linked_of ls ts s)) z) (own-link rows ls r p l apart owners at e)
      go None e = ap (λ o. is_just o s) (topped ∙ ap topped_by e) ∙ topped-none ls ts r sound (bare-out rows ls r p owners at e) s

-- the room and the kind of rows of which one went
pub shape-kept : (rows new : Objects ReplyRow) (res : Option ReplyRow) → OnSome res (IsOneFewer (shape rows) (shape new)) → IsSome res → (new.room ≡ rows.room) × (new.kind ≡ rows.kind)
shape-kept rows new None h some = absurd (false≢true some)
shape-kept rows new (Some x) h some = (ap (λ n. n.room) h, ap (λ n. n.kind) h)

-- what is in chains
pub record At (f : ℕ → Option Link) (r : ObjId) (ps : List ℕ) : Type 0 where
  pub place : ℕ
  pub in_list : has place ps ≡ true
  pub is : same (reply_of (f place)) r ≡ true

in-replies : (f : ℕ → Option Link) (r : ObjId) (ps : List ℕ) → is_in r (replies_of f ps) ≡ true → At f r ps
in-replies f r [] h = absurd (false≢true h)
in-replies f r (x ∷ xs) h = go (same (reply_of (f x)) r) refl (in-replies f r xs)
  where
    go : (b : Bool) → same (reply_of (f x)) r ≡ b → (is_in r (replies_of f xs) ≡ true → At f r xs) → At f r (x ∷ xs)
    go true e rest = record { place = x; in_list = grind (arith, common_steps); is = e }
    go false e rest =
        let a = rest (sym (ap (λ b. b || is_in r (replies_of f xs)) e) ∙ h) in
        let i = a.in_list in
        record { place = a.place; in_list = grind (arith, common_steps, i); is = a.is }

at-reply : (ls : List (Option Link)) (ts : TopRows) (s r : ObjId) → Sound ls ts → (a : At (link_at ls) r (places_of ls ts s)) → reply_in ls a.place ≡ Some r
at-reply ls ts s r sound a = some-reply (link_at ls a.place) (some-with s (link_at ls a.place) (sym ((sound.linked s).stands a.place) ∙ a.in_list)) ∙ ap Some (same-equal (reply_of (link_at ls a.place)) r a.is)

once-replies : (ls : List (Option Link)) (ps : List ℕ) → Apart ps → ((u : ℕ) → has u ps ≡ true → reply_in ls u ≡ Some (reply_of (link_at ls u))) → ((u w : ℕ) (r : ObjId) → reply_in ls u ≡ Some r → reply_in ls w ≡ Some r → u ≡ w) → AreOnce (replies_of (link_at ls) ps)
once-replies ls [] apart there once = tt
once-replies ls (x ∷ xs) apart there once =
    let here : has x (x ∷ xs) ≡ true = grind (arith, common_steps) in (
      none-true (is_in (reply_of (link_at ls x)) (replies_of (link_at ls) xs)) (λ h.
          let a = in-replies (link_at ls) (reply_of (link_at ls x)) xs h in
          let k = a.in_list in
          let deep : has a.place (x ∷ xs) ≡ true = grind (arith, common_steps, k) in
          let one : reply_in ls a.place ≡ Some (reply_of (link_at ls x)) = there a.place deep ∙ ap Some (same-equal (reply_of (link_at ls a.place)) (reply_of (link_at ls x)) a.is) in
          let i : a.place ≡ x = once a.place x (reply_of (link_at ls x)) one (there x here) in
          sym k ∙ ap (λ z. has z xs) i ∙ apart.0),
      once-replies ls xs apart.1 (λ u h. there u (grind (arith, common_steps, h))) once,
    )

pub chained : (v : Owing) → IsOwing v → IsChained v
chained v all = record {
  owing = λ s r h. let a = in-replies (link_at v.links) r (places_of v.links v.tops s) h in all.owing a.place r (at-reply v.links v.tops s r all.sound a);
  apart = λ s u r h k.
      let a = in-replies (link_at v.links) r (places_of v.links v.tops s) h in
      let b = in-replies (link_at v.links) r (places_of v.links v.tops u) k in
      let i : a.place ≡ b.place = all.sound.once a.place b.place r (at-reply v.links v.tops s r all.sound a) (at-reply v.links v.tops u r all.sound b) in
      let w : is_with s (link_at v.links a.place) ≡ true = sym ((all.sound.linked s).stands a.place) ∙ a.in_list in
      let x : is_with u (link_at v.links b.place) ≡ true = sym ((all.sound.linked u).stands b.place) ∙ b.in_list in
      one-with s u (link_at v.links b.place) (ap (λ z. is_with s (link_at v.links z)) (sym i) ∙ w) x;
  once = λ s. once-replies v.links (places_of v.links v.tops s) (all.sound.linked s).apart
      (λ u h. some-reply (link_at v.links u) (some-with s (link_at v.links u) (sym ((all.sound.linked s).stands u) ∙ h))) all.sound.once;
}
