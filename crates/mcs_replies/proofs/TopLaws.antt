-- The tops of chains, at home or among others.
use Rattle.std.proofs.Common.{◌≡◌, ◌<◌, ℕ, zero, suc, Bool, true, false, cond, nat_eq, List, [], length, set, get_or, replicate, Option, Some, None, is_none, refl, ap, sym, ◌∙◌, subst, arith, length-set}
use Rattle.std.proofs.lemmas.Bool.{false≢true}
use Rattle.std.proofs.lemmas.List.{length-replicate}
use Rattle.std.proofs.lemmas.Grind.{common_steps}
use Rattle.mcs_types.specs.declared.id.ObjId.{ObjId}
use Rattle.mcs_types.specs.Ids.{same, value_after}
use Rattle.mcs_types.proofs.Ids.{same-self, same-equal}
use Rattle.mcs_types.specs.Limits.{object_limit}
use Rattle.mcs_replies.specs.declared.tops.Top.{Top}
use Rattle.mcs_replies.specs.Places.{place_at_number}
use Rattle.mcs_replies.specs.Tops.{TopRows, AreTops, AreSingle, top_among, entered_among, left_among, home, home_row, is_row_of, is_home, top_or, top_at, takes, takes_home, with_home, entered, left, moved}
use Rattle.mcs_replies.proofs.AmongLaws.{flip, among-entered, among-left, single-entered, single-left}

home-in : (s : ObjId) → home s < object_limit
home-in s = omega arith

set-read : (rows : List (Option Top)) (i j : ℕ) (row : Option Top) → i < length rows → get_or (set rows i row) j None ≡ cond (nat_eq i j) row (get_or rows j None)
set-read rows i j row lt = grind (arith, common_steps, lt)

-- the homes with another row
home-written : (ts : TopRows) (s x : ObjId) (row : Option Top) → AreTops ts → home_row (with_home s row ts) x ≡ cond (nat_eq (home s) (home x)) row (home_row ts x)
home-written ts s x row kept = set-read ts.homes (home s) (home x) row (rw kept.homes (home-in s))

home-other : (s x : ObjId) → nat_eq (home s) (home x) ≡ false → same x s ≡ false
home-other s x e = go (same x s) refl
  where
    go : (b : Bool) → same x s ≡ b → b ≡ false
    go false k = refl
    go true k =
        let here : nat_eq (home s) (home s) ≡ true = grind (arith, common_steps) in
        sym here ∙ ap (λ (z : ObjId). nat_eq (home s) (home z)) (sym (same-equal x s k)) ∙ e

home-same : (ts : TopRows) (s x : ObjId) → nat_eq (home s) (home x) ≡ true → home_row ts x ≡ home_row ts s
home-same ts s x e = let i : home s ≡ home x = grind (arith, common_steps, e) in ap (λ n. get_or ts.homes n None) (sym i)

-- a row that is another's
or-aside : (r : Option Top) (s : ObjId) (o : Option ℕ) → is_row_of r s ≡ false → top_or r s o ≡ o
or-aside None s o h = refl
or-aside (Some y) s o h = ap (λ b. cond b (Some y.top.0) o) h

row-other : (r : Option Top) (s x : ObjId) → is_row_of r s ≡ true → same x s ≡ false → is_row_of r x ≡ false
row-other None s x h ne = refl
row-other (Some y) s x h ne = ap (λ (z : ObjId). same z x) (same-equal y.context s h) ∙ flip x s ne

takes-other : (r : Option Top) (s x : ObjId) (o : Option ℕ) → takes r s o ≡ true → same x s ≡ false → is_row_of r x ≡ false
takes-other None s x o h ne = refl
takes-other (Some y) s x o h ne = row-other (Some y) s x h ne

takes-aside : (r : Option Top) (s : ObjId) (o : Option ℕ) → takes r s o ≡ false → is_row_of r s ≡ false
takes-aside None s o h = refl
takes-aside (Some y) s o h = h

at-own : (s x : ObjId) (p : ℕ) (o : Option ℕ) → same x s ≡ true → cond (same s x) (Some p) o ≡ Some p
at-own s x p o k = ap (λ b. cond b (Some p) o) (ap (λ (z : ObjId). same s z) (same-equal x s k) ∙ same-self s)

-- a top that came
pub top-entered : (s : ObjId) (p : ℕ) (ts : TopRows) → AreTops ts → (x : ObjId) → top_at (entered s p ts) x ≡ value_after x s (Some p) (top_at ts x)
top-entered s p ts kept x = go (takes_home ts s) refl
  where
    row : Top
    row = record { context = s; top = place_at_number p }

    at-home : (a b : Bool) → nat_eq (home s) (home x) ≡ a → same x s ≡ b → takes_home ts s ≡ true
        → top_or (cond a (Some row) (home_row ts x)) x (top_among ts.others x) ≡ cond b (Some p) (top_at ts x)
    at-home false true e k t = absurd (false≢true (sym (home-other s x e) ∙ k))
    at-home false false e k t = refl
    at-home true true e k t = at-own s x p (top_among ts.others x) k
    at-home true false e k t =
        ap (λ b. cond b (Some p) (top_among ts.others x)) (flip x s k)
        ∙ sym (or-aside (home_row ts x) x (top_among ts.others x) (ap (λ r. is_row_of r x) (home-same ts s x e) ∙ takes-other (home_row ts s) s x (top_among ts.others s) t k))

    aside : (b : Bool) → same x s ≡ b → takes_home ts s ≡ false → top_or (home_row ts x) x (cond b (Some p) (top_among ts.others x)) ≡ cond b (Some p) (top_at ts x)
    aside false k t = refl
    aside true k t =
        or-aside (home_row ts x) x (Some p) (ap (λ (z : ObjId). is_row_of (home_row ts z) z) (same-equal x s k) ∙ takes-aside (home_row ts s) s (top_among ts.others s) t)

    go : (b : Bool) → takes_home ts s ≡ b → top_at (cond b (with_home s (Some row) ts) (record ts { others = entered_among s p ts.others })) x ≡ value_after x s (Some p) (top_at ts x)
    go true t = ap (λ r. top_or r x (top_among ts.others x)) (home-written ts s x (Some row) kept) ∙ at-home (nat_eq (home s) (home x)) (same x s) refl refl t
    go false t = ap (top_or (home_row ts x) x) (among-entered s p ts.others x) ∙ aside (same x s) refl t

-- a top that went
pub top-left : (s : ObjId) (ts : TopRows) → AreTops ts → (x : ObjId) → top_at (left s ts) x ≡ value_after x s None (top_at ts x)
top-left s ts kept x = go (is_home ts s) refl
  where
    at-home : (a b : Bool) → nat_eq (home s) (home x) ≡ a → same x s ≡ b → is_home ts s ≡ true
        → top_or (cond a None (home_row ts x)) x (top_among ts.others x) ≡ cond b None (top_at ts x)
    at-home false true e k t = absurd (false≢true (sym (home-other s x e) ∙ k))
    at-home false false e k t = refl
    at-home true true e k t = ap (λ (z : ObjId). top_among ts.others z) (same-equal x s k) ∙ kept.apart s t
    at-home true false e k t = sym (or-aside (home_row ts x) x (top_among ts.others x) (ap (λ r. is_row_of r x) (home-same ts s x e) ∙ row-other (home_row ts s) s x t k))

    aside : (b : Bool) → same x s ≡ b → is_home ts s ≡ false → top_or (home_row ts x) x (cond b None (top_among ts.others x)) ≡ cond b None (top_at ts x)
    aside false k t = refl
    aside true k t = or-aside (home_row ts x) x None (ap (λ (z : ObjId). is_row_of (home_row ts z) z) (same-equal x s k) ∙ t)

    go : (b : Bool) → is_home ts s ≡ b → top_at (cond b (with_home s None ts) (record ts { others = left_among s ts.others })) x ≡ value_after x s None (top_at ts x)
    go true t = ap (λ r. top_or r x (top_among ts.others x)) (home-written ts s x None kept) ∙ at-home (nat_eq (home s) (home x)) (same x s) refl refl t
    go false t = ap (top_or (home_row ts x) x) (among-left s ts.others kept.single x) ∙ aside (same x s) refl t

pub top-moved : (s : ObjId) (o : Option ℕ) (ts : TopRows) → AreTops ts → (x : ObjId) → top_at (moved s o ts) x ≡ value_after x s o (top_at ts x)
top-moved s None ts kept x = top-left s ts kept x
top-moved s (Some p) ts kept x = top-entered s p ts kept x

-- the rows are kept then
cond-none : (b : Bool) → cond {A = Option ℕ} b None None ≡ None
cond-none true = refl
cond-none false = refl

pub tops-entered : (s : ObjId) (p : ℕ) (ts : TopRows) → AreTops ts → AreTops (entered s p ts)
tops-entered s p ts kept = go (takes_home ts s) refl
  where
    row : Top
    row = record { context = s; top = place_at_number p }

    none : (r : Option Top) → home_row ts s ≡ r → takes r s (top_among ts.others s) ≡ true → top_among ts.others s ≡ None
    none None e t = is-none (top_among ts.others s) t
      where
        is-none : (o : Option ℕ) → is_none o ≡ true → o ≡ None
        is-none None h = refl
        is-none (Some q) h = absurd (false≢true h)
    none (Some y) e t = kept.apart s (ap (λ r. is_row_of r s) e ∙ t)

    at-home : (y : ObjId) (a : Bool) → is_row_of (cond a (Some row) (home_row ts y)) y ≡ true → takes_home ts s ≡ true → top_among ts.others y ≡ None
    at-home y true h t = ap (λ (z : ObjId). top_among ts.others z) (sym (same-equal s y h)) ∙ none (home_row ts s) refl t
    at-home y false h t = kept.apart y h

    aside : (y : ObjId) (b : Bool) → same y s ≡ b → is_home ts y ≡ true → takes_home ts s ≡ false → cond b (Some p) (top_among ts.others y) ≡ None
    aside y true k h t = absurd (false≢true (sym (takes-aside (home_row ts s) s (top_among ts.others s) t) ∙ ap (λ (z : ObjId). is_home ts z) (sym (same-equal y s k)) ∙ h))
    aside y false k h t = kept.apart y h

    go : (b : Bool) → takes_home ts s ≡ b → AreTops (cond b (with_home s (Some row) ts) (record ts { others = entered_among s p ts.others }))
    go true t = record {
      homes = length-set ts.homes (home s) (Some row) ∙ kept.homes;
      single = kept.single;
      apart = λ y h. at-home y (nat_eq (home s) (home y)) (ap (λ r. is_row_of r y) (sym (home-written ts s y (Some row) kept)) ∙ h) t;
    }
    go false t = record {
      homes = kept.homes;
      single = single-entered s p ts.others kept.single;
      apart = λ y h. among-entered s p ts.others y ∙ aside y (same y s) refl h t;
    }

pub tops-left : (s : ObjId) (ts : TopRows) → AreTops ts → AreTops (left s ts)
tops-left s ts kept = go (is_home ts s) refl
  where
    at-home : (y : ObjId) (a : Bool) → is_row_of (cond a None (home_row ts y)) y ≡ true → top_among ts.others y ≡ None
    at-home y true h = absurd (false≢true h)
    at-home y false h = kept.apart y h

    go : (b : Bool) → is_home ts s ≡ b → AreTops (cond b (with_home s None ts) (record ts { others = left_among s ts.others }))
    go true t = record {
      homes = length-set ts.homes (home s) None ∙ kept.homes;
      single = kept.single;
      apart = λ y h. at-home y (nat_eq (home s) (home y)) (ap (λ r. is_row_of r y) (sym (home-written ts s y None kept)) ∙ h);
    }
    go false t = record {
      homes = kept.homes;
      single = single-left s ts.others kept.single;
      apart = λ y h. among-left s ts.others kept.single y ∙ ap (λ o. cond (same y s) None o) (kept.apart y h) ∙ cond-none (same y s);
    }

pub tops-moved : (s : ObjId) (o : Option ℕ) (ts : TopRows) → AreTops ts → AreTops (moved s o ts)
tops-moved s None ts kept = tops-left s ts kept
tops-moved s (Some p) ts kept = tops-entered s p ts kept

-- what is among others is the top
pub top-others : (ts : TopRows) → AreTops ts → (x : ObjId) (u : ℕ) → top_among ts.others x ≡ Some u → top_at ts x ≡ Some u
top-others ts kept x u h = go (is_home ts x) refl
  where
    go : (b : Bool) → is_home ts x ≡ b → top_at ts x ≡ Some u
    go true t = let none : Some u ≡ None = sym h ∙ kept.apart x t in absurd (cc)
    go false t = or-aside (home_row ts x) x (top_among ts.others x) t ∙ h

-- no tops
pub get-same : {A : Type 0} (d : A) (n u : ℕ) → get_or (replicate n d) u d ≡ d
get-same d zero u = refl
get-same d (suc n) zero = refl
get-same d (suc n) (suc u) = get-same d n u

pub no-top : (ts : TopRows) → ts.homes ≡ replicate object_limit None → ts.others ≡ [] → (s : ObjId) → top_at ts s ≡ None
no-top ts homes others s =
    ap (λ (rows : List (Option Top)). top_or (get_or rows (home s) None) s (top_among ts.others s)) homes ∙ ap (λ r. top_or r s (top_among ts.others s)) (get-same None object_limit (home s))
    ∙ ap (λ zs. top_among zs s) others

pub no-tops : (ts : TopRows) → ts.homes ≡ replicate object_limit None → ts.others ≡ [] → AreTops ts
no-tops ts homes others =
    let row : Option Top = None in
    record {
      homes = ap length homes ∙ length-replicate object_limit row;
      single = subst AreSingle (sym others) tt;
      apart = λ s h. ap (λ zs. top_among zs s) others;
    }
