-- The rows of tops that are not at home.
use Rattle.std.proofs.Common.{◌≡◌, ◌≤◌, ◌<◌, ◌+◌, ◌||◌, not, ℕ, Bool, true, false, cond, List, [], ◌∷◌, ◌++◌, length, get_or, set, Option, Some, None, refl, ap, sym, ◌∙◌, arith}
use Rattle.std.specs.List.{list_any, remove, position, position_or_len}
use Rattle.std.proofs.lemmas.Bool.{false≢true}
use Rattle.std.proofs.lemmas.Grind.{common_steps}
use Rattle.mcs_types.specs.declared.id.ObjId.{ObjId}
use Rattle.mcs_types.specs.Ids.{same, value_after}
use Rattle.mcs_types.proofs.Ids.{same-self, same-equal}
use Rattle.mcs_replies.specs.declared.tops.Top.{Top}
use Rattle.mcs_replies.specs.Places.{place_at_number}
use Rattle.mcs_replies.specs.Tops.{is_for, top_among, AreSingle, entered_among, left_among}

position-is : (s : ObjId) (n : ℕ) (ts : List Top) → Some n ≡ position (is_for s) ts → (position_or_len (is_for s) ts ≡ n) × (position_or_len (is_for s) ts < length ts)
position-is s n ts h = (grind (arith, common_steps, h), grind (arith, common_steps, h))

none-beyond : (s : ObjId) (ts : List Top) → None ≡ position (is_for s) ts → length ts ≤ position_or_len (is_for s) ts
none-beyond s ts h = grind (arith, common_steps, h)

-- the row that is found
found-cons : (s : ObjId) (d v : Top) (vs : List Top) (k : ℕ) (b : Bool) → cond (not b) (1 + k) 0 < length (v ∷ vs) → (k < length vs → top_among vs s ≡ Some (get_or vs k d).top.0) → cond b (Some v.top.0) (top_among vs s) ≡ Some (get_or (v ∷ vs) (cond (not b) (1 + k) 0) d).top.0
found-cons s d v vs k true lt h = refl
found-cons s d v vs k false lt h = let e = h (omega (arith, lt)) in grind (arith, common_steps, e)

found-top : (s : ObjId) (d : Top) (ts : List Top) → position_or_len (is_for s) ts < length ts → top_among ts s ≡ Some (get_or ts (position_or_len (is_for s) ts) d).top.0
found-top s d [] lt = absurd (omega (arith, lt))
found-top s d (v ∷ vs) lt = found-cons s d v vs (position_or_len (is_for s) vs) (is_for s v) lt (found-top s d vs)

absent-cons : (s : ObjId) (k : ℕ) (v : Top) (vs : List Top) (b : Bool) → length (v ∷ vs) ≤ cond (not b) (1 + k) 0 → (length vs ≤ k → top_among vs s ≡ None) → cond b (Some v.top.0) (top_among vs s) ≡ None
absent-cons s k v vs true le h = absurd (omega (arith, le))
absent-cons s k v vs false le h = h (omega (arith, le))

absent-top : (s : ObjId) (ts : List Top) → length ts ≤ position_or_len (is_for s) ts → top_among ts s ≡ None
absent-top s [] le = refl
absent-top s (v ∷ vs) le = absent-cons s (position_or_len (is_for s) vs) v vs (is_for s v) le (absent-top s vs)

set-cons : (s : ObjId) (p : ℕ) (d v : Top) (vs : List Top) (k : ℕ) (b : Bool) → cond (not b) (1 + k) 0 < length (v ∷ vs) → (k < length vs → set vs k (record (get_or vs k d) { top = place_at_number p }) ≡ entered_among s p vs)
    → set (v ∷ vs) (cond (not b) (1 + k) 0) (record (get_or (v ∷ vs) (cond (not b) (1 + k) 0) d) { top = place_at_number p }) ≡ cond b (record v { top = place_at_number p } ∷ vs) (v ∷ entered_among s p vs)
set-cons s p d v vs k true lt h = refl
set-cons s p d v vs k false lt h = let e = h (omega (arith, lt)) in grind (arith, common_steps, e)

set-entered : (s : ObjId) (p : ℕ) (d : Top) (ts : List Top) → position_or_len (is_for s) ts < length ts → set ts (position_or_len (is_for s) ts) (record (get_or ts (position_or_len (is_for s) ts) d) { top = place_at_number p }) ≡ entered_among s p ts
set-entered s p d [] lt = absurd (omega (arith, lt))
set-entered s p d (v ∷ vs) lt = set-cons s p d v vs (position_or_len (is_for s) vs) (is_for s v) lt (set-entered s p d vs)

remove-cons : (s : ObjId) (v : Top) (vs : List Top) (k : ℕ) (b : Bool) → cond (not b) (1 + k) 0 < length (v ∷ vs) → (k < length vs → remove vs k ≡ left_among s vs) → remove (v ∷ vs) (cond (not b) (1 + k) 0) ≡ cond b vs (v ∷ left_among s vs)
remove-cons s v vs k true lt h = refl
remove-cons s v vs k false lt h = let e = h (omega (arith, lt)) in grind (arith, common_steps, e)

remove-left : (s : ObjId) (ts : List Top) → position_or_len (is_for s) ts < length ts → remove ts (position_or_len (is_for s) ts) ≡ left_among s ts
remove-left s [] lt = absurd (omega (arith, lt))
remove-left s (v ∷ vs) lt = remove-cons s v vs (position_or_len (is_for s) vs) (is_for s v) lt (remove-left s vs)

pub top-some : (s : ObjId) (n : ℕ) (d : Top) (ts : List Top) → Some n ≡ position (is_for s) ts → top_among ts s ≡ Some (get_or ts n d).top.0
top-some s n d ts h = let p = position-is s n ts h in found-top s d ts p.1 ∙ ap (λ k. Some (get_or ts k d).top.0) p.0

pub top-none : (s : ObjId) (ts : List Top) → None ≡ position (is_for s) ts → top_among ts s ≡ None
top-none s ts h = absent-top s ts (none-beyond s ts h)

pub set-some : (s : ObjId) (p n : ℕ) (d : Top) (ts : List Top) → Some n ≡ position (is_for s) ts → set ts n (record (get_or ts n d) { top = place_at_number p }) ≡ entered_among s p ts
set-some s p n d ts h = let q = position-is s n ts h in ap (λ k. set ts k (record (get_or ts k d) { top = place_at_number p })) (sym q.0) ∙ set-entered s p d ts q.1

pub remove-some : (s : ObjId) (n : ℕ) (ts : List Top) → Some n ≡ position (is_for s) ts → remove ts n ≡ left_among s ts
remove-some s n ts h = let q = position-is s n ts h in ap (remove ts) (sym q.0) ∙ remove-left s ts q.1

-- what has no row
pub entered-none : (s : ObjId) (p : ℕ) (ts : List Top) → top_among ts s ≡ None → ts ++ record { context = s; top = place_at_number p } ∷ [] ≡ entered_among s p ts
entered-none s p [] h = refl
entered-none s p (x ∷ xs) h = go (is_for s x) h (entered-none s p xs)
  where
    go : (b : Bool) → cond b (Some x.top.0) (top_among xs s) ≡ None → (top_among xs s ≡ None → xs ++ record { context = s; top = place_at_number p } ∷ [] ≡ entered_among s p xs) → x ∷ xs ++ record { context = s; top = place_at_number p } ∷ [] ≡ cond b (record x { top = place_at_number p } ∷ xs) (x ∷ entered_among s p xs)
    go true e r = absurd (cc)
    go false e r = ap (λ zs. x ∷ zs) (r e)

pub left-none : (s : ObjId) (ts : List Top) → top_among ts s ≡ None → ts ≡ left_among s ts
left-none s [] h = refl
left-none s (x ∷ xs) h = go (is_for s x) h (left-none s xs)
  where
    go : (b : Bool) → cond b (Some x.top.0) (top_among xs s) ≡ None → (top_among xs s ≡ None → xs ≡ left_among s xs) → x ∷ xs ≡ cond b xs (x ∷ left_among s xs)
    go true e r = absurd (cc)
    go false e r = ap (λ zs. x ∷ zs) (r e)

-- what the tops are then
pub top-out : (s : ObjId) (ts : List Top) → list_any (is_for s) ts ≡ false → top_among ts s ≡ None
top-out s [] h = refl
top-out s (x ∷ xs) h = go (is_for s x) h (top-out s xs)
  where
    go : (b : Bool) → (b || list_any (is_for s) xs) ≡ false → (list_any (is_for s) xs ≡ false → top_among xs s ≡ None) → cond b (Some x.top.0) (top_among xs s) ≡ None
    go true e r = absurd (cc)
    go false e r = r e

pub flip : (a b : ObjId) → same a b ≡ false → same b a ≡ false
flip a b h = go (same b a) refl
  where
    go : (v : Bool) → same b a ≡ v → v ≡ false
    go true e = let no : true ≡ false = sym (same-self a) ∙ ap (λ (x : ObjId). same a x) (sym (same-equal b a e)) ∙ h in absurd cc
    go false e = refl

pub among-entered : (s : ObjId) (p : ℕ) (ts : List Top) (x : ObjId) → top_among (entered_among s p ts) x ≡ value_after x s (Some p) (top_among ts x)
among-entered s p [] x = go (same x s) refl
  where
    go : (b : Bool) → same x s ≡ b → cond (same s x) (Some p) None ≡ cond b (Some p) None
    go true e = ap (λ (z : ObjId). cond (same z x) (Some p) None) (sym (same-equal x s e)) ∙ ap (λ b. cond b (Some p) None) (same-self x)
    go false e = ap (λ b. cond b (Some p) None) (flip x s e)
among-entered s p (y ∷ ys) x = go (is_for s y) refl (same x s) refl (among-entered s p ys x)
  where
    go : (b : Bool) → is_for s y ≡ b → (v : Bool) → same x s ≡ v → top_among (entered_among s p ys) x ≡ cond (same x s) (Some p) (top_among ys x)
        → top_among (cond b (record y { top = place_at_number p } ∷ ys) (y ∷ entered_among s p ys)) x ≡ cond v (Some p) (cond (is_for x y) (Some y.top.0) (top_among ys x))
    go true e true k r =
        let here : is_for x y ≡ true = ap (λ (z : ObjId). same y.context z) (same-equal x s k) ∙ e in
        ap (λ b. cond b (Some p) (top_among ys x)) here
    go true e false k r =
        let out : is_for x y ≡ false = ap (λ (z : ObjId). same z x) (same-equal y.context s e) ∙ flip x s k in
        ap (λ b. cond b (Some p) (top_among ys x)) out ∙ sym (ap (λ b. cond b (Some y.top.0) (top_among ys x)) out)
    go false e true k r =
        let out : is_for x y ≡ false = ap (λ (z : ObjId). same y.context z) (same-equal x s k) ∙ e in
        ap (λ b. cond b (Some y.top.0) (top_among (entered_among s p ys) x)) out ∙ r ∙ ap (λ b. cond b (Some p) (top_among ys x)) k
    go false e false k r = ap (cond (is_for x y) (Some y.top.0)) (r ∙ ap (λ b. cond b (Some p) (top_among ys x)) k)

pub among-left : (s : ObjId) (ts : List Top) → AreSingle ts → (x : ObjId) → top_among (left_among s ts) x ≡ value_after x s None (top_among ts x)
among-left s [] single x = sym (either (same x s))
  where
    either : (b : Bool) → cond {A = Option ℕ} b None None ≡ None
    either true = refl
    either false = refl
among-left s (y ∷ ys) single x = go (is_for s y) refl (same x s) refl (among-left s ys single.1 x)
  where
    go : (b : Bool) → is_for s y ≡ b → (v : Bool) → same x s ≡ v → top_among (left_among s ys) x ≡ cond (same x s) None (top_among ys x)
        → top_among (cond b ys (y ∷ left_among s ys)) x ≡ cond v None (cond (is_for x y) (Some y.top.0) (top_among ys x))
    go true e true k r =
        let is : y.context ≡ x = same-equal y.context s e ∙ sym (same-equal x s k) in
        top-out x ys (ap (λ (z : ObjId). list_any (is_for z) ys) (sym is) ∙ single.0)
    go true e false k r =
        let out : is_for x y ≡ false = ap (λ (z : ObjId). same z x) (same-equal y.context s e) ∙ flip x s k in
        sym (ap (λ b. cond b (Some y.top.0) (top_among ys x)) out)
    go false e true k r =
        let out : is_for x y ≡ false = ap (λ (z : ObjId). same y.context z) (same-equal x s k) ∙ e in
        ap (λ b. cond b (Some y.top.0) (top_among (left_among s ys) x)) out ∙ r ∙ ap (λ b. cond b None (top_among ys x)) k
    go false e false k r = ap (cond (is_for x y) (Some y.top.0)) (r ∙ ap (λ b. cond b None (top_among ys x)) k)

-- no context has two rows then
any-entered : (s c : ObjId) (p : ℕ) (ts : List Top) → same s c ≡ false → list_any (is_for c) ts ≡ false → list_any (is_for c) (entered_among s p ts) ≡ false
any-entered s c p [] ne h = ap (λ b. b || false) ne
any-entered s c p (y ∷ ys) ne h = go (is_for s y) (any-entered s c p ys ne)
  where
    parts : (a b : Bool) → (a || b) ≡ false → (a ≡ false) × (b ≡ false)
    parts true b e = absurd (false≢true (sym e))
    parts false b e = (refl, e)

    go : (b : Bool) → (list_any (is_for c) ys ≡ false → list_any (is_for c) (entered_among s p ys) ≡ false) → list_any (is_for c) (cond b (record y { top = place_at_number p } ∷ ys) (y ∷ entered_among s p ys)) ≡ false
    go true r = h
    go false r = let q = parts (is_for c y) (list_any (is_for c) ys) h in ap (λ b. b || list_any (is_for c) (entered_among s p ys)) q.0 ∙ r q.1

any-left : (s c : ObjId) (ts : List Top) → list_any (is_for c) ts ≡ false → list_any (is_for c) (left_among s ts) ≡ false
any-left s c [] h = h
any-left s c (y ∷ ys) h = go (is_for s y) (any-left s c ys)
  where
    parts : (a b : Bool) → (a || b) ≡ false → (a ≡ false) × (b ≡ false)
    parts true b e = absurd (false≢true (sym e))
    parts false b e = (refl, e)

    go : (b : Bool) → (list_any (is_for c) ys ≡ false → list_any (is_for c) (left_among s ys) ≡ false) → list_any (is_for c) (cond b ys (y ∷ left_among s ys)) ≡ false
    go true r = (parts (is_for c y) (list_any (is_for c) ys) h).1
    go false r = let q = parts (is_for c y) (list_any (is_for c) ys) h in ap (λ b. b || list_any (is_for c) (left_among s ys)) q.0 ∙ r q.1

pub single-entered : (s : ObjId) (p : ℕ) (ts : List Top) → AreSingle ts → AreSingle (entered_among s p ts)
single-entered s p [] h = (refl, tt)
single-entered s p (y ∷ ys) h = go (is_for s y) refl (single-entered s p ys h.1)
  where
    go : (b : Bool) → is_for s y ≡ b → AreSingle (entered_among s p ys) → AreSingle (cond b (record y { top = place_at_number p } ∷ ys) (y ∷ entered_among s p ys))
    go true e r = h
    go false e r = (any-entered s y.context p ys (flip y.context s e) h.0, r)

pub single-left : (s : ObjId) (ts : List Top) → AreSingle ts → AreSingle (left_among s ts)
single-left s [] h = tt
single-left s (y ∷ ys) h = go (is_for s y) (single-left s ys h.1)
  where
    go : (b : Bool) → AreSingle (left_among s ys) → AreSingle (cond b ys (y ∷ left_among s ys))
    go true r = h.1
    go false r = (any-left s y.context ys h.0, r)
