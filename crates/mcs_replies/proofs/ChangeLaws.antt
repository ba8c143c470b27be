-- How many links an answer at the top changes.
use Rattle.std.proofs.Common.{◌≡◌, ◌≤◌, ◌+◌, ◌&&◌, ◌||◌, ℕ, zero, suc, Bool, true, false, cond, nat_eq, List, [], ◌∷◌, set, Option, Some, None, refl, ap, ◌∙◌, arith}
use Rattle.std.specs.List.{list_any}
use Rattle.std.proofs.lemmas.Bool.{false≢true}
use Rattle.std.proofs.lemmas.Grind.{common_steps}
use Rattle.mcs_types.specs.declared.id.ObjId.{ObjId}
use Rattle.mcs_types.specs.Ids.{same}
use Rattle.mcs_types.proofs.Ids.{same-self, both}
use Rattle.mcs_replies.specs.declared.places.PlaceNo.{PlaceNo}
use Rattle.mcs_replies.specs.declared.links.Link.{Link}
use Rattle.mcs_replies.specs.declared.tops.Top.{Top}
use Rattle.mcs_replies.specs.Places.{place_number, place_at_number}
use Rattle.mcs_replies.specs.Tops.{TopRows, AreTops, AreSingle, is_for, entered_among, left_among, home, is_home, takes_home, with_home, moved}
use Rattle.mcs_replies.specs.Links.{with_above_at}
use Rattle.mcs_replies.proofs.AmongLaws.{flip}
use Rattle.mcs_replies.specs.Changes.{same_place, same_link, same_top, same_row, differences, row_changes, top_changes, changes}

number-self : (n : ℕ) → nat_eq n n ≡ true
number-self n = grind (arith, common_steps)

place-self : (o : Option ℕ) → same_place o o ≡ true
place-self None = refl
place-self (Some a) = number-self a

link-self : (o : Option Link) → same_link o o ≡ true
link-self None = refl
link-self (Some l) =
    let above = place-self (place_number l.above) in
    let below = place-self (place_number l.below) in
    both _ _ (both _ _ (both _ _ (same-self l.context) (same-self l.reply)) above) below

top-self : (x : Top) → same_top x x ≡ true
top-self x = both (same x.context x.context) (nat_eq x.top.0 x.top.0) (same-self x.context) (number-self x.top.0)

row-self : (o : Option Top) → same_row o o ≡ true
row-self None = refl
row-self (Some x) = top-self x

at-most-one : (b : Bool) → cond b 0 1 ≤ 1
at-most-one true = omega arith
at-most-one false = omega arith

differences-self : {A : Type 0} (f : A → A → Bool) (all : (x : A) → f x x ≡ true) (xs : List A) → differences f xs xs ≡ 0
differences-self f all [] = refl
differences-self f all (x ∷ xs) = ap (λ b. cond b 0 1 + differences f xs xs) (all x) ∙ (ap (λ n. 0 + n) (differences-self f all xs))

differences-set : {A : Type 0} (f : A → A → Bool) (xs ys : List A) (i : ℕ) (y : A) → differences f xs (set ys i y) ≤ differences f xs ys + 1
differences-set f xs [] i y = omega arith
differences-set f [] (z ∷ zs) zero y = omega arith
differences-set f [] (z ∷ zs) (suc i) y = omega (arith, differences-set f [] zs i y)
differences-set f (x ∷ xs) (z ∷ zs) zero y = omega (arith, at-most-one (f x y), at-most-one (f x z))
differences-set f (x ∷ xs) (z ∷ zs) (suc i) y = omega (arith, differences-set f xs zs i y)

-- one row among others that changes
same-first : (x : Top) (xs ys : List Top) → row_changes (x ∷ xs) (x ∷ ys) ≡ row_changes xs ys
same-first x xs ys = ap (λ b. cond b (row_changes xs ys) (cond (is_for x.context x) (1 + row_changes xs ys) (1 + row_changes xs (x ∷ ys)))) (top-self x)

rows-self : (xs : List Top) → row_changes xs xs ≡ 0
rows-self [] = refl
rows-self (x ∷ xs) = same-first x xs xs ∙ rows-self xs

pick : (a b : Bool) (m n : ℕ) → b ≡ true → m ≡ 0 → cond a m (cond b (1 + m) n) ≤ 1
pick true b m n h z = omega (arith, z)
pick false true m n h z = omega (arith, z)
pick false false m n h z = absurd (false≢true h)

rows-entered : (s : ObjId) (p : ℕ) (xs : List Top) → row_changes xs (entered_among s p xs) ≤ 1
rows-entered s p [] = omega arith
rows-entered s p (x ∷ xs) = go (is_for s x) (rows-entered s p xs)
  where
    go : (b : Bool) → row_changes xs (entered_among s p xs) ≤ 1 → row_changes (x ∷ xs) (cond b (record x { top = place_at_number p } ∷ xs) (x ∷ entered_among s p xs)) ≤ 1
    go true r = pick (same_top x (record x { top = place_at_number p })) (same x.context x.context) (row_changes xs xs) (1 + row_changes xs (record x { top = place_at_number p } ∷ xs)) (same-self x.context) (rows-self xs)
    go false r = omega (arith, r, same-first x xs (entered_among s p xs))

gone : (x : Top) (xs : List Top) → list_any (is_for x.context) xs ≡ false → row_changes (x ∷ xs) xs ≤ 1
gone x [] h = omega arith
gone x (z ∷ zs) h = omega (arith, is, rows-self (z ∷ zs))
  where
    out : same z.context x.context ≡ false
    out = first (same z.context x.context) (list_any (is_for x.context) zs) h
      where
        first : (a b : Bool) → (a || b) ≡ false → a ≡ false
        first true b e = e
        first false b e = refl

    is : row_changes (x ∷ z ∷ zs) (z ∷ zs) ≡ 1 + row_changes (z ∷ zs) (z ∷ zs)
    is = ap (λ b. cond (b && nat_eq x.top.0 z.top.0) (row_changes (z ∷ zs) zs) (cond b (1 + row_changes (z ∷ zs) zs) (1 + row_changes (z ∷ zs) (z ∷ zs)))) (flip z.context x.context out)

rows-left : (s : ObjId) (xs : List Top) → AreSingle xs → row_changes xs (left_among s xs) ≤ 1
rows-left s [] single = omega arith
rows-left s (x ∷ xs) single = go (is_for s x) (rows-left s xs single.1)
  where
    go : (b : Bool) → row_changes xs (left_among s xs) ≤ 1 → row_changes (x ∷ xs) (cond b xs (x ∷ left_among s xs)) ≤ 1
    go true r = gone x xs single.0
    go false r = omega (arith, r, same-first x xs (left_among s xs))

tops-self : (ts : TopRows) → top_changes ts ts ≡ 0
tops-self ts = omega (arith, differences-self same_row row-self ts.homes, rows-self ts.others)

home-changes : (ts : TopRows) (s : ObjId) (row : Option Top) → top_changes ts (with_home s row ts) ≤ 1
home-changes ts s row = omega (arith, differences-self same_row row-self ts.homes, differences-set same_row ts.homes ts.homes (home s) row, rows-self ts.others)

pub moved-changes : (ts : TopRows) (s : ObjId) (o : Option ℕ) → AreTops ts → top_changes ts (moved s o ts) ≤ 1
moved-changes ts s None kept = go (is_home ts s)
  where
    go : (b : Bool) → top_changes ts (cond b (with_home s None ts) (record ts { others = left_among s ts.others })) ≤ 1
    go true = home-changes ts s None
    go false = omega (arith, differences-self same_row row-self ts.homes, rows-left s ts.others kept.single)
moved-changes ts s (Some p) kept = go (takes_home ts s)
  where
    row : Top
    row = record { context = s; top = place_at_number p }

    go : (b : Bool) → top_changes ts (cond b (with_home s (Some row) ts) (record ts { others = entered_among s p ts.others })) ≤ 1
    go true = home-changes ts s (Some row)
    go false = omega (arith, differences-self same_row row-self ts.homes, rows-entered s p ts.others)

above-changes : (zs ls : List (Option Link)) (at above : Option PlaceNo) → differences same_link zs (with_above_at at above ls) ≤ differences same_link zs ls + 1
above-changes zs ls None above = omega arith
above-changes zs ls (Some p) above = differences-set same_link zs ls p.0 _

-- the top goes, and what was below it is the top
pub popped-changes : (ls : List (Option Link)) (ts : TopRows) (p : ℕ) (s : ObjId) (under : Option PlaceNo) → AreTops ts → changes ls ts (with_above_at under None (set ls p None)) (moved s (place_number under) ts) ≤ 3
popped-changes ls ts p s under kept =
    omega (arith, differences-self same_link link-self ls, differences-set same_link ls ls p None, above-changes ls (set ls p None) under None, moved-changes ts s (place_number under) kept)
