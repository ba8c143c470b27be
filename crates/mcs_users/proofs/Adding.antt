-- Users with an entry more, by the place of its thread's list, or of the first one after it.
use Rattle.std.proofs.Common.{ℕ, Bool, true, false, not, cond, nat_lt, suc, ◌≡◌, ◌<◌, ◌≤◌, ◌+◌, ◌||◌, List, [], ◌∷◌, ◌++◌, Some, None, length, set, take, drop, refl, ap, sym, subst, arith, one-add, rules}
use Rattle.std.specs.Prelude.{if◌then◌else◌, get_or, position, slice_get}
use Rattle.std.specs.List.{position_or_len}
use Rattle.std.proofs.lemmas.Bool.{ltb-true}
use Rattle.std.proofs.lemmas.Bool.Decides.{nat_tests}
use Rattle.std.proofs.lemmas.Option.{cond_some, slice_get-get_or}
use Rattle.mcs_types.specs.declared.id.ObjId.{ObjId}
use Rattle.mcs_types.specs.declared.entry.Entry.{Entry}
use Rattle.mcs_types.specs.Ids.{same}
use Rattle.mcs_turns.specs.Turns.{User}
use Rattle.mcs_users.specs.Users.{begun_with, with_more, with_entry}

-- where an entry of a thread goes, or how many users there are
abbrev place : List User → ObjId → ℕ
place us t = position_or_len (λ (u : User). same u.thread t || nat_lt t.serial u.thread.serial) us

after-all : (us : List User) (t : ObjId) (e : Entry) → length us ≤ place us t → take (length us) us ++ begun_with t e ∷ drop (length us) us ≡ with_entry us t e
after-all [] t e le = refl
after-all (x ∷ xs) t e le = go (same x.thread t) (nat_lt t.serial x.thread.serial) (after-all xs t e) le
  where
    go : (a b : Bool) → (length xs ≤ place xs t → take (length xs) xs ++ begun_with t e ∷ drop (length xs) xs ≡ with_entry xs t e)
        → suc (length xs) ≤ cond (not (a || b)) (1 + place xs t) 0
        → x ∷ (take (length xs) xs ++ begun_with t e ∷ drop (length xs) xs) ≡ (if a then with_more x e ∷ xs else (if b then begun_with t e ∷ x ∷ xs else x ∷ with_entry xs t e))
    go true b later past = absurd (omega (arith, past))
    go false true later past = absurd (omega (arith, past))
    go false false later past = ap (λ ys. x ∷ ys) (later (omega (arith, past)))

-- the element in a place after the first
later-at : (xs : List User) (x u : User) (n : ℕ) → slice_get (x ∷ xs) (1 + n) ≡ Some u → slice_get xs n ≡ Some u
later-at xs x u n at = subst (λ m. slice_get (x ∷ xs) m ≡ Some u) (one-add n) at

within : (us : List User) (t : ObjId) (e : Entry) (u : User) → slice_get us (place us t) ≡ Some u → same u.thread t ≡ true → set us (place us t) (with_more u e) ≡ with_entry us t e
within [] t e u at is = absurd cc
within (x ∷ xs) t e u at is = go (λ h. within xs t e u h is) (same x.thread t) (nat_lt t.serial x.thread.serial) refl at
  where
    go : (slice_get xs (place xs t) ≡ Some u → set xs (place xs t) (with_more u e) ≡ with_entry xs t e) → (a b : Bool) → same x.thread t ≡ a → slice_get (x ∷ xs) (cond (not (a || b)) (1 + place xs t) 0) ≡ Some u
        → set (x ∷ xs) (cond (not (a || b)) (1 + place xs t) 0) (with_more u e) ≡ (if a then with_more x e ∷ xs else (if b then begun_with t e ∷ x ∷ xs else x ∷ with_entry xs t e))
    go rest true b own h = let first : x ≡ u = search rules in ap (λ y. with_more y e ∷ xs) (sym first)
    go rest false true own h = let first : x ≡ u = search rules in absurd cc
    go rest false false own h = rw (one-add (place xs t)) (ap (λ ys. x ∷ ys) (rest (later-at xs x u (place xs t) h)))

before : (us : List User) (t : ObjId) (e : Entry) (u : User) → slice_get us (place us t) ≡ Some u → same u.thread t ≡ false
    → take (place us t) us ++ begun_with t e ∷ drop (place us t) us ≡ with_entry us t e
before [] t e u at is = refl
before (x ∷ xs) t e u at is = go (λ h. before xs t e u h is) (same x.thread t) (nat_lt t.serial x.thread.serial) refl at
  where
    go : (slice_get xs (place xs t) ≡ Some u → take (place xs t) xs ++ begun_with t e ∷ drop (place xs t) xs ≡ with_entry xs t e) → (a b : Bool) → same x.thread t ≡ a → slice_get (x ∷ xs) (cond (not (a || b)) (1 + place xs t) 0) ≡ Some u
        → take (cond (not (a || b)) (1 + place xs t) 0) (x ∷ xs) ++ begun_with t e ∷ drop (cond (not (a || b)) (1 + place xs t) 0) (x ∷ xs)
        ≡ (if a then with_more x e ∷ xs else (if b then begun_with t e ∷ x ∷ xs else x ∷ with_entry xs t e))
    go rest true b own h = let first : x ≡ u = search rules in absurd cc
    go rest false true own h = refl
    go rest false false own h = rw (one-add (place xs t)) (ap (λ ys. x ∷ ys) (rest (later-at xs x u (place xs t) h)))

-- the place that was found
found-at : (us : List User) (t : ObjId) (i : ℕ) → position (λ (u : User). same u.thread t || nat_lt t.serial u.thread.serial) us ≡ Some i → (place us t ≡ i) × (place us t < length us)
found-at us t i found = let it = cond_some (nat_lt (place us t) (length us)) (place us t) i found in (it.1, ltb-true (place us t) (length us) it.0)

-- the user in the place that was found
pub user-at : (us : List User) (t : ObjId) (e : Entry) (i : ℕ) → position (λ (u : User). same u.thread t || nat_lt t.serial u.thread.serial) us ≡ Some i → slice_get us i ≡ Some (get_or us i (begun_with t e))
user-at us t e i found = let at = found-at us t i found in let low : i < length us = omega (arith, at.0, at.1) in slice_get-get_or us i (begun_with t e) low

pub added-within : (us : List User) (t : ObjId) (e : Entry) (i : ℕ) (u : User) → position (λ (v : User). same v.thread t || nat_lt t.serial v.thread.serial) us ≡ Some i
    → slice_get us i ≡ Some u → same u.thread t ≡ true → set us i (with_more u e) ≡ with_entry us t e
added-within us t e i u found at is = subst (λ n. set us n (with_more u e) ≡ with_entry us t e) (found-at us t i found).0 (within us t e u (subst (λ n. slice_get us n ≡ Some u) (sym (found-at us t i found).0) at) is)

pub added-before : (us : List User) (t : ObjId) (e : Entry) (i : ℕ) (u : User) → position (λ (v : User). same v.thread t || nat_lt t.serial v.thread.serial) us ≡ Some i
    → slice_get us i ≡ Some u → same u.thread t ≡ false → take i us ++ begun_with t e ∷ drop i us ≡ with_entry us t e
added-before us t e i u found at is = subst (λ n. take n us ++ begun_with t e ∷ drop n us ≡ with_entry us t e) (found-at us t i found).0 (before us t e u (subst (λ n. slice_get us n ≡ Some u) (sym (found-at us t i found).0) at) is)

pub added-after : (us : List User) (t : ObjId) (e : Entry) (n : ℕ) → n ≡ length us → position (λ (v : User). same v.thread t || nat_lt t.serial v.thread.serial) us ≡ None
    → take n us ++ begun_with t e ∷ drop n us ≡ with_entry us t e
added-after us t e n long none = subst (λ m. take m us ++ begun_with t e ∷ drop m us ≡ with_entry us t e) (sym long) (after-all us t e (grind (arith, nat_tests, none)))
