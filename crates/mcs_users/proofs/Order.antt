-- Users in order are of different threads, and stay in order with an entry more.
use Rattle.std.specs.Prelude.{ℕ, zero, suc, Bool, true, false, nat_lt, cond, ◌≡◌, ◌<◌, ◌≤◌, List, [], ◌∷◌, Some, None, length, map, set, position, slice_get, if◌then◌else◌}
use Rattle.std.specs.Prelude.{Result, Ok, Err}
use Rattle.std.specs.Result.{OnOk, OnErr}
use Rattle.std.specs.List.{AllByRecursion, position_or_len}
use Rattle.std.proofs.Common.{refl, ap, sym, ◌∙◌, subst, arith, rules}
use Rattle.std.proofs.lemmas.Bool.{ltb-true}
use Rattle.std.proofs.lemmas.Bool.Decides.{nat_tests}
use Rattle.std.proofs.lemmas.Option.{cond_some}
use Rattle.mcs_types.specs.declared.id.ObjId.{ObjId}
use Rattle.mcs_types.specs.declared.entry.Entry.{Entry}
use Rattle.mcs_types.specs.Ids.{same}
use Rattle.mcs_types.proofs.Ids.{same-equal, same-self}
use Rattle.mcs_turns.specs.declared.program.Fill.{Fill}
use Rattle.mcs_turns.specs.declared.program.Op.{Op}
use Rattle.mcs_turns.specs.Turns.{User, AreApart}
use Rattle.mcs_users.specs.Users.{again_at, program_at, IsAfter, AreInOrder, begun_with, with_more, with_entry}

-- what holds of all holds with an entry more
all-with : (P : User → Type 0) (us : List User) (t : ObjId) (e : Entry) → ((u : User) → P u → P (with_more u e)) → P (begun_with t e) → AllByRecursion P us → AllByRecursion P (with_entry us t e)
all-with P [] t e more new all = (new, tt)
all-with P (x ∷ xs) t e more new all = go (all-with P xs t e more new all.1) (same x.thread t) (nat_lt t.serial x.thread.serial)
  where
    go : AllByRecursion P (with_entry xs t e) → (a b : Bool) → AllByRecursion P (if a then with_more x e ∷ xs else (if b then begun_with t e ∷ x ∷ xs else x ∷ with_entry xs t e))
    go rest true b = (more x all.0, all.1)
    go rest false true = (new, all)
    go rest false false = (all.0, rest)

all-weaker : (P Q : User → Type 0) → ((u : User) → P u → Q u) → (us : List User) → AllByRecursion P us → AllByRecursion Q us
all-weaker P Q f [] all = tt
all-weaker P Q f (x ∷ xs) all = (f x all.0, all-weaker P Q f xs all.1)

-- threads of different serials are different
other-serial : (t u : ObjId) → t.serial < u.serial → same t u ≡ false
other-serial t u low = go (same t u) refl
  where
    go : (b : Bool) → same t u ≡ b → b ≡ false
    go false e = refl
    go true e = let serials : t.serial ≡ u.serial = ap (λ (i : ObjId). i.serial) (same-equal t u e) in absurd (omega (arith, low, serials))

same-either : (t u : ObjId) → same u t ≡ false → same t u ≡ false
same-either t u other = go (same t u) refl
  where
    go : (b : Bool) → same t u ≡ b → b ≡ false
    go false e = refl
    go true e = sym (subst (λ v. same u v ≡ true) (sym (same-equal t u e)) (same-self u)) ∙ other

pub order-with : (us : List User) (t : ObjId) (e : Entry) → AreInOrder us → AreInOrder (with_entry us t e)
order-with [] t e h = (tt, tt)
order-with (x ∷ xs) t e h = go (order-with xs t e h.1) (same x.thread t) refl (nat_lt t.serial x.thread.serial) refl
  where
    go : AreInOrder (with_entry xs t e) → (a : Bool) → same x.thread t ≡ a → (b : Bool) → nat_lt t.serial x.thread.serial ≡ b
        → AreInOrder (if a then with_more x e ∷ xs else (if b then begun_with t e ∷ x ∷ xs else x ∷ with_entry xs t e))
    go rest true is b low = (all-weaker (IsAfter x) (IsAfter (with_more x e)) (λ u p. record { other = p.other; serial = p.serial }) xs h.0, h.1)
    go rest false is true low =
        let less : t.serial < x.thread.serial = ltb-true t.serial x.thread.serial low in
        let first : IsAfter (begun_with t e) x = record { other = other-serial t x.thread less; serial = omega (arith, less) } in (
          (
            first,
            all-weaker (IsAfter x) (IsAfter (begun_with t e)) (λ u p.
                let more = p.serial in
                let below : t.serial < u.thread.serial = omega (arith, less, more) in
                record { other = other-serial t u.thread below; serial = omega (arith, below) }) xs h.0,
          ),
          h,
        )
    go rest false is false low =
        let position_after : x.thread.serial ≤ t.serial = grind (arith, nat_tests, low) in
        (all-with (IsAfter x) xs t e (λ u p. record { other = p.other; serial = p.serial }) (record { other = is; serial = position_after }) h.0, rest)

all-at : (P : User → Type 0) (us : List User) (i : ℕ) (u : User) → AllByRecursion P us → slice_get us i ≡ Some u → P u
all-at P [] zero u all at = absurd cc
all-at P [] (suc i) u all at = absurd cc
all-at P (x ∷ xs) zero u all at = let first : x ≡ u = search rules in subst P first all.0
all-at P (x ∷ xs) (suc i) u all at = all-at P xs i u all.1 at

pub apart : (us : List User) → AreInOrder us → AreApart us
apart [] h zero j u v a b is = absurd cc
apart [] h (suc i) j u v a b is = absurd cc
apart (x ∷ xs) h zero zero u v a b is = refl
apart (x ∷ xs) h zero (suc j) u v a b is =
    let first : x ≡ u = search rules in
    let other : same x.thread v.thread ≡ false = (all-at (IsAfter x) xs j v h.0 b).other in
    let no : true ≡ false = sym is ∙ subst (λ (w : User). same w.thread v.thread ≡ false) first other in
    absurd cc
apart (x ∷ xs) h (suc i) zero u v a b is =
    let first : x ≡ v = search rules in
    let other : same x.thread u.thread ≡ false = (all-at (IsAfter x) xs i u h.0 a).other in
    let no : true ≡ false = sym is ∙ same-either u.thread v.thread (subst (λ (w : User). same w.thread u.thread ≡ false) first other) in
    absurd cc
apart (x ∷ xs) h (suc i) (suc j) u v a b is = ap (λ n. suc n) (apart xs h.1 i j u v a b is)

-- what follows of the order of users follows of one with the same thread
same-after : (x u w : User) → u.thread ≡ w.thread → IsAfter x u → IsAfter x w
same-after x u w e p = record {
  other = subst (λ (t : ObjId). same x.thread t ≡ false) e p.other;
  serial = subst (λ (t : ObjId). x.thread.serial ≤ t.serial) e p.serial;
}

same-before : (u w v : User) → u.thread ≡ w.thread → IsAfter u v → IsAfter w v
same-before u w v e p = record {
  other = subst (λ (t : ObjId). same t v.thread ≡ false) e p.other;
  serial = subst (λ (t : ObjId). t.serial ≤ v.thread.serial) e p.serial;
}

all-changed : (P : User → Type 0) (us : List User) (i : ℕ) (u w : User) → (P u → P w) → slice_get us i ≡ Some u → AllByRecursion P us → AllByRecursion P (set us i w)
all-changed P [] i u w f at all = tt
all-changed P (x ∷ xs) zero u w f at all = let first : x ≡ u = search rules in (f (subst P first all.0), all.1)
all-changed P (x ∷ xs) (suc i) u w f at all = (all.0, all-changed P xs i u w f at all.1)

-- what else a user has does not count
pub order-changed : (us : List User) (i : ℕ) (u w : User) → u.thread ≡ w.thread → slice_get us i ≡ Some u → AreInOrder us → AreInOrder (set us i w)
order-changed [] i u w e at h = tt
order-changed (x ∷ xs) zero u w e at h =
    let first : x ≡ u = search rules in
    let thread : x.thread ≡ w.thread = ap (λ (y : User). y.thread) first ∙ e in
    (all-weaker (IsAfter x) (IsAfter w) (λ v p. same-before x w v thread p) xs h.0, h.1)
order-changed (x ∷ xs) (suc i) u w e at h = (all-changed (IsAfter x) xs i u w (λ p. same-after x u w e p) at h.0, order-changed xs i u w e at h.1)

-- the user in a place that was found
pub found-user : (p : User → Bool) (us : List User) (i : ℕ) → position p us ≡ Some i → (u : User) × (slice_get us i ≡ Some u)
found-user p us i found =
    let it = cond_some (nat_lt (position_or_len p us) (length us)) (position_or_len p us) i found in
    let low : position_or_len p us < length us = ltb-true (position_or_len p us) (length us) it.0 in
    go us i (omega (arith, it.1, low))
  where
    go : (vs : List User) (n : ℕ) → n < length vs → (u : User) × (slice_get vs n ≡ Some u)
    go [] n less = absurd (omega (arith, less))
    go (v ∷ vs) zero less = (v, refl)
    go (v ∷ vs) (suc n) less = go vs n (omega (arith, less))

-- what follows of a success, and of an error, follows
pub either : {A E : Type 0} (r : Result A E) (P Q S : Type 0) → (P → S) → (Q → S) → OnOk r P → OnErr r Q → S
either (Ok a) P Q S f g ok err = f ok
either (Err e) P Q S f g ok err = g err

-- the list in a place that was found goes on with an entry, or nothing changed
pub order-repeat : (p : User → Bool) (us : List User) (i number : ℕ) → AreInOrder us → position p us ≡ Some i → AreInOrder (again_at us i number)
order-repeat p us i number h found = by (found-user p us i found).0 (found-user p us i found).1
  where
    either-way : (u : User) (b : Bool) → slice_get us i ≡ Some u → AreInOrder (cond b (set us i (record u { again = Some number })) us)
    either-way u true at = order-changed us i u (record u { again = Some number }) refl at h
    either-way u false at = h

    by : (u : User) → slice_get us i ≡ Some u → AreInOrder (again_at us i number)
    by u at = subst (λ o. AreInOrder (elim o [ None ↦ us | Some v ↦ cond (nat_lt number (length v.entries)) (set us i (record v { again = Some number })) us ])) (sym at) (either-way u (nat_lt number (length u.entries)) at)

-- the list in a place that was found gets a program
pub order-programmed : (p : User → Bool) (us : List User) (i : ℕ) (os : List Op) (fs : List Fill) → AreInOrder us → position p us ≡ Some i → AreInOrder (program_at us i os fs)
order-programmed p us i os fs h found = by (found-user p us i found).0 (found-user p us i found).1
  where
    by : (u : User) → slice_get us i ≡ Some u → AreInOrder (program_at us i os fs)
    by u at = subst (λ o. AreInOrder (elim o [ None ↦ us | Some v ↦ set us i (record v { ops = os; fills = fs }) ])) (sym at) (order-changed us i u (record u { ops = os; fills = fs }) refl at h)

-- users with the same threads are in order too
all-threads : (f : User → User) → ((u : User) → (f u).thread ≡ u.thread) → (x : User) (us : List User) → AllByRecursion (IsAfter x) us → AllByRecursion (IsAfter (f x)) (map f us)
all-threads f same x [] all = tt
all-threads f same x (u ∷ us) all = (same-before x (f x) (f u) (sym (same x)) (same-after x u (f u) (sym (same u)) all.0), all-threads f same x us all.1)

pub order-threads : (f : User → User) → ((u : User) → (f u).thread ≡ u.thread) → (us : List User) → AreInOrder us → AreInOrder (map f us)
order-threads f same [] h = h
order-threads f same (u ∷ us) h = (all-threads f same u us h.0, order-threads f same us h.1)
