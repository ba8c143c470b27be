-- What a changed store finds, for callers.
use Rattle.std.proofs.Common.{◌≡◌, ◌≢◌, ◌≤◌, ◌<◌, ◌+◌, ◌&&◌, ◌||◌, ◌==◌, ℕ, suc, Bool, true, false, cond, List, [], ◌∷◌, ◌++◌, length, Option, Some, None, is_some, refl, ap, subst, sym, ◌∙◌, arith}
use Rattle.std.specs.Prelude.{IsSome, OnSome, nat_le, option_map}
use Rattle.std.proofs.lemmas.Bool.{eqb-true, eq-eqb}
use Rattle.std.proofs.lemmas.Grind.{common_steps}
use Rattle.mcs_types.specs.declared.id.ObjId.{ObjId}
use Rattle.mcs_types.specs.Ids.{kind_number, same, same_kind}
use Rattle.mcs_types.proofs.Ids.{same-equal, same_kind-equal, same_kind-self}
use Rattle.mcs_objects.specs.Store.{Object, Objects, object_in, object_at, value_of, place_of, value_at, place_at, serial_at, id_at, has_place, next_id, shape, one_more, IsOneFewer, Adds, without, removed, written, with_value, AreApart, IsMap, WasGiven}

pub empty-full : (n room given : ℕ) → n ≤ room → ((n == room) || (given == 4294967295)) ≡ false → (n < room) × (given ≢ 4294967295)
empty-full n room given le h = (grind (arith, common_steps), grind (arith, common_steps))

pub below-room : (n room given : ℕ) → n < room → (given == 4294967295) ≡ ((n == room) || (given == 4294967295))
below-room n room given lt = grind (arith, common_steps)

pub at-room : (n l room given : ℕ) → l ≡ n → room ≤ l → n ≤ room → nat_le room l ≡ ((n == room) || (given == 4294967295))
at-room n l room given e le few = grind (arith, common_steps)

module _ {T : Type 0} where
  -- no serial was given beyond, and none is before the first
  pub object_in-beyond : (room given last n : ℕ) (os : List (Object T)) → AreApart room given last os → given < n → object_in os n ≡ None
  object_in-beyond room given last n [] h lt = refl
  object_in-beyond room given last n (o ∷ os) h lt = let ih = object_in-beyond room given o.serial n os h.4 lt in let le = h.1 in grind (arith, common_steps, ih, le)

  pub object_in-before : (room given last n : ℕ) (os : List (Object T)) → AreApart room given last os → n ≤ last → object_in os n ≡ None
  object_in-before room given last n [] h le = refl
  object_in-before room given last n (o ∷ os) h le = let ih = object_in-before room given o.serial n os h.4 (omega (arith, h.0)) in let lt = h.0 in grind (arith, common_steps, ih, lt)

  pub object_in-append : (o : Object T) (n : ℕ) (os : List (Object T)) → object_in os o.serial ≡ None → object_in (os ++ o ∷ []) n ≡ cond (n == o.serial) (Some o) (object_in os n)
  object_in-append o n [] none = grind (arith, common_steps)
  object_in-append o n (v ∷ vs) none =
      let ne : v.serial ≢ o.serial = grind (arith, common_steps, none) in
      let rest : object_in vs o.serial ≡ None = grind (arith, common_steps, none) in
      let ih = object_in-append o n vs rest in
      grind (arith, common_steps, ih, ne)

  pub object_in-without : (room given last n m : ℕ) (os : List (Object T)) → AreApart room given last os → object_in (without n os) m ≡ cond (m == n) None (object_in os m)
  object_in-without room given last n m [] h = grind (arith, common_steps)
  object_in-without room given last n m (o ∷ os) h =
      let ih = object_in-without room given o.serial n m os h.4 in
      let first = object_in-before room given o.serial o.serial os h.4 (omega arith) in
      grind (arith, common_steps, ih, first)

  -- the object with another value
  abbrev pub replaced : T → Option (Object T) → Option (Object T)
  replaced w None = None
  replaced w (Some o) = Some (record o { value = w })

  pub object_in-written : (n m : ℕ) (w : T) (os : List (Object T)) → object_in (written n w os) m ≡ cond (m == n) (replaced w (object_in os m)) (object_in os m)
  object_in-written n m w [] = grind (arith, common_steps)
  object_in-written n m w (o ∷ os) = let ih = object_in-written n m w os in grind (arith, common_steps, ih)

  added-cond : (a b : Bool) (x old : Option (Object T)) → cond a (cond b x old) None ≡ cond (a && b) x (cond a old None)
  added-cond true true x old = refl
  added-cond true false x old = refl
  added-cond false b x old = refl

  -- only the new id finds another object
  pub object_at-added : (s new : Objects T) (v : T) (id : ObjId) → IsMap s → (more : Adds s new v) → object_at new id ≡ cond (same id (next_id s)) (Some (record { serial = s.given + 1; place = more.place; value = v })) (object_at s id)
  object_at-added s new v id map more =
      let o : Object T = record { serial = s.given + 1; place = more.place; value = v } in
      let none = object_in-beyond s.room s.given 0 (s.given + 1) s.list map.apart (omega arith) in
      rw (more.is, object_in-append o id.serial s.list none) (added-cond (same_kind id.kind s.kind) (id.serial == s.given + 1) (Some o) (object_in s.list id.serial))

  none-cond : (d b : Bool) (x : Option (Object T)) → cond d (cond b None None) x ≡ cond d None x
  none-cond true true x = refl
  none-cond true false x = refl
  none-cond false b x = refl

  replaced-cond : (w : T) (b : Bool) (x : Option (Object T)) → cond b (replaced w x) None ≡ replaced w (cond b x None)
  replaced-cond w true x = refl
  replaced-cond w false x = refl

  at-kind : (b : Bool) (s later : Objects T) (o : ObjId) → object_at (cond b later s) o ≡ cond b (object_at later o) (object_at s o)
  at-kind true s later o = refl
  at-kind false s later o = refl

  changed-cond : (i k m : ℕ) (e : Bool) (x y : Option (Object T)) → cond (i == k) (cond (m == k) (cond e y x) None) (cond (m == k) x None) ≡ cond ((m == i) && e) (cond (m == k) y None) (cond (m == k) x None)
  changed-cond i k m e x y = grind (arith, common_steps)

  -- only the removed id finds nothing, and an id that finds nothing removes nothing
  pub object_at-removed : (s : Objects T) (id o : ObjId) → IsMap s → object_at (removed s id) o ≡ cond (same o id) None (object_at s o)
  object_at-removed s id o map =
      let l = object_in-without s.room s.given 0 id.serial o.serial s.list map.apart in
      at-kind (same_kind id.kind s.kind) s (record s { list = without id.serial s.list }) o
      ∙ ap (λ (x : Option (Object T)). cond (same_kind id.kind s.kind) (cond (same_kind o.kind s.kind) x None) (object_at s o)) l
      ∙ changed-cond (kind_number id.kind) (kind_number s.kind) (kind_number o.kind) (o.serial == id.serial) (object_in s.list o.serial) None
      ∙ none-cond (same o id) (same_kind o.kind s.kind) (object_at s o)

  -- only the written id finds another value, at its place
  pub object_at-with_value : (s : Objects T) (id o : ObjId) (w : T) → object_at (with_value s id w) o ≡ cond (same o id) (replaced w (object_at s o)) (object_at s o)
  object_at-with_value s id o w =
      let l = object_in-written id.serial o.serial w s.list in
      at-kind (same_kind id.kind s.kind) s (record s { list = written id.serial w s.list }) o
      ∙ ap (λ (x : Option (Object T)). cond (same_kind id.kind s.kind) (cond (same_kind o.kind s.kind) x None) (object_at s o)) l
      ∙ changed-cond (kind_number id.kind) (kind_number s.kind) (kind_number o.kind) (o.serial == id.serial) (object_in s.list o.serial) (replaced w (object_in s.list o.serial))
      ∙ ap (λ (x : Option (Object T)). cond (same o id) x (object_at s o)) (replaced-cond w (same_kind o.kind s.kind) (object_in s.list o.serial))

  -- what is read of one of two objects
  read-cond : {X : Type 0} (f : Option (Object T) → X) (b : Bool) (x y : Option (Object T)) → f (cond b x y) ≡ cond b (f x) (f y)
  read-cond f true x y = refl
  read-cond f false x y = refl

  -- after one more was made
  pub value-added : (s new : Objects T) (v : T) (x : ObjId) → IsMap s → Adds s new v → value_at new x ≡ cond (same x (next_id s)) (Some v) (value_at s x)
  value-added s new v x map more = ap value_of (object_at-added s new v x map more) ∙ read-cond value_of (same x (next_id s)) _ (object_at s x)

  pub place-added : (s new : Objects T) (v : T) (x : ObjId) → IsMap s → Adds s new v → same x (next_id s) ≡ false → place_at new x ≡ place_at s x
  place-added s new v x map more other = let e = object_at-added s new v x map more in ap place_of e ∙ rw other refl

  -- after one was taken out
  pub value-removed : (s : Objects T) (id x : ObjId) → IsMap s → value_at (removed s id) x ≡ cond (same x id) None (value_at s x)
  value-removed s id x map = ap value_of (object_at-removed s id x map) ∙ read-cond value_of (same x id) None (object_at s x)

  pub place-removed : (s : Objects T) (id x : ObjId) → IsMap s → place_at (removed s id) x ≡ cond (same x id) None (place_at s x)
  place-removed s id x map = ap place_of (object_at-removed s id x map) ∙ read-cond place_of (same x id) None (object_at s x)

  length-without : (n : ℕ) (v : T) (os : List (Object T)) → Some v ≡ value_of (object_in os n) → length (without n os) + 1 ≡ length os
  length-without n v [] h = absurd (cc)
  length-without n v (o ∷ os) h = go (length-without n v os) (o.serial == n) h
    where
      go : (Some v ≡ value_of (object_in os n) → length (without n os) + 1 ≡ length os) → (b : Bool) → Some v ≡ value_of (cond b (Some o) (object_in os n)) → length (cond b os (o ∷ without n os)) + 1 ≡ length (o ∷ os)
      go rest true e = omega arith
      go rest false e = let k = rest e in omega (arith, k)

  pub shape-removed : (s : Objects T) (id : ObjId) (r : Option T) → r ≡ value_at s id → OnSome r (IsOneFewer (shape s) (shape (removed s id)))
  shape-removed s id None h = tt
  shape-removed s id (Some v) h = go (same_kind id.kind s.kind) h
    where
      counted : Some v ≡ value_of (object_in s.list id.serial) → length (without id.serial s.list) + 1 ≡ length s.list
      counted = length-without id.serial v s.list

      go : (b : Bool) → Some v ≡ value_of (cond b (object_in s.list id.serial) None) → one_more (shape (cond b (record s { list = without id.serial s.list }) s)) ≡ record (shape s) { given = s.given + 1 }
      go true e = ap (λ n. record (shape s) { given = s.given + 1; there = n }) (counted e)
      go false e = absurd (cc)

  -- after a value was written
  has-replaced : (w : T) (o : Option (Object T)) → IsSome (value_of o) → value_of (replaced w o) ≡ Some w
  has-replaced w None h = absurd (cc)
  has-replaced w (Some o) h = refl

  same-place : (w : T) (b : Bool) (o : Option (Object T)) → place_of (cond b (replaced w o) o) ≡ place_of o
  same-place w true None = refl
  same-place w true (Some o) = refl
  same-place w false o = refl

  pub value-written : (s : Objects T) (id x : ObjId) (w : T) → IsSome (value_at s id) → value_at (with_value s id w) x ≡ cond (same x id) (Some w) (value_at s x)
  value-written s id x w there = ap value_of (object_at-with_value s id x w) ∙ go (same x id) refl
    where
      go : (b : Bool) → same x id ≡ b → value_of (cond b (replaced w (object_at s x)) (object_at s x)) ≡ cond b (Some w) (value_at s x)
      go true e = let k = same-equal x id e in has-replaced w (object_at s x) (rw k there)
      go false e = refl

  pub place-written : (s : Objects T) (id x : ObjId) (w : T) → place_at (with_value s id w) x ≡ place_at s x
  place-written s id x w = ap place_of (object_at-with_value s id x w) ∙ same-place w (same x id) (object_at s x)

  length-written : (n : ℕ) (w : T) (os : List (Object T)) → length (written n w os) ≡ length os
  length-written n w [] = refl
  length-written n w (o ∷ os) = go (length-written n w os) (o.serial == n)
    where
      go : length (written n w os) ≡ length os → (b : Bool) → length (cond b (record o { value = w } ∷ os) (o ∷ written n w os)) ≡ length (o ∷ os)
      go rest true = refl
      go rest false = ap suc rest

  pub shape-written : (s : Objects T) (id : ObjId) (w : T) → shape (with_value s id w) ≡ shape s
  shape-written s id w = go (same_kind id.kind s.kind)
    where
      counted : length (written id.serial w s.list) ≡ length s.list
      counted = length-written id.serial w s.list

      go : (b : Bool) → shape (cond b (record s { list = written id.serial w s.list }) s) ≡ shape s
      go true = ap (λ n. record (shape s) { there = n }) counted
      go false = refl

  -- places are below the room and different, and of a given serial
  place-below : (room given last n p : ℕ) (os : List (Object T)) → AreApart room given last os → place_of (object_in os n) ≡ Some p → (p < room) × (last < n) × (n ≤ given) × (has_place p os ≡ true)
  place-below room given last n p [] a h = absurd (cc)
  place-below room given last n p (o ∷ os) a h = go (place-below room given o.serial n p os a.4) (o.serial == n) refl h
    where
      go : (place_of (object_in os n) ≡ Some p → (p < room) × (o.serial < n) × (n ≤ given) × (has_place p os ≡ true)) → (b : Bool) → (o.serial == n) ≡ b → place_of (cond b (Some o) (object_in os n)) ≡ Some p → (p < room) × (last < n) × (n ≤ given) × (has_place p (o ∷ os) ≡ true)
      go rest true e k =
          let same_place : o.place ≡ p = cc in
          let first = a.0 in
          let second = a.1 in
          let third = a.2 in
          (omega (arith, same_place, third), grind (arith, common_steps, e, first), grind (arith, common_steps, e, second), grind (arith, common_steps, same_place))
      go rest false e k = let r = rest k in let first = a.0 in let here = r.3 in (r.0, omega (arith, r.1, first), r.2, grind (arith, common_steps, here))

  one-place : (room given last n m p : ℕ) (os : List (Object T)) → AreApart room given last os → place_of (object_in os n) ≡ Some p → place_of (object_in os m) ≡ Some p → n ≡ m
  one-place room given last n m p [] a h k = absurd (cc)
  one-place room given last n m p (o ∷ os) a h k = go (one-place room given o.serial n m p os a.4) (o.serial == n) (o.serial == m) refl refl h k
    where
      twice : (l : ℕ) → o.place ≡ p → place_of (object_in os l) ≡ Some p → ⊥
      twice l e f = let has = (place-below room given o.serial l p os a.4 f).3 in let none = a.3 in let no : true ≡ false = sym has ∙ ap (λ q. has_place q os) (sym e) ∙ none in absurd (cc)

      go : (place_of (object_in os n) ≡ Some p → place_of (object_in os m) ≡ Some p → n ≡ m) → (b c : Bool) → (o.serial == n) ≡ b → (o.serial == m) ≡ c → place_of (cond b (Some o) (object_in os n)) ≡ Some p → place_of (cond c (Some o) (object_in os m)) ≡ Some p → n ≡ m
      go rest true true e f u v = grind (arith, common_steps, e, f)
      go rest true false e f u v = absurd (twice m (cc) v)
      go rest false true e f u v = absurd (twice n (cc) u)
      go rest false false e f u v = rest u v

  at-some : {X : Type 0} (f : Option (Object T) → Option X) (b : Bool) (o : Option (Object T)) (p : X) → f None ≡ None → f (cond b o None) ≡ Some p → (b ≡ true) × (f o ≡ Some p)
  at-some f true o p n h = (refl, h)
  at-some f false o p n h = absurd (cc)

  pub place-room : (s : Objects T) → IsMap s → (x : ObjId) (p : ℕ) → place_at s x ≡ Some p → p < s.room
  place-room s map x p h = (place-below s.room s.given 0 x.serial p s.list map.apart (at-some place_of (same_kind x.kind s.kind) (object_in s.list x.serial) p refl h).1).0

  pub place-apart : (s : Objects T) → IsMap s → (x y : ObjId) (p : ℕ) → place_at s x ≡ Some p → place_at s y ≡ Some p → x ≡ y
  place-apart s map x y p h k =
      let a = at-some place_of (same_kind x.kind s.kind) (object_in s.list x.serial) p refl h in
      let b = at-some place_of (same_kind y.kind s.kind) (object_in s.list y.serial) p refl k in
      let serials = one-place s.room s.given 0 x.serial y.serial p s.list map.apart a.1 b.1 in
      let kinds = same_kind-equal x.kind s.kind a.0 ∙ sym (same_kind-equal y.kind s.kind b.0) in
      λ i. record { kind = kinds i; serial = serials i }

  owner-at : (room given last n p : ℕ) (os : List (Object T)) → AreApart room given last os → place_of (object_in os n) ≡ Some p → serial_at p os ≡ Some n
  owner-at room given last n p [] a h = absurd (cc)
  owner-at room given last n p (o ∷ os) a h = go (owner-at room given o.serial n p os a.4) (o.serial == n) refl h
    where
      go : (place_of (object_in os n) ≡ Some p → serial_at p os ≡ Some n) → (b : Bool) → (o.serial == n) ≡ b → place_of (cond b (Some o) (object_in os n)) ≡ Some p → cond (o.place == p) (Some o.serial) (serial_at p os) ≡ Some n
      go rest true e k = let here : o.place ≡ p = cc in let n_is : o.serial ≡ n = eqb-true o.serial n e in rw (eq-eqb o.place p here, n_is) refl
      go rest false e k =
          let has = (place-below room given o.serial n p os a.4 k).3 in
          let none = a.3 in
          other (o.place == p) refl
        where
          other : (c : Bool) → (o.place == p) ≡ c → cond c (Some o.serial) (serial_at p os) ≡ Some n
          other true f = let here = eqb-true o.place p f in let no : true ≡ false = sym (place-below room given o.serial n p os a.4 k).3 ∙ ap (λ q. has_place q os) (sym here) ∙ a.3 in absurd (cc)
          other false f = rest k

  owned-at : (room given last n p : ℕ) (os : List (Object T)) → AreApart room given last os → serial_at p os ≡ Some n → place_of (object_in os n) ≡ Some p
  owned-at room given last n p [] a h = absurd (cc)
  owned-at room given last n p (o ∷ os) a h = go (owned-at room given o.serial n p os a.4) (o.place == p) refl h
    where
      go : (serial_at p os ≡ Some n → place_of (object_in os n) ≡ Some p) → (b : Bool) → (o.place == p) ≡ b → cond b (Some o.serial) (serial_at p os) ≡ Some n → place_of (cond (o.serial == n) (Some o) (object_in os n)) ≡ Some p
      go rest true e k = let here : o.serial ≡ n = cc in let p_is : o.place ≡ p = eqb-true o.place p e in rw (eq-eqb o.serial n here) (ap (λ q. Some q) p_is)
      go rest false e k =
          let found = rest k in
          let above = (place-below room given o.serial n p os a.4 found).1 in
          let differ : (o.serial == n) ≡ false = grind (arith, common_steps, above) in
          rw differ found

  -- a place tells its object
  pub place-owner : (s : Objects T) → IsMap s → (x : ObjId) (p : ℕ) → place_at s x ≡ Some p → id_at s p ≡ Some x
  place-owner s map x p h =
      let a = at-some place_of (same_kind x.kind s.kind) (object_in s.list x.serial) p refl h in
      let e = owner-at s.room s.given 0 x.serial p s.list map.apart a.1 in
      let kind = same_kind-equal x.kind s.kind a.0 in
      let it : record { kind = s.kind; serial = x.serial } ≡ x = λ i. record { kind = sym kind i; serial = x.serial } in
      ap (option_map (λ n. record { kind = s.kind; serial = n })) e ∙ ap (λ y. Some y) it

  pub place-owned : (s : Objects T) → IsMap s → (x : ObjId) (p : ℕ) → id_at s p ≡ Some x → place_at s x ≡ Some p
  place-owned s map x p h = go (serial_at p s.list) refl h
    where
      go : (o : Option ℕ) → serial_at p s.list ≡ o → option_map (λ n. record { kind = s.kind; serial = n }) o ≡ Some x → place_at s x ≡ Some p
      go None e k = absurd (cc)
      go (Some n) e k =
          let it : record { kind = s.kind; serial = n } ≡ x = cc in
          let found = owned-at s.room s.given 0 n p s.list map.apart e in
          subst (λ y. place_at s y ≡ Some p) it (rw (same_kind-self s.kind) found)

  placed : (o : Option (Object T)) → is_some (place_of o) ≡ is_some (value_of o)
  placed None = refl
  placed (Some o) = refl

  pub place-value : (s : Objects T) (x : ObjId) → is_some (place_at s x) ≡ is_some (value_at s x)
  place-value s x = placed (object_at s x)

  some-place : (o : Option (Object T)) → IsSome (value_of o) → (p : ℕ) × (place_of o ≡ Some p)
  some-place None h = absurd (cc)
  some-place (Some o) h = (o.place, refl)

  pub value-given : (s : Objects T) → IsMap s → (x : ObjId) → IsSome (value_at s x) → WasGiven s x
  value-given s map x h =
      let p = some-place (object_at s x) h in
      let a = at-some place_of (same_kind x.kind s.kind) (object_in s.list x.serial) p.0 refl p.1 in
      let b = place-below s.room s.given 0 x.serial p.0 s.list map.apart a.1 in
      let low = b.1 in
      record { kind = same_kind-equal x.kind s.kind a.0; low = omega (arith, low); high = b.2 }
