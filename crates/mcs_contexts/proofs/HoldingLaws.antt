-- Holding stays one to one.
use Rattle.std.proofs.Common.{◌≡◌, ◌<◌, ◌+◌, ◌-◌, ℕ, zero, suc, Bool, true, false, cond, List, [], ◌∷◌, length, get_or, Option, Some, None, refl, ap, sym, ◌∙◌, arith}
use Rattle.std.specs.Prelude.{IsSome, option_map, option_and_then}
use Rattle.std.proofs.lemmas.Grind.{common_steps}
use Rattle.mcs_types.specs.declared.id.ObjId.{ObjId}
use Rattle.mcs_types.specs.declared.id.CoreId.{CoreId}
use Rattle.mcs_types.specs.declared.id.Kind.{Kind}
use Rattle.mcs_types.specs.declared.id.Kind.TheVariants.{Thread}
use Rattle.mcs_types.specs.Ids.{IsThread, place_of, same, is_just, value_after}
use Rattle.mcs_types.proofs.Ids.{parts, same_kind-equal, same-self, same-equal, same-other}
use Rattle.mcs_objects.specs.Store.{Objects, WasGiven, next_id, value_at, with_value}
use Rattle.mcs_objects.proofs.MapLaws.{value-written}
use Rattle.mcs_objects.specs.Places.{kept_in, HasPlace}
use Rattle.mcs_contexts.specs.declared.contexts.ContextRow.{ContextRow}
use Rattle.mcs_contexts.specs.Holding.{Holding, counts, core_at, holder_at, home_at, core_in, holder_in, context_in, holds, IsOneToOne, IsHolding}

-- one half of being one to one, as two of its maps change in one place
pub half-bound : (H C K D : ObjId → Option ObjId) (s t : ObjId) → ((a b : ObjId) → H a ≡ Some b → C b ≡ Some a) → C t ≡ None
    → ((x : ObjId) → K x ≡ cond (same x s) (Some t) (H x)) → ((x : ObjId) → D x ≡ cond (same x t) (Some s) (C x)) → (a b : ObjId) → K a ≡ Some b → D b ≡ Some a
half-bound H C K D s t pairs idle new_h new_c a b held = go (same a s) (same b t) refl refl (sym (new_h a) ∙ held)
  where
    go : (p q : Bool) → same a s ≡ p → same b t ≡ q → cond p (Some t) (H a) ≡ Some b → D b ≡ Some a
    go true true e f h = new_c b ∙ rw f (let k = same-equal a s e in cc)
    go true false e f h = let k : t ≡ b = cc in let l = same-self b in absurd (let j : same b t ≡ true = rw k l in cc)
    go false true e f h = let k = same-equal b t f in let l = pairs a b h in absurd (let j : C b ≡ None = rw k idle in cc)
    go false false e f h = new_c b ∙ rw f (pairs a b h)

-- the same, where a pair is taken away
pub half-freed : (H C K D : ObjId → Option ObjId) (s t : ObjId) → ((a b : ObjId) → H a ≡ Some b → C b ≡ Some a) → C t ≡ Some s
    → ((x : ObjId) → K x ≡ cond (same x s) None (H x)) → ((x : ObjId) → D x ≡ cond (same x t) None (C x)) → (a b : ObjId) → K a ≡ Some b → D b ≡ Some a
half-freed H C K D s t pairs had new_h new_c a b held = go (same a s) (same b t) refl refl (sym (new_h a) ∙ held)
  where
    go : (p q : Bool) → same a s ≡ p → same b t ≡ q → cond p None (H a) ≡ Some b → D b ≡ Some a
    go true q e f h = absurd (cc)
    go false true e f h = let k = same-equal b t f in let l = pairs a b h in let m : C b ≡ Some s = rw k had in let n : s ≡ a = cc in let o = same-self a in absurd (let j : same a s ≡ true = rw n o in cc)
    go false false e f h = new_c b ∙ rw f (pairs a b h)

-- holding stays one to one where a pair is added, taken away, or nothing changes
pub bound : (v w : Holding) (s t : ObjId) → IsOneToOne v → holder_in v s ≡ None → context_in v t ≡ None
    → ((x : ObjId) → holder_in w x ≡ cond (same x s) (Some t) (holder_in v x)) → ((x : ObjId) → context_in w x ≡ cond (same x t) (Some s) (context_in v x)) → IsOneToOne w
bound v w s t one free idle new_h new_c = record {
  holder_holds = half-bound (holder_in v) (context_in v) (holder_in w) (context_in w) s t one.holder_holds idle new_h new_c;
  held_by_holder = λ a b. half-bound (context_in v) (holder_in v) (context_in w) (holder_in w) t s (λ c d. one.held_by_holder d c) free new_c new_h b a;
}

pub freed : (v w : Holding) (s t : ObjId) → IsOneToOne v → holder_in v s ≡ Some t
    → ((x : ObjId) → holder_in w x ≡ cond (same x s) None (holder_in v x)) → ((x : ObjId) → context_in w x ≡ cond (same x t) None (context_in v x)) → IsOneToOne w
freed v w s t one held new_h new_c = record {
  holder_holds = half-freed (holder_in v) (context_in v) (holder_in w) (context_in w) s t one.holder_holds (one.holder_holds s t held) new_h new_c;
  held_by_holder = λ a b. half-freed (context_in v) (holder_in v) (context_in w) (holder_in w) t s (λ c d. one.held_by_holder d c) held new_c new_h b a;
}

-- one of its maps, with nothing at one place
abbrev but : (ObjId → Option ObjId) → ObjId → ObjId → Option ObjId
but K s x = cond (same x s) None (K x)

-- and where the context of one thread goes to another
pub handed-on : (v w : Holding) (s f t : ObjId) → IsOneToOne v → holder_in v s ≡ Some f → context_in v t ≡ None
    → ((x : ObjId) → holder_in w x ≡ cond (same x s) (Some t) (holder_in v x))
    → ((x : ObjId) → context_in w x ≡ cond (same x t) (Some s) (cond (same x f) None (context_in v x))) → IsOneToOne w
handed-on v w s f t one held idle new_h new_c =
    let pairs = half-freed (holder_in v) (context_in v) (but (holder_in v) s) (but (context_in v) f) s f one.holder_holds (one.holder_holds s f held) (λ x. refl) (λ x. refl) in
    let back = half-freed (context_in v) (holder_in v) (but (context_in v) f) (but (holder_in v) s) f s (λ c d. one.held_by_holder d c) held (λ x. refl) (λ x. refl) in
    record {
      holder_holds = half-bound (but (holder_in v) s) (but (context_in v) f) (holder_in w) (context_in w) s t pairs (none (same t f)) (λ x. new_h x ∙ again (same x s) (holder_in v x)) new_c;
      held_by_holder = λ a b. half-bound (but (context_in v) f) (but (holder_in v) s) (context_in w) (holder_in w) t s back (ap (λ b. cond b None (holder_in v s)) (same-self s)) new_c (λ x. new_h x ∙ again (same x s) (holder_in v x)) b a;
    }
  where
    none : (b : Bool) → cond b None (context_in v t) ≡ None
    none true = refl
    none false = idle

    again : (b : Bool) (o : Option ObjId) → cond b (Some t) o ≡ cond b (Some t) (cond b None o)
    again true o = refl
    again false o = refl

pub kept : (v w : Holding) → IsOneToOne v → ((x : ObjId) → holder_in w x ≡ holder_in v x) → ((x : ObjId) → context_in w x ≡ context_in v x) → IsOneToOne w
kept v w one h c = record {
  holder_holds = λ s t p. c t ∙ one.holder_holds s t (sym (h s) ∙ p);
  held_by_holder = λ s t p. h s ∙ one.held_by_holder s t (sym (c t) ∙ p);
}

-- where no context is made or closed and no place comes or goes, one to one is all that is owed
pub still-holding : (v w : Holding) → IsHolding v → counts w ≡ counts v → length w.held ≡ length v.held → IsOneToOne w → IsHolding w
still-holding v w all same_counts same_places one = record {
  room = ap (λ n. n.room) same_counts ∙ all.room;
  kind = ap (λ n. n.kind) same_counts ∙ all.kind;
  places = same_places ∙ all.places;
  one_to_one = one;
}

-- what is held is there, and its holder is a thread of a serial from 1 to 256
pub held-there : (v : Holding) (s t : ObjId) → holder_in v s ≡ Some t → IsSome (core_in v s)
held-there v s t h = go (value_at v.rows s) h
  where
    go : (o : Option ContextRow) → option_and_then (λ r. r.holder) o ≡ Some t → IsSome (option_map (λ r. r.core) o)
    go None k = absurd (cc)
    go (Some r) k = refl

held-within : (ids : List (Option ObjId)) (n : ℕ) (t : ObjId) → get_or ids n None ≡ Some t → n < length ids
held-within [] n t h = absurd (cc)
held-within (x ∷ xs) zero t h = omega arith
held-within (x ∷ xs) (suc n) t h = let lt = held-within xs n t h in omega (arith, lt)

cond-some : (b : Bool) (m n : ℕ) → cond b (Some m) None ≡ Some n → (b ≡ true) × (m ≡ n)
cond-some true m n h = (refl, cc)
cond-some false m n h = absurd (cc)

index-some : (k : Kind) (x : ObjId) (n : ℕ) → place_of k x ≡ Some n → (x.kind ≡ k) × (x.serial ≡ n + 1)
index-some k x n h =
    let a = cond-some _ _ n h in
    let p = parts _ _ a.0 in
    let kinds = p.0 in
    let first = p.1 in
    let number = a.1 in
    (same_kind-equal x.kind k kinds, grind (arith, common_steps, first, number))

pub holder-thread : (v : Holding) (s t : ObjId) → IsHolding v → holder_in v s ≡ Some t → IsThread t
holder-thread v s t all h = go (place_of Thread t) refl (all.one_to_one.holder_holds s t h)
  where
    go : (i : Option ℕ) → place_of Thread t ≡ i → kept_in v.held i ≡ Some s → IsThread t
    go None e k = absurd (cc)
    go (Some n) e k =
        let a = index-some Thread t n e in
        let serial = a.1 in
        let lt = held-within v.held n s k in
        let few = all.places in
        (a.0, omega (arith, serial), omega (arith, serial, lt, few))

-- a thread of such a serial has its place
pub thread-place : (v : Holding) (t : ObjId) → IsHolding v → IsThread t → HasPlace Thread v.held t
thread-place v t all h =
    let k = h.0 in
    let n = h.1 in
    let m = h.2 in
    let few = all.places in
    let e : place_of Thread t ≡ Some (t.serial - 1) = grind (arith, common_steps, k, n) in
    rw e (omega (arith, n, m, few))

pub one-context : (v : Holding) → IsHolding v → (s u t : ObjId) → holder_in v s ≡ Some t → holder_in v u ≡ Some t → s ≡ u
one-context v all s u t h k = let a = all.one_to_one.holder_holds s t h in let b = all.one_to_one.holder_holds u t k in cc

-- the threads that hold a context are its holder alone
pub holds-holder : (v : Holding) (s t : ObjId) → IsOneToOne v → holder_in v s ≡ Some t → (x : ObjId) → holds v x s ≡ same x t
holds-holder v s t one h x = go (context_in v x) refl
  where
    known : context_in v t ≡ Some s
    known = one.holder_holds s t h

    go : (o : Option ObjId) → context_in v x ≡ o → is_just o s ≡ same x t
    go None e = sym (same-other x t (λ p. let q : context_in v x ≡ Some s = rw p known in absurd (cc)))
    go (Some u) e = again (same u s) refl
      where
        again : (b : Bool) → same u s ≡ b → b ≡ same x t
        again true f = let a = same-equal u s f in let k : context_in v x ≡ Some s = cc in let l = one.held_by_holder s x k in let m : t ≡ x = cc in rw m (sym (same-self x))
        again false f = sym (same-other x t (λ p. let q : context_in v x ≡ Some s = rw p known in let a : s ≡ u = cc in let b = same-self u in absurd (let j : same u s ≡ true = rw a b in cc)))

-- who holds what, after a context was made that no thread holds
pub unheld : (old new : Objects ContextRow) (id : ObjId) (core : CoreId) → ((x : ObjId) → IsSome (value_at old x) → WasGiven old x) → id ≡ next_id old
    → ((x : ObjId) → value_at new x ≡ cond (same x id) (Some (record { core = core; holder = None; home = None })) (value_at old x)) → (x : ObjId) → holder_at new x ≡ holder_at old x
unheld old new id core given is made x = ap (λ r. option_and_then (λ (r : ContextRow). r.holder) r) (made x) ∙ go (same x id) (value_at old x) refl refl
  where
    go : (b : Bool) (o : Option ContextRow) → same x id ≡ b → value_at old x ≡ o → option_and_then (λ (r : ContextRow). r.holder) (cond b (Some (record { core = core; holder = None; home = None })) o) ≡ option_and_then (λ (r : ContextRow). r.holder) o
    go false o e f = refl
    go true None e f = refl
    go true (Some r) e f =
        let here = same-equal x id e in
        let there : IsSome (value_at old x) = rw f refl in
        let high = (given x there).high in
        let number = ap (λ (y : ObjId). y.serial) (here ∙ is) in
        absurd (omega (arith, high, number))

-- a row is written over that of a context: its holder is that of the row, and its core as it was
-- where both have it
pub holder_written : (s : Objects ContextRow) (id x : ObjId) (r : ContextRow) → IsSome (value_at s id) → holder_at (with_value s id r) x ≡ value_after x id r.holder (holder_at s x)
holder_written s id x r there = ap (option_and_then (λ k. k.holder)) (value-written s id x r there) ∙ go (same x id)
  where
    go : (b : Bool) → option_and_then (λ k. k.holder) (cond b (Some r) (value_at s x)) ≡ cond b r.holder (holder_at s x)
    go true = refl
    go false = refl

pub core_written : (s : Objects ContextRow) (id x : ObjId) (was r : ContextRow) → value_at s id ≡ Some was → was.core ≡ r.core → core_at (with_value s id r) x ≡ core_at s x
core_written s id x was r there same_core = ap (option_map (λ k. k.core)) (value-written s id x r (rw there refl)) ∙ go (same x id) refl
  where
    go : (b : Bool) → same x id ≡ b → option_map (λ k. k.core) (cond b (Some r) (value_at s x)) ≡ core_at s x
    go true e = let at = same-equal x id e in rw (at, there) (ap Some (sym same_core))
    go false e = refl

-- where contexts are homed, after one was made that is homed nowhere
pub unhomed : (old new : Objects ContextRow) (id : ObjId) (core : CoreId) → ((x : ObjId) → IsSome (value_at old x) → WasGiven old x) → id ≡ next_id old
    → ((x : ObjId) → value_at new x ≡ cond (same x id) (Some (record { core = core; holder = None; home = None })) (value_at old x)) → (x : ObjId) → home_at new x ≡ home_at old x
unhomed old new id core given is made x = ap (λ r. option_and_then (λ (r : ContextRow). r.home) r) (made x) ∙ go (same x id) (value_at old x) refl refl
  where
    go : (b : Bool) (o : Option ContextRow) → same x id ≡ b → value_at old x ≡ o → option_and_then (λ (r : ContextRow). r.home) (cond b (Some (record { core = core; holder = None; home = None })) o) ≡ option_and_then (λ (r : ContextRow). r.home) o
    go false o e f = refl
    go true None e f = refl
    go true (Some r) e f =
        let here = same-equal x id e in
        let there : IsSome (value_at old x) = rw f refl in
        let high = (given x there).high in
        let number = ap (λ (y : ObjId). y.serial) (here ∙ is) in
        absurd (omega (arith, high, number))

-- a row is written over that of a context: its home is that of the row, and its holder or home as
-- it was where both have it
pub home_written : (s : Objects ContextRow) (id x : ObjId) (r : ContextRow) → IsSome (value_at s id) → home_at (with_value s id r) x ≡ value_after x id r.home (home_at s x)
home_written s id x r there = ap (option_and_then (λ k. k.home)) (value-written s id x r there) ∙ go (same x id)
  where
    go : (b : Bool) → option_and_then (λ k. k.home) (cond b (Some r) (value_at s x)) ≡ cond b r.home (home_at s x)
    go true = refl
    go false = refl

pub holder_same : (s : Objects ContextRow) (id x : ObjId) (was r : ContextRow) → value_at s id ≡ Some was → was.holder ≡ r.holder → holder_at (with_value s id r) x ≡ holder_at s x
holder_same s id x was r there same_holder = ap (option_and_then (λ k. k.holder)) (value-written s id x r (rw there refl)) ∙ go (same x id) refl
  where
    go : (b : Bool) → same x id ≡ b → option_and_then (λ k. k.holder) (cond b (Some r) (value_at s x)) ≡ holder_at s x
    go true e = let at = same-equal x id e in rw (at, there) (sym same_holder)
    go false e = refl

pub home_same : (s : Objects ContextRow) (id x : ObjId) (was r : ContextRow) → value_at s id ≡ Some was → was.home ≡ r.home → home_at (with_value s id r) x ≡ home_at s x
home_same s id x was r there same_home = ap (option_and_then (λ k. k.home)) (value-written s id x r (rw there refl)) ∙ go (same x id) refl
  where
    go : (b : Bool) → same x id ≡ b → option_and_then (λ k. k.home) (cond b (Some r) (value_at s x)) ≡ home_at s x
    go true e = let at = same-equal x id e in rw (at, there) (sym same_home)
    go false e = refl
