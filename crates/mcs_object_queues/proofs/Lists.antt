-- Lists of waiters, by numbers and by ids.
use Rattle.std.specs.Prelude.{ℕ, ◌≡◌, ◌+◌, ◌-◌, ◌≤◌, ◌<◌, ◌&&◌, ◌||◌, ◌==◌, nat_le, nat_lt, Bool, true, false, cond, List, [], ◌∷◌, map, Option, Some, None, option_map}
use Rattle.std.proofs.Common.{refl, ap, sym, ◌∙◌, arith}
use Rattle.std.proofs.lemmas.Grind.{common_steps}
use Rattle.mcs_types.specs.declared.id.ObjId.{ObjId}
use Rattle.mcs_types.specs.declared.id.Kind.TheVariants.{Thread}
use Rattle.mcs_types.specs.Ids.{same, same_kind, place_of}
use Rattle.mcs_types.specs.Waiters.{Waiter, insert_behind, without, stands_in, first_waiter, behind as behind_no}
use Rattle.mcs_types.proofs.Ids.{parts, same_kind-equal, same-other}
use Rattle.mcs_book.specs.Growing.{Waiter as Standing, insert_behind as put_behind, without as without_id, is_among, threads_in}
use Rattle.mcs_types.specs.Chains.{head_of}
use Rattle.mcs_object_queues.specs.Places.{thread_at, standing, below_room}
use Rattle.mcs_object_queues.specs.Queues.{behind}

-- the number of a thread tells its id
pub number-thread : (t : ObjId) (u : ℕ) → place_of Thread t ≡ Some u → t ≡ thread_at u
number-thread t u h = go (same_kind t.kind Thread && nat_le 1 t.serial) refl h
  where
    go : (b : Bool) → (same_kind t.kind Thread && nat_le 1 t.serial) ≡ b → cond b (Some (t.serial - 1)) None ≡ Some u → t ≡ thread_at u
    go false e k = absurd cc
    go true e k =
        let both : (same_kind t.kind Thread ≡ true) × (nat_le 1 t.serial ≡ true) = parts _ _ e in
        let kind : t.kind ≡ Thread = same_kind-equal t.kind Thread both.0 in
        let low : 1 ≤ t.serial = grind (arith, common_steps, both.1) in
        let number : t.serial - 1 ≡ u = cc in
        let serial : t.serial ≡ u + 1 = omega (arith, low, number) in
        λ i. record { kind = kind i; serial = serial i }

thread-number : (w : ℕ) → place_of Thread (thread_at w) ≡ Some w
thread-number w = let low : nat_le 1 (w + 1) ≡ true = grind (arith, common_steps) in let n : w + 1 - 1 ≡ w = omega arith in rw (low, n) refl

-- whether a thread is that of a number
pub same-number : (t : ObjId) (u w : ℕ) → place_of Thread t ≡ Some u → same t (thread_at w) ≡ (w == u)
same-number t u w h = ap (λ x. same x (thread_at w)) (number-thread t u h) ∙ serials
  where
    serials : (u + 1 == w + 1) ≡ (w == u)
    serials = grind (arith, common_steps)

pub not-thread : (t : ObjId) (w : ℕ) → place_of Thread t ≡ None → same t (thread_at w) ≡ false
not-thread t w h = same-other t (thread_at w) (λ e. let no : Some w ≡ None = sym (thread-number w) ∙ ap (λ x. place_of Thread x) (sym e) ∙ h in absurd cc)

-- a thread that queues
pub map-insert : (w : Waiter) (vs : List Waiter) → map standing (insert_behind w vs) ≡ put_behind (standing w) (map standing vs)
map-insert w [] = refl
map-insert w (v ∷ vs) = go (nat_lt v.priority w.priority) (map-insert w vs)
  where
    go : (b : Bool) → map standing (insert_behind w vs) ≡ put_behind (standing w) (map standing vs)
        → map standing (cond b (w ∷ v ∷ vs) (v ∷ insert_behind w vs)) ≡ cond b (standing w ∷ standing v ∷ map standing vs) (standing v ∷ put_behind (standing w) (map standing vs))
    go true later = refl
    go false later = ap (λ us. standing v ∷ us) later

-- all but one thread
pub map-without : (t : ObjId) (u : ℕ) (vs : List Waiter) → place_of Thread t ≡ Some u → without_id t (map standing vs) ≡ map standing (without u vs)
map-without t u [] h = refl
map-without t u (v ∷ vs) h = ap (λ b. cond b (without_id t (map standing vs)) (standing v ∷ without_id t (map standing vs))) (same-number t u v.thread h) ∙ go (v.thread == u) (map-without t u vs h)
  where
    go : (b : Bool) → without_id t (map standing vs) ≡ map standing (without u vs)
        → cond b (without_id t (map standing vs)) (standing v ∷ without_id t (map standing vs)) ≡ map standing (cond b (without u vs) (v ∷ without u vs))
    go true later = later
    go false later = ap (λ us. standing v ∷ us) later

pub without-absent : (t : ObjId) (vs : List Standing) → is_among t vs ≡ false → without_id t vs ≡ vs
without-absent t [] h = refl
without-absent t (v ∷ vs) h = go (λ e. without-absent t vs e) (same t v.thread) h
  where
    go : (is_among t vs ≡ false → without_id t vs ≡ vs) → (b : Bool) → (b || is_among t vs) ≡ false → cond b (without_id t vs) (v ∷ without_id t vs) ≡ v ∷ vs
    go rest true e = absurd cc
    go rest false e = ap (λ us. v ∷ us) (rest e)

-- whether a thread is among them
pub map-among : (t : ObjId) (u : ℕ) (vs : List Waiter) → place_of Thread t ≡ Some u → is_among t (map standing vs) ≡ stands_in u vs
map-among t u [] h = refl
map-among t u (v ∷ vs) h = ap (λ b. b || is_among t (map standing vs)) (same-number t u v.thread h) ∙ ap (λ b. (v.thread == u) || b) (map-among t u vs h)

pub nobody-among : (t : ObjId) (vs : List Waiter) → place_of Thread t ≡ None → is_among t (map standing vs) ≡ false
nobody-among t [] h = refl
nobody-among t (v ∷ vs) h = ap (λ b. b || is_among t (map standing vs)) (not-thread t v.thread h) ∙ nobody-among t vs h

-- the first, and who is after another
pub head-map : (vs : List Waiter) → head_of (threads_in (map standing vs)) ≡ option_map thread_at (first_waiter vs)
head-map [] = refl
head-map (v ∷ vs) = refl

pub behind-map : (t : ObjId) (u : ℕ) (vs : List Waiter) → place_of Thread t ≡ Some u → behind t (map standing vs) ≡ option_map thread_at (behind_no u vs)
behind-map t u [] h = refl
behind-map t u (v ∷ vs) h = ap (λ b. cond b (head_of (threads_in (map standing vs))) (behind t (map standing vs))) (same-number t u v.thread h) ∙ go (v.thread == u) (behind-map t u vs h)
  where
    go : (b : Bool) → behind t (map standing vs) ≡ option_map thread_at (behind_no u vs)
        → cond b (head_of (threads_in (map standing vs))) (behind t (map standing vs)) ≡ option_map thread_at (cond b (first_waiter vs) (behind_no u vs))
    go true later = head-map vs
    go false later = later

-- a number below the room
pub below : (o : Option ℕ) (u : ℕ) → below_room o ≡ Some u → (o ≡ Some u) × (u < 256)
below None u h = absurd cc
below (Some v) u h = go (nat_lt v 256) refl h
  where
    go : (b : Bool) → nat_lt v 256 ≡ b → cond b (Some v) None ≡ Some u → (Some v ≡ Some u) × (u < 256)
    go false e k = absurd cc
    go true e k = let is : v ≡ u = cc in let low : v < 256 = grind (arith, common_steps, e) in (k, omega (arith, low, is))
