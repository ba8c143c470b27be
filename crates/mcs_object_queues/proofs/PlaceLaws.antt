-- Numbers of queues follow from places in stores.
use Rattle.std.specs.Prelude.{ℕ, ◌≡◌, ◌<◌, ◌+◌, ◌-◌, ◌&&◌, not, Bool, true, false, cond, List, [], ◌∷◌, map, Option, Some, None, is_some, IsSome, OnSome, option_map, nat_lt}
use Rattle.std.proofs.Common.{refl, ap, sym, ◌∙◌, subst, arith}
use Rattle.std.proofs.lemmas.Grind.{common_steps}
use Rattle.mcs_types.specs.declared.id.ObjId.{ObjId}
use Rattle.mcs_types.specs.declared.id.Kind.{Kind}
use Rattle.mcs_types.specs.declared.id.Kind.TheVariants.{CNode, Thread, Endpoint, Notification, Reply, Context}
use Rattle.mcs_types.specs.declared.record.Queue.{Queue}
use Rattle.mcs_types.specs.declared.record.Queue.TheVariants.{Senders, Receivers, Waiters}
use Rattle.mcs_types.specs.Ids.{same, same_kind, value_after}
use Rattle.mcs_types.specs.Waiters.{Waiter}
use Rattle.mcs_types.proofs.Ids.{both, parts, same-equal, same-self, same-other, same_kind-self, same_kind-equal}
use Rattle.mcs_objects.specs.Store.{Objects, value_at, place_at, id_at, next_id, shape, one_more, IsOneFewer, WasGiven, PlacesOthers, HasPlaces}
use Rattle.mcs_object_queues.specs.Places.{standing, lined, numbered, number_of, line_of, queue_at, has_object, there_of, IsRoomy}
use Rattle.mcs_object_queues.specs.Queues.{is_queue_of, count_after}
use Rattle.mcs_object_queues.proofs.Numbering.{IsNumbering}

-- the places of a store are below 256, and tell their objects
pub record IsApart {T : Type 0} (S : Objects T) : Type 0 where
  pub below : (x : ObjId) (p : ℕ) → place_at S x ≡ Some p → p < 256
  pub owner : (x : ObjId) (p : ℕ) → place_at S x ≡ Some p → id_at S p ≡ Some x
  pub owned : (x : ObjId) (p : ℕ) → id_at S p ≡ Some x → place_at S x ≡ Some p

module _ {T : Type 0} where
  apart : (kind : Kind) (S : Objects T) → IsRoomy kind S → HasPlaces S → IsApart S
  apart kind S roomy h = record { below = λ x p is. let low = h.room x p is in omega (arith, low, roomy.room_is); owner = h.owner; owned = h.owned }

module _ {T : Type 0} (E N : Objects T) (e : IsApart E) (n : IsApart N) where
  -- the queue at a number of each sort
  at-sender : (p : ℕ) → p < 256 → queue_at E N p ≡ option_map (λ x. Senders x) (id_at E p)
  at-sender p low = let yes : nat_lt p 256 ≡ true = grind (arith, common_steps, low) in rw yes refl

  at-receiver : (m p : ℕ) → p < 256 → 256 + p ≡ m → queue_at E N m ≡ option_map (λ x. Receivers x) (id_at E p)
  at-receiver m p low is =
      let no : nat_lt m 256 ≡ false = grind (arith, common_steps, low, is) in
      let yes : nat_lt m 512 ≡ true = grind (arith, common_steps, low, is) in
      let less : m - 256 ≡ p = omega (arith, is) in
      rw (no, yes, less) refl

  at-waiter : (m p : ℕ) → 512 + p ≡ m → queue_at E N m ≡ option_map (λ x. Waiters x) (id_at N p)
  at-waiter m p is =
      let no : nat_lt m 256 ≡ false = grind (arith, common_steps, is) in
      let none : nat_lt m 512 ≡ false = grind (arith, common_steps, is) in
      let less : m - 512 ≡ p = omega (arith, is) in
      rw (no, none, less) refl

  number-queue : (q : Queue) (m : ℕ) → number_of E N q ≡ Some m → queue_at E N m ≡ Some q
  number-queue (Senders x) m h = go (place_at E x) refl h
    where
      go : (o : Option ℕ) → place_at E x ≡ o → numbered 0 o ≡ Some m → queue_at E N m ≡ Some (Senders x)
      go None f k = absurd cc
      go (Some p) f k =
          let sum : 0 + p ≡ m = cc in
          let is : p ≡ m = omega (arith, sum) in
          sym (ap (λ i. queue_at E N i) is) ∙ at-sender p (e.below x p f) ∙ ap (λ o. option_map (λ y. Senders y) o) (e.owner x p f)
  number-queue (Receivers x) m h = go (place_at E x) refl h
    where
      go : (o : Option ℕ) → place_at E x ≡ o → numbered 256 o ≡ Some m → queue_at E N m ≡ Some (Receivers x)
      go None f k = absurd cc
      go (Some p) f k = let sum : 256 + p ≡ m = cc in at-receiver m p (e.below x p f) sum ∙ ap (λ o. option_map (λ y. Receivers y) o) (e.owner x p f)
  number-queue (Waiters x) m h = go (place_at N x) refl h
    where
      go : (o : Option ℕ) → place_at N x ≡ o → numbered 512 o ≡ Some m → queue_at E N m ≡ Some (Waiters x)
      go None f k = absurd cc
      go (Some p) f k = let sum : 512 + p ≡ m = cc in at-waiter m p sum ∙ ap (λ o. option_map (λ y. Waiters y) o) (n.owner x p f)

  queue-number : (m : ℕ) (q : Queue) → queue_at E N m ≡ Some q → number_of E N q ≡ Some m
  queue-number m q h = go (nat_lt m 256) refl (nat_lt m 512) refl h
    where
      found : (sort : ObjId → Queue) (b p : ℕ) (S : Objects T) → ((x : ObjId) → number_of E N (sort x) ≡ numbered b (place_at S x)) → IsApart S → b + p ≡ m
          → (o : Option ObjId) → id_at S p ≡ o → option_map sort o ≡ Some q → number_of E N q ≡ Some m
      found sort b p S number s sum None f k = absurd cc
      found sort b p S number s sum (Some x) f k =
          let it : sort x ≡ q = cc in
          sym (ap (λ y. number_of E N y) it) ∙ number x ∙ ap (λ o. numbered b o) (s.owned x p f) ∙ ap (λ i. Some i) sum

      go : (b : Bool) → nat_lt m 256 ≡ b → (c : Bool) → nat_lt m 512 ≡ c
          → cond b (option_map (λ x. Senders x) (id_at E m)) (cond c (option_map (λ x. Receivers x) (id_at E (m - 256))) (option_map (λ x. Waiters x) (id_at N (m - 512)))) ≡ Some q
          → number_of E N q ≡ Some m
      go true f c g k = found (λ x. Senders x) 0 m E (λ x. refl) e (omega arith) (id_at E m) refl k
      go false f true g k = let sum : 256 + (m - 256) ≡ m = grind (arith, common_steps, f) in found (λ x. Receivers x) 256 (m - 256) E (λ x. refl) e sum (id_at E (m - 256)) refl k
      go false f false g k = let sum : 512 + (m - 512) ≡ m = grind (arith, common_steps, g) in found (λ x. Waiters x) 512 (m - 512) N (λ x. refl) n sum (id_at N (m - 512)) refl k

  numbers : IsNumbering (number_of E N) (queue_at E N)
  numbers = record { there = number-queue; back = queue-number }

module _ {T : Type 0} where
  -- numbers and queues answer to one another where the places of both stores do
  pub numbering : (E N : Objects T) → IsRoomy Endpoint E → IsRoomy Notification N → HasPlaces E → HasPlaces N → IsNumbering (number_of E N) (queue_at E N)
  numbering E N e n he hn = numbers E N (apart Endpoint E e he) (apart Notification N n hn)

-- who had a place has it still
abbrev pub Grows : {T : Type 0} → Objects T → Objects T → Type 0
Grows S S' = (x : ObjId) (p : ℕ) → place_at S x ≡ Some p → place_at S' x ≡ Some p

module _ {T : Type 0} where
  has-value : (S : Objects T) (x : ObjId) (p : ℕ) → ((y : ObjId) → is_some (place_at S y) ≡ is_some (value_at S y)) → place_at S x ≡ Some p → IsSome (value_at S x)
  has-value S x p two h = go (value_at S x) (sym (two x) ∙ ap (λ o. is_some o) h)
    where
      go : (o : Option T) → is_some o ≡ true → IsSome o
      go None e = absurd cc
      go (Some v) e = refl

  -- one more was made
  pub made-grows : (S S' : Objects T) → ((y : ObjId) → is_some (place_at S y) ≡ is_some (value_at S y)) → ((x : ObjId) → IsSome (value_at S x) → WasGiven S x)
      → PlacesOthers S S' (next_id S) → Grows S S'
  made-grows S S' two given others x p h =
      let high = (given x (has-value S x p two h)).high in
      let other : same x (next_id S) ≡ false = same-other x (next_id S) (λ e. let n = ap (λ (y : ObjId). y.serial) e in absurd (omega (arith, high, n))) in
      others x other ∙ h

  -- what has a place is of the kind
  pub place-kind : (S : Objects T) → ((y : ObjId) → is_some (place_at S y) ≡ is_some (value_at S y)) → ((x : ObjId) → IsSome (value_at S x) → WasGiven S x) → (x : ObjId) (p : ℕ) → place_at S x ≡ Some p → x.kind ≡ S.kind
  place-kind S two given x p h = (given x (has-value S x p two h)).kind

  -- one was taken out
  module _ (S S' : Objects T) (id : ObjId) (places : (x : ObjId) → place_at S' x ≡ value_after x id None (place_at S x)) where
    pub left-shrinks : Grows S' S
    left-shrinks x p h = go (same x id) (sym (places x) ∙ h)
      where
        go : (b : Bool) → cond b None (place_at S x) ≡ Some p → place_at S x ≡ Some p
        go true e = absurd cc
        go false e = e

    pub left-alone : (x : ObjId) (p : ℕ) → place_at S x ≡ Some p → place_at S' x ≡ None → x ≡ id
    left-alone x p h k = go (same x id) refl (sym (places x) ∙ k)
      where
        go : (b : Bool) → same x id ≡ b → cond b None (place_at S x) ≡ None → x ≡ id
        go true e f = same-equal x id e
        go false e f = let no : Some p ≡ None = sym h ∙ f in absurd cc

-- numbers stay as places do
module _ {T : Type 0} (E N E' N' : Objects T) (e : Grows E E') (n : Grows N N') where
  number-grows : (b m : ℕ) (S S' : Objects T) (x : ObjId) → Grows S S' → (o : Option ℕ) → place_at S x ≡ o → numbered b o ≡ Some m → numbered b (place_at S' x) ≡ Some m
  number-grows b m S S' x s None f h = absurd cc
  number-grows b m S S' x s (Some p) f h = ap (λ o. numbered b o) (s x p f) ∙ h

  pub numbers-grow : (q : Queue) (m : ℕ) → number_of E N q ≡ Some m → number_of E' N' q ≡ Some m
  numbers-grow (Senders x) m h = number-grows 0 m E E' x e (place_at E x) refl h
  numbers-grow (Receivers x) m h = number-grows 256 m E E' x e (place_at E x) refl h
  numbers-grow (Waiters x) m h = number-grows 512 m N N' x n (place_at N x) refl h

unnumbered : (b : ℕ) (o : Option ℕ) → numbered b o ≡ None → o ≡ None
unnumbered b None h = refl
unnumbered b (Some p) h = absurd cc

-- a queue of an object, and its object's kind
queue-is : (x id : ObjId) (k : Kind) → (same_kind x.kind k && same x id) ≡ true → (x ≡ id) × (id.kind ≡ k)
queue-is x id k h =
    let two : (same_kind x.kind k ≡ true) × (same x id ≡ true) = parts _ _ h in
    let one = same-equal x id two.1 in
    (one, sym (ap (λ (y : ObjId). y.kind) one) ∙ same_kind-equal x.kind k two.0)

pub is-queue : (x id : ObjId) (k : Kind) → x ≡ id → x.kind ≡ k → (same_kind x.kind k && same x id) ≡ true
is-queue x id k one kind = both (same_kind x.kind k) (same x id) (ap (λ l. same_kind l k) kind ∙ same_kind-self k) (ap (λ y. same x y) (sym one) ∙ same-self x)

-- what is there after an object was forgotten
module _ {T : Type 0} where
  taken : (S S' : Objects T) (k : Kind) (id x : ObjId) → ((y : ObjId) → place_at S' y ≡ value_after y id None (place_at S y)) → id.kind ≡ k
      → is_some (place_at S' x) ≡ (not (same_kind x.kind k && same x id) && is_some (place_at S x))
  taken S S' k id x places kind = ap (λ o. is_some o) (places x) ∙ go (same x id) refl
    where
      beside : (b c : Bool) → c ≡ (not (b && false) && c)
      beside true c = refl
      beside false c = refl

      go : (b : Bool) → same x id ≡ b → is_some (cond b None (place_at S x)) ≡ (not (same_kind x.kind k && b) && is_some (place_at S x))
      go true e =
          let is : same_kind x.kind k ≡ true = ap (λ l. same_kind l k) (ap (λ (y : ObjId). y.kind) (same-equal x id e) ∙ kind) ∙ same_kind-self k in
          sym (ap (λ b. not (b && true) && is_some (place_at S x)) is)
      go false e = beside (same_kind x.kind k) (is_some (place_at S x))

  untaken : (S : Objects T) (k : Kind) (id x : ObjId) → (id.kind ≡ k → ⊥) → is_some (place_at S x) ≡ (not (same_kind x.kind k && same x id) && is_some (place_at S x))
  untaken S k id x other = go (same_kind x.kind k && same x id) refl
    where
      go : (b : Bool) → (same_kind x.kind k && same x id) ≡ b → is_some (place_at S x) ≡ (not b && is_some (place_at S x))
      go true e = absurd (other (queue-is x id k e).1)
      go false e = refl

  endpoint-taken : (E N S' : Objects T) (id : ObjId) → ((y : ObjId) → place_at S' y ≡ value_after y id None (place_at E y)) → id.kind ≡ Endpoint → (q : Queue) → has_object S' N q ≡ (not (is_queue_of id q) && has_object E N q)
  endpoint-taken E N S' id places kind (Senders x) = taken E S' Endpoint id x places kind
  endpoint-taken E N S' id places kind (Receivers x) = taken E S' Endpoint id x places kind
  endpoint-taken E N S' id places kind (Waiters x) = untaken N Notification id x (λ e. let no : Endpoint ≡ Notification = sym kind ∙ e in absurd cc)

  notification-taken : (E N S' : Objects T) (id : ObjId) → ((y : ObjId) → place_at S' y ≡ value_after y id None (place_at N y)) → id.kind ≡ Notification → (q : Queue) → has_object E S' q ≡ (not (is_queue_of id q) && has_object E N q)
  notification-taken E N S' id places kind (Senders x) = untaken E Endpoint id x (λ e. let no : Notification ≡ Endpoint = sym kind ∙ e in absurd cc)
  notification-taken E N S' id places kind (Receivers x) = untaken E Endpoint id x (λ e. let no : Notification ≡ Endpoint = sym kind ∙ e in absurd cc)
  notification-taken E N S' id places kind (Waiters x) = taken N S' Notification id x places kind

  -- one is there less
  endpoint-fewer : (E N S' : Objects T) (kind : Kind) → kind ≡ Endpoint → IsOneFewer (shape E) (shape S') → (k : Kind) → there_of E N k ≡ count_after k kind (there_of S' N k + 1) (there_of S' N k)
  endpoint-fewer E N S' kind is less k = go k ∙ ap (λ l. count_after k l (there_of S' N k + 1) (there_of S' N k)) (sym is)
    where
      go : (k : Kind) → there_of E N k ≡ count_after k Endpoint (there_of S' N k + 1) (there_of S' N k)
      go Endpoint = sym (ap (λ n. n.there) less)
      go CNode = refl
      go Thread = refl
      go Notification = refl
      go Reply = refl
      go Context = refl

  notification-fewer : (E N S' : Objects T) (kind : Kind) → kind ≡ Notification → IsOneFewer (shape N) (shape S') → (k : Kind) → there_of E N k ≡ count_after k kind (there_of E S' k + 1) (there_of E S' k)
  notification-fewer E N S' kind is less k = go k ∙ ap (λ l. count_after k l (there_of E S' k + 1) (there_of E S' k)) (sym is)
    where
      go : (k : Kind) → there_of E N k ≡ count_after k Notification (there_of E S' k + 1) (there_of E S' k)
      go Notification = sym (ap (λ n. n.there) less)
      go CNode = refl
      go Thread = refl
      go Endpoint = refl
      go Reply = refl
      go Context = refl

-- an object was made: who had a number has it, and the queues of the new object had none
pub record Opens {T : Type 0} (E N E' N' : Objects T) (id : ObjId) : Type 0 where
  pub endpoints : IsRoomy Endpoint E'
  pub notifications : IsRoomy Notification N'
  pub grows : (q : Queue) (m : ℕ) → number_of E N q ≡ Some m → number_of E' N' q ≡ Some m
  pub fresh : (q : Queue) → is_queue_of id q ≡ true → number_of E N q ≡ None

-- an object was forgotten: no queue got a number, and those that lost theirs are of that object
pub record Closes {T : Type 0} (E N E' N' : Objects T) (id : ObjId) : Type 0 where
  pub endpoints : IsRoomy Endpoint E'
  pub notifications : IsRoomy Notification N'
  pub shrinks : (q : Queue) (m : ℕ) → number_of E' N' q ≡ Some m → number_of E N q ≡ Some m
  pub lost : (q : Queue) (m : ℕ) → number_of E N q ≡ Some m → number_of E' N' q ≡ None → is_queue_of id q ≡ true
  pub has : (q : Queue) → has_object E' N' q ≡ (not (is_queue_of id q) && has_object E N q)
  pub there : (k : Kind) → there_of E N k ≡ count_after k id.kind (there_of E' N' k + 1) (there_of E' N' k)

module _ {T : Type 0} where
  no-place : (S : Objects T) → ((y : ObjId) → is_some (place_at S y) ≡ is_some (value_at S y)) → ((x : ObjId) → IsSome (value_at S x) → WasGiven S x) → place_at S (next_id S) ≡ None
  no-place S two given = go (place_at S (next_id S)) refl
    where
      go : (o : Option ℕ) → place_at S (next_id S) ≡ o → place_at S (next_id S) ≡ None
      go None e = e
      go (Some p) e = let high = (given (next_id S) (has-value S (next_id S) p two e)).high in absurd (omega (arith, high))

  roomy-after : (kind : Kind) (S S' : Objects T) → shape S' ≡ one_more (shape S) → IsRoomy kind S → IsRoomy kind S'
  roomy-after kind S S' h r = record { kind_is = ap (λ n. n.kind) h ∙ r.kind_is; room_is = ap (λ n. n.room) h ∙ r.room_is }

  roomy-before : (kind : Kind) (S S' : Objects T) → IsOneFewer (shape S) (shape S') → IsRoomy kind S → IsRoomy kind S'
  roomy-before kind S S' h r = record { kind_is = ap (λ n. n.kind) h ∙ r.kind_is; room_is = ap (λ n. n.room) h ∙ r.room_is }

  -- an endpoint or a notification was made
  pub endpoint-opens : (E N E' : Objects T) (id : ObjId) → IsRoomy Endpoint E → IsRoomy Notification N → ((y : ObjId) → is_some (place_at E y) ≡ is_some (value_at E y)) → ((x : ObjId) → IsSome (value_at E x) → WasGiven E x)
      → id ≡ next_id E → shape E' ≡ one_more (shape E) → PlacesOthers E E' id → Opens E N E' N id
  endpoint-opens E N E' id e n two given is more others = record {
    endpoints = roomy-after Endpoint E E' more e;
    notifications = n;
    grows = numbers-grow E N E' N (made-grows E E' two given (subst (λ i. PlacesOthers E E' i) is others)) (λ x p h. h);
    fresh = go;
  }
    where
      place : (x : ObjId) → x ≡ id → place_at E x ≡ None
      place x one = ap (λ y. place_at E y) (one ∙ is) ∙ no-place E two given

      go : (q : Queue) → is_queue_of id q ≡ true → number_of E N q ≡ None
      go (Senders x) h = ap (λ o. numbered 0 o) (place x (queue-is x id Endpoint h).0)
      go (Receivers x) h = ap (λ o. numbered 256 o) (place x (queue-is x id Endpoint h).0)
      go (Waiters x) h =
          let no : Endpoint ≡ Notification = sym (ap (λ (y : ObjId). y.kind) is ∙ e.kind_is) ∙ (queue-is x id Notification h).1 in
          absurd cc

  pub notification-opens : (E N N' : Objects T) (id : ObjId) → IsRoomy Endpoint E → IsRoomy Notification N → ((y : ObjId) → is_some (place_at N y) ≡ is_some (value_at N y)) → ((x : ObjId) → IsSome (value_at N x) → WasGiven N x)
      → id ≡ next_id N → shape N' ≡ one_more (shape N) → PlacesOthers N N' id → Opens E N E N' id
  notification-opens E N N' id e n two given is more others = record {
    endpoints = e;
    notifications = roomy-after Notification N N' more n;
    grows = numbers-grow E N E N' (λ x p h. h) (made-grows N N' two given (subst (λ i. PlacesOthers N N' i) is others));
    fresh = go;
  }
    where
      no : (x : ObjId) → id.kind ≡ Endpoint → ⊥
      no x h = let no : Notification ≡ Endpoint = sym (ap (λ (y : ObjId). y.kind) is ∙ n.kind_is) ∙ h in absurd cc

      go : (q : Queue) → is_queue_of id q ≡ true → number_of E N q ≡ None
      go (Senders x) h = absurd (no x (queue-is x id Endpoint h).1)
      go (Receivers x) h = absurd (no x (queue-is x id Endpoint h).1)
      go (Waiters x) h = ap (λ o. numbered 512 o) (ap (λ y. place_at N y) ((queue-is x id Notification h).0 ∙ is) ∙ no-place N two given)

  -- one fewer is there, where it was there
  pub was-there : (S S' : Objects T) (id : ObjId) (r : Option T) → ((y : ObjId) → is_some (place_at S y) ≡ is_some (value_at S y)) → r ≡ value_at S id → is_some (place_at S id) ≡ true
      → OnSome r (IsOneFewer (shape S) (shape S')) → IsOneFewer (shape S) (shape S')
  was-there S S' id None two value there h = let no : true ≡ false = sym there ∙ two id ∙ ap (λ o. is_some o) (sym value) in absurd cc
  was-there S S' id (Some v) two value there h = h

  -- an endpoint or a notification was forgotten
  module _ (E N S' : Objects T) (id : ObjId) (e : IsRoomy Endpoint E) (n : IsRoomy Notification N) where
    -- a queue whose object lost its place
    lost-place : (S : Objects T) (b m : ℕ) (x : ObjId) → ((y : ObjId) → place_at S' y ≡ value_after y id None (place_at S y)) → numbered b (place_at S x) ≡ Some m → numbered b (place_at S' x) ≡ None → (x ≡ id) × ((p : ℕ) × (place_at S x ≡ Some p))
    lost-place S b m x places h k = go (place_at S x) refl h
      where
        go : (o : Option ℕ) → place_at S x ≡ o → numbered b o ≡ Some m → (x ≡ id) × ((p : ℕ) × (place_at S x ≡ Some p))
        go None f l = absurd cc
        go (Some p) f l = (left-alone S S' id places x p f (unnumbered b (place_at S' x) k), (p, f))

    pub endpoint-closes : ((y : ObjId) → is_some (place_at E y) ≡ is_some (value_at E y)) → ((x : ObjId) → IsSome (value_at E x) → WasGiven E x)
        → id.kind ≡ Endpoint → IsOneFewer (shape E) (shape S') → ((y : ObjId) → place_at S' y ≡ value_after y id None (place_at E y)) → Closes E N S' N id
    endpoint-closes two given kind less places = record {
      endpoints = roomy-before Endpoint E S' less e;
      notifications = n;
      shrinks = numbers-grow S' N E N (left-shrinks E S' id places) (λ x p h. h);
      lost = go;
      has = endpoint-taken E N S' id places kind;
      there = endpoint-fewer E N S' id.kind kind less;
    }
      where
        of : (x : ObjId) → (x ≡ id) × ((p : ℕ) × (place_at E x ≡ Some p)) → (same_kind x.kind Endpoint && same x id) ≡ true
        of x h = is-queue x id Endpoint h.0 (place-kind E two given x h.1.0 h.1.1 ∙ e.kind_is)

        go : (q : Queue) (m : ℕ) → number_of E N q ≡ Some m → number_of S' N q ≡ None → is_queue_of id q ≡ true
        go (Senders x) m h k = of x (lost-place E 0 m x places h k)
        go (Receivers x) m h k = of x (lost-place E 256 m x places h k)
        go (Waiters x) m h k = let no : Some m ≡ None = sym h ∙ k in absurd cc

    pub notification-closes : ((y : ObjId) → is_some (place_at N y) ≡ is_some (value_at N y)) → ((x : ObjId) → IsSome (value_at N x) → WasGiven N x)
        → id.kind ≡ Notification → IsOneFewer (shape N) (shape S') → ((y : ObjId) → place_at S' y ≡ value_after y id None (place_at N y)) → Closes E N E S' id
    notification-closes two given kind less places = record {
      endpoints = e;
      notifications = roomy-before Notification N S' less n;
      shrinks = numbers-grow E S' E N (λ x p h. h) (left-shrinks N S' id places);
      lost = go;
      has = notification-taken E N S' id places kind;
      there = notification-fewer E N S' id.kind kind less;
    }
      where
        go : (q : Queue) (m : ℕ) → number_of E N q ≡ Some m → number_of E S' q ≡ None → is_queue_of id q ≡ true
        go (Senders x) m h k = let no : Some m ≡ None = sym h ∙ k in absurd cc
        go (Receivers x) m h k = let no : Some m ≡ None = sym h ∙ k in absurd cc
        go (Waiters x) m h k = let l = lost-place N 512 m x places h k in is-queue x id Notification l.0 (place-kind N two given x l.1.0 l.1.1 ∙ n.kind_is)

unmapped : (vs : List Waiter) → map standing vs ≡ [] → vs ≡ []
unmapped [] h = refl
unmapped (v ∷ vs) h = absurd cc

-- no thread is in a line whose queue loses its number
pub lost-empty : {T : Type 0} (E N E' N' : Objects T) (id : ObjId) (line : ℕ → List Waiter) → Closes E N E' N' id → ((q : Queue) → is_queue_of id q ≡ true → line_of E N line q ≡ [])
    → (q : Queue) (m : ℕ) → number_of E N q ≡ Some m → number_of E' N' q ≡ None → line m ≡ []
lost-empty E N E' N' id line change empty q m h k = unmapped (line m) (sym (ap (λ o. lined line o) h) ∙ empty q (change.lost q m h k))
