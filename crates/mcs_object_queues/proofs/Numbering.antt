-- Lines by queues and lines by numbers, where numbers and queues answer to one another.
use Rattle.std.specs.Prelude.{ℕ, ◌≡◌, ◌≤◌, ◌<◌, ◌||◌, ◌==◌, Bool, true, false, cond, List, [], map, Option, Some, None, option_map, option_and_then, nat_lt}
use Rattle.std.proofs.Common.{refl, ap, sym, ◌∙◌, arith}
use Rattle.std.proofs.lemmas.Bool.{eqb-true, eq-eqb}
use Rattle.std.proofs.lemmas.Grind.{common_steps}
use Rattle.mcs_types.specs.declared.id.ObjId.{ObjId}
use Rattle.mcs_types.specs.declared.id.Kind.TheVariants.{Thread}
use Rattle.mcs_types.specs.declared.record.Queue.{Queue}
use Rattle.mcs_types.specs.Ids.{same, place_of, value_after}
use Rattle.mcs_types.specs.Waiters.{Waiter, insert_behind, without, stands_in, is_place, behind_in as behind_in_no}
use Rattle.mcs_types.proofs.Waiters.{stands-insert, stands-without}
use Rattle.mcs_types.proofs.Ids.{same-other}
use Rattle.mcs_book.specs.Growing.{insert_behind as put_behind, without as without_id, is_among, shifted}
use Rattle.mcs_book.specs.Queues.{same_queue}
use Rattle.mcs_book.proofs.Objects.Same.{same_queue-self, same_queue-equal}
use Rattle.mcs_object_queues.specs.Places.{thread_at, standing, below_room, lined, IsLined}
use Rattle.mcs_object_queues.specs.Queues.{line_after, behind, behind_in}
use Rattle.mcs_object_queues.proofs.Lists.{number-thread, same-number, map-insert, map-without, without-absent, map-among, nobody-among, behind-map}

-- numbers and queues answer to one another
pub record IsNumbering (num : Queue → Option ℕ) (que : ℕ → Option Queue) : Type 0 where
  pub there : (q : Queue) (n : ℕ) → num q ≡ Some n → que n ≡ Some q
  pub back : (n : ℕ) (q : Queue) → que n ≡ Some q → num q ≡ Some n

-- the queue of a thread
abbrev pub queue_by : (ℕ → Option Queue) → (ℕ → Option ℕ) → ObjId → Option Queue
queue_by que place t = option_and_then que (option_and_then place (place_of Thread t))

module _ (que : ℕ → Option Queue) (line : ℕ → List Waiter) (place : ℕ → Option ℕ) (a : IsLined que line place) where
  -- a line in which a thread is has a queue
  pub has-queue : (u k : ℕ) → place u ≡ Some k → (q : Queue) × (que k ≡ Some q)
  has-queue u k h = go (que k) refl
    where
      go : (o : Option Queue) → que k ≡ o → (q : Queue) × (que k ≡ Some q)
      go (Some q) e = (q, e)
      go None e =
          let no : false ≡ true = sym (ap (λ vs. stands_in u vs) (a.vacant k e)) ∙ a.stands u k ∙ ap (λ o. is_place o k) h ∙ eq-eqb k k refl in
          absurd cc

  -- a thread in no queue has no line
  pub idle : (t : ObjId) (u : ℕ) → place_of Thread t ≡ Some u → queue_by que place t ≡ None → place u ≡ None
  idle t u who h = go (place u) refl
    where
      go : (o : Option ℕ) → place u ≡ o → place u ≡ None
      go None e = e
      go (Some k) e =
          let q = has-queue u k e in
          let no : Some q.0 ≡ None = sym q.1 ∙ ap (λ o. option_and_then que o) (sym e ∙ ap (λ o. option_and_then place o) (sym who)) ∙ h in
          absurd cc

  -- who is no thread with a number is nowhere
  pub absent : (t : ObjId) → below_room (place_of Thread t) ≡ None → (n : Option ℕ) → is_among t (lined line n) ≡ false
  absent t h None = refl
  absent t h (Some n) = go (place_of Thread t) refl h
    where
      go : (o : Option ℕ) → place_of Thread t ≡ o → below_room o ≡ None → is_among t (map standing (line n)) ≡ false
      go None e k = nobody-among t (line n) e
      go (Some u) e k = map-among t u (line n) e ∙ a.stands u n ∙ ap (λ o. is_place o n) (a.beyond u (high (nat_lt u 256) refl k))
        where
          high : (b : Bool) → nat_lt u 256 ≡ b → cond b (Some u) None ≡ None → 256 ≤ u
          high true f l = absurd cc
          high false f l = grind (arith, common_steps, f)

  pub without-none : (t : ObjId) (num : Queue → Option ℕ) → below_room (place_of Thread t) ≡ None → (k : Queue) → lined line (num k) ≡ without_id t (lined line (num k))
  without-none t num h k = sym (without-absent t (lined line (num k)) (absent t h (num k)))

  pub shifted-none : (t : ObjId) (p : ℕ) (num : Queue → Option ℕ) → below_room (place_of Thread t) ≡ None → (k : Queue) → lined line (num k) ≡ shifted t p (lined line (num k))
  shifted-none t p num h k = sym (ap (λ b. cond b (put_behind (record { thread = t; priority = p }) (without_id t (lined line (num k)))) (lined line (num k))) (absent t h (num k)))

-- the queue of each thread after one was placed elsewhere
pub placed-queue : (que : ℕ → Option Queue) (place later : ℕ → Option ℕ) (t : ObjId) (u : ℕ) (o : Option ℕ) → place_of Thread t ≡ Some u → ((v : ℕ) → later v ≡ cond (u == v) o (place v))
    → (x : ObjId) → queue_by que later x ≡ value_after x t (option_and_then que o) (queue_by que place x)
placed-queue que place later t u o who places x = go (place_of Thread x) refl
  where
    either : (b : Bool) (v : ℕ) → option_and_then que (cond b o (place v)) ≡ cond b (option_and_then que o) (option_and_then que (place v))
    either true v = refl
    either false v = refl

    go : (i : Option ℕ) → place_of Thread x ≡ i → option_and_then que (option_and_then later i) ≡ value_after x t (option_and_then que o) (option_and_then que (option_and_then place i))
    go None e =
        let other : same x t ≡ false = same-other x t (λ s. let no : None ≡ Some u = sym e ∙ ap (λ y. place_of Thread y) s ∙ who in absurd cc) in
        rw other refl
    go (Some v) e =
        let is : (u == v) ≡ same x t = sym (same-number x v u e) ∙ ap (λ y. same x y) (sym (number-thread t u who)) in
        ap (λ i. option_and_then que i) (places v ∙ ap (λ b. cond b o (place v)) is) ∙ either (same x t) v

-- a thread leaves its line
module _ (que : ℕ → Option Queue) (line later : ℕ → List Waiter) (place after : ℕ → Option ℕ) (u : ℕ)
    (lines : (m : ℕ) → later m ≡ without u (line m)) (places : (v : ℕ) → after v ≡ cond (u == v) None (place v)) where
  pub parted : IsLined que line place → IsLined que later after
  parted a = record {
    stands = λ v k. ap (λ vs. stands_in v vs) (lines k) ∙ stands-without v u (line k) ∙ go v k (u == v) ∙ sym (ap (λ o. is_place o k) (places v));
    vacant = λ k h. lines k ∙ ap (λ vs. without u vs) (a.vacant k h);
    beyond = λ v h. places v ∙ nowhere v (u == v) (a.beyond v h);
  }
    where
      go : (v k : ℕ) (b : Bool) → cond b false (stands_in v (line k)) ≡ is_place (cond b None (place v)) k
      go v k true = refl
      go v k false = a.stands v k

      nowhere : (v : ℕ) (b : Bool) → place v ≡ None → cond b None (place v) ≡ None
      nowhere v true h = refl
      nowhere v false h = h

  pub parted-line : (num : Queue → Option ℕ) (t : ObjId) → place_of Thread t ≡ Some u → (k : Queue) → lined later (num k) ≡ without_id t (lined line (num k))
  parted-line num t who k = go (num k)
    where
      go : (n : Option ℕ) → lined later n ≡ without_id t (lined line n)
      go None = refl
      go (Some n) = ap (λ vs. map standing vs) (lines n) ∙ sym (map-without t u (line n) who)

-- a thread goes after all of a priority
module _ (que : ℕ → Option Queue) (line later : ℕ → List Waiter) (place after : ℕ → Option ℕ) (u p : ℕ)
    (lines : (m : ℕ) → later m ≡ cond (is_place (place u) m) (insert_behind (record { thread = u; priority = p }) (without u (line m))) (line m)) (places : (v : ℕ) → after v ≡ place v) where
  pub moved : IsLined que line place → IsLined que later after
  moved a = record {
    stands = λ v k. ap (λ vs. stands_in v vs) (lines k) ∙ go v k (is_place (place u) k) refl ∙ sym (ap (λ o. is_place o k) (places v));
    vacant = λ k h. lines k ∙ rw (sym (a.stands u k) ∙ ap (λ vs. stands_in u vs) (a.vacant k h)) (a.vacant k h);
    beyond = λ v h. places v ∙ a.beyond v h;
  }
    where
      here : (v k : ℕ) (b : Bool) → (u == v) ≡ b → is_place (place u) k ≡ true → (b || cond b false (stands_in v (line k))) ≡ is_place (place v) k
      here v k true e f = sym f ∙ ap (λ x. is_place (place x) k) (eqb-true u v e)
      here v k false e f = a.stands v k

      go : (v k : ℕ) (b : Bool) → is_place (place u) k ≡ b → stands_in v (cond b (insert_behind (record { thread = u; priority = p }) (without u (line k))) (line k)) ≡ is_place (place v) k
      go v k false e = a.stands v k
      go v k true e =
          stands-insert v (record { thread = u; priority = p }) (without u (line k))
          ∙ ap (λ b. (u == v) || b) (stands-without v u (line k))
          ∙ here v k (u == v) refl e

  pub moved-line : IsLined que line place → (num : Queue → Option ℕ) (t : ObjId) → place_of Thread t ≡ Some u → (k : Queue) → lined later (num k) ≡ shifted t p (lined line (num k))
  moved-line a num t who k = go (num k)
    where
      either : (b : Bool) (n : ℕ) → map standing (cond b (insert_behind (record { thread = u; priority = p }) (without u (line n))) (line n)) ≡ cond b (put_behind (record { thread = t; priority = p }) (without_id t (map standing (line n)))) (map standing (line n))
      either false n = refl
      either true n =
          map-insert (record { thread = u; priority = p }) (without u (line n))
          ∙ ap (λ vs. put_behind (record { thread = thread_at u; priority = p }) vs) (sym (map-without t u (line n) who))
          ∙ ap (λ x. put_behind (record { thread = x; priority = p }) (without_id t (map standing (line n)))) (sym (number-thread t u who))

      go : (n : Option ℕ) → lined later n ≡ shifted t p (lined line n)
      go None = refl
      go (Some n) =
          ap (λ vs. map standing vs) (lines n) ∙ either (is_place (place u) n) n
          ∙ ap (λ b. cond b (put_behind (record { thread = t; priority = p }) (without_id t (map standing (line n)))) (map standing (line n))) (sym (map-among t u (line n) who ∙ a.stands u n))

module _ (num : Queue → Option ℕ) (que : ℕ → Option Queue) (iso : IsNumbering num que) where
  -- two queues are the same where their numbers are
  number-same : (q k : Queue) (n m : ℕ) → num q ≡ Some n → num k ≡ Some m → (n == m) ≡ same_queue q k
  number-same q k n m f g = go (same_queue q k) refl
    where
      go : (b : Bool) → same_queue q k ≡ b → (n == m) ≡ b
      go true e =
          let it : Some n ≡ Some m = sym f ∙ ap (λ x. num x) (same_queue-equal q k e) ∙ g in
          let number : n ≡ m = cc in
          eq-eqb n m number
      go false e = test (n == m) refl
        where
          test : (b : Bool) → (n == m) ≡ b → b ≡ false
          test false h = refl
          test true h =
              let it : Some q ≡ Some k = sym (iso.there q n f) ∙ ap (λ x. que x) (eqb-true n m h) ∙ iso.there k m g in
              let one : q ≡ k = cc in
              let no : true ≡ false = sym (same_queue-self q) ∙ ap (λ x. same_queue q x) one ∙ e in
              absurd cc

  no-twin : (q k : Queue) (n : ℕ) → num q ≡ Some n → num k ≡ None → same_queue q k ≡ false
  no-twin q k n f g = go (same_queue q k) refl
    where
      go : (b : Bool) → same_queue q k ≡ b → b ≡ false
      go false e = refl
      go true e = let no : Some n ≡ None = sym f ∙ ap (λ x. num x) (same_queue-equal q k e) ∙ g in absurd cc

  -- a thread that is nowhere joins a line
  module _ (line later : ℕ → List Waiter) (place after : ℕ → Option ℕ) (t : ObjId) (u p n : ℕ) (q : Queue) (who : place_of Thread t ≡ Some u) (into : num q ≡ Some n)
      (lines : (m : ℕ) → later m ≡ cond (n == m) (insert_behind (record { thread = u; priority = p }) (line m)) (line m)) (places : (v : ℕ) → after v ≡ cond (u == v) (Some n) (place v)) where
    pub joined : place u ≡ None → u < 256 → IsLined que line place → IsLined que later after
    joined free low a = record {
      stands = λ v k. ap (λ vs. stands_in v vs) (lines k) ∙ go v k (n == k) refl (u == v) refl ∙ sym (ap (λ o. is_place o k) (places v));
      vacant = λ k h. lines k ∙ ap (λ b. cond b (insert_behind (record { thread = u; priority = p }) (line k)) (line k)) (other k h (n == k) refl) ∙ a.vacant k h;
      beyond = λ v h. let away : (u == v) ≡ false = grind (arith, common_steps, low, h) in places v ∙ rw away (a.beyond v h);
    }
      where
        other : (k : ℕ) → que k ≡ None → (b : Bool) → (n == k) ≡ b → (n == k) ≡ false
        other k h false e = e
        other k h true e = let no : Some q ≡ None = sym (iso.there q n into) ∙ ap (λ x. que x) (eqb-true n k e) ∙ h in absurd cc

        go : (v k : ℕ) (b : Bool) → (n == k) ≡ b → (c : Bool) → (u == v) ≡ c → stands_in v (cond b (insert_behind (record { thread = u; priority = p }) (line k)) (line k)) ≡ is_place (cond c (Some n) (place v)) k
        go v k true e true f = stands-insert v (record { thread = u; priority = p }) (line k) ∙ ap (λ c. c || stands_in v (line k)) f ∙ sym e
        go v k true e false f = stands-insert v (record { thread = u; priority = p }) (line k) ∙ ap (λ c. c || stands_in v (line k)) f ∙ a.stands v k
        go v k false e true f = ap (λ x. stands_in x (line k)) (sym (eqb-true u v f)) ∙ a.stands u k ∙ ap (λ o. is_place o k) free ∙ sym e
        go v k false e false f = a.stands v k

    pub joined-line : (k : Queue) → lined later (num k) ≡ line_after k q (record { thread = t; priority = p }) (lined line (num k))
    joined-line k = go (num k) refl ∙ ap (λ x. cond (same_queue q k) (put_behind (record { thread = x; priority = p }) (lined line (num k))) (lined line (num k))) (sym (number-thread t u who))
      where
        either : (b : Bool) (m : ℕ) → map standing (cond b (insert_behind (record { thread = u; priority = p }) (line m)) (line m)) ≡ cond b (put_behind (record { thread = thread_at u; priority = p }) (map standing (line m))) (map standing (line m))
        either true m = map-insert (record { thread = u; priority = p }) (line m)
        either false m = refl

        go : (o : Option ℕ) → num k ≡ o → lined later o ≡ cond (same_queue q k) (put_behind (record { thread = thread_at u; priority = p }) (lined line o)) (lined line o)
        go None e = rw (no-twin q k n into e) refl
        go (Some m) e =
            ap (λ vs. map standing vs) (lines m ∙ ap (λ b. cond b (insert_behind (record { thread = u; priority = p }) (line m)) (line m)) (number-same q k n m into e))
            ∙ either (same_queue q k) m

    pub joined-queue : (x : ObjId) → queue_by que after x ≡ value_after x t (Some q) (queue_by que place x)
    joined-queue x = placed-queue que place after t u (Some n) who places x ∙ ap (λ o. value_after x t o (queue_by que place x)) (iso.there q n into)

  -- who is after a thread
  pub next-behind : (line : ℕ → List Waiter) (place : ℕ → Option ℕ) → IsLined que line place → (t : ObjId) (u : ℕ) → place_of Thread t ≡ Some u
      → behind_in (queue_by que place t) (λ q. lined line (num q)) t ≡ option_map thread_at (behind_in_no (place u) line u)
  next-behind line place a t u who = ap (λ i. behind_in (option_and_then que (option_and_then place i)) (λ q. lined line (num q)) t) who ∙ go (place u) refl
    where
      go : (o : Option ℕ) → place u ≡ o → behind_in (option_and_then que o) (λ q. lined line (num q)) t ≡ option_map thread_at (behind_in_no o line u)
      go None e = refl
      go (Some k) e =
          let q = has-queue que line place a u k e in
          ap (λ o. behind_in o (λ q. lined line (num q)) t) q.1 ∙ ap (λ n. behind t (lined line n)) (iso.back k q.0 q.1) ∙ behind-map t u (line k) who

-- an object comes or goes, and no thread moves
module _ (num later : Queue → Option ℕ) (que after : ℕ → Option Queue) (old : IsNumbering num que) (new : IsNumbering later after) (line : ℕ → List Waiter) (place : ℕ → Option ℕ) (a : IsLined que line place) where
  -- more queues have numbers
  module _ (grows : (q : Queue) (n : ℕ) → num q ≡ Some n → later q ≡ Some n) where
    still-vacant : (k : ℕ) → after k ≡ None → que k ≡ None
    still-vacant k h = go (que k) refl
      where
        go : (o : Option Queue) → que k ≡ o → que k ≡ None
        go None e = e
        go (Some q) e = let no : Some q ≡ None = sym (new.there q k (grows q k (old.back k q e))) ∙ h in absurd cc

    pub grown : IsLined after line place
    grown = record { stands = a.stands; vacant = λ k h. a.vacant k (still-vacant k h); beyond = a.beyond }

    pub grown-line : (q : Queue) → lined line (later q) ≡ lined line (num q)
    grown-line q = go (num q) refl (later q) refl
      where
        vacant : (n : ℕ) → num q ≡ None → later q ≡ Some n → que n ≡ None
        vacant n e f = go (que n) refl
          where
            go : (o : Option Queue) → que n ≡ o → que n ≡ None
            go None g = g
            go (Some r) g =
                let it : Some r ≡ Some q = sym (new.there r n (grows r n (old.back n r g))) ∙ new.there q n f in
                let one : r ≡ q = cc in
                let no : Some n ≡ None = sym (old.back n r g) ∙ ap (λ x. num x) one ∙ e in
                absurd cc

        go : (o : Option ℕ) → num q ≡ o → (i : Option ℕ) → later q ≡ i → lined line (later q) ≡ lined line (num q)
        go (Some n) e i f = ap (λ x. lined line x) (grows q n e ∙ sym e)
        go None e None f = ap (λ x. lined line x) (f ∙ sym e)
        go None e (Some n) f = ap (λ x. lined line x) f ∙ ap (λ vs. map standing vs) (a.vacant n (vacant n e f)) ∙ sym (ap (λ x. lined line x) e)

    pub grown-queue : (t : ObjId) → queue_by after place t ≡ queue_by que place t
    grown-queue t = go (place_of Thread t)
      where
        at : (u : ℕ) (o : Option ℕ) → place u ≡ o → option_and_then after o ≡ option_and_then que o
        at u None e = refl
        at u (Some k) e = let q = has-queue que line place a u k e in new.there q.0 k (grows q.0 k (old.back k q.0 q.1)) ∙ sym q.1

        go : (i : Option ℕ) → option_and_then after (option_and_then place i) ≡ option_and_then que (option_and_then place i)
        go None = refl
        go (Some u) = at u (place u) refl

  -- fewer queues have numbers, and no thread is in the others
  module _ (shrinks : (q : Queue) (n : ℕ) → later q ≡ Some n → num q ≡ Some n) (empty : (q : Queue) (n : ℕ) → num q ≡ Some n → later q ≡ None → line n ≡ []) where
    pub shrunk : IsLined after line place
    shrunk = record { stands = a.stands; vacant = λ k h. go k h (que k) refl; beyond = a.beyond }
      where
        at : (k : ℕ) (q : Queue) → after k ≡ None → que k ≡ Some q → (o : Option ℕ) → later q ≡ o → line k ≡ []
        at k q h e None f = empty q k (old.back k q e) f
        at k q h e (Some m) f =
            let it : Some m ≡ Some k = sym (shrinks q m f) ∙ old.back k q e in
            let one : m ≡ k = cc in
            let no : Some q ≡ None = sym (new.there q m f) ∙ ap (λ n. after n) one ∙ h in
            absurd cc

        go : (k : ℕ) → after k ≡ None → (o : Option Queue) → que k ≡ o → line k ≡ []
        go k h None e = a.vacant k e
        go k h (Some q) e = at k q h e (later q) refl

    pub shrunk-line : (q : Queue) → lined line (later q) ≡ lined line (num q)
    shrunk-line q = go (later q) refl (num q) refl
      where
        go : (o : Option ℕ) → later q ≡ o → (i : Option ℕ) → num q ≡ i → lined line (later q) ≡ lined line (num q)
        go (Some n) f i e = ap (λ x. lined line x) (f ∙ sym (shrinks q n f))
        go None f None e = ap (λ x. lined line x) (f ∙ sym e)
        go None f (Some n) e = ap (λ x. lined line x) f ∙ sym (ap (λ x. lined line x) e ∙ ap (λ vs. map standing vs) (empty q n e f))

    pub shrunk-queue : (t : ObjId) → queue_by after place t ≡ queue_by que place t
    shrunk-queue t = go (place_of Thread t)
      where
        stays : (u k : ℕ) (q : Queue) → place u ≡ Some k → que k ≡ Some q → (o : Option ℕ) → later q ≡ o → after k ≡ Some q
        stays u k q e g (Some m) f =
            let it : Some m ≡ Some k = sym (shrinks q m f) ∙ old.back k q g in
            let one : m ≡ k = cc in
            sym (ap (λ n. after n) one) ∙ new.there q m f
        stays u k q e g None f =
            let no : false ≡ true = sym (ap (λ vs. stands_in u vs) (empty q k (old.back k q g) f)) ∙ a.stands u k ∙ ap (λ o. is_place o k) e ∙ eq-eqb k k refl in
            absurd cc

        at : (u : ℕ) (o : Option ℕ) → place u ≡ o → option_and_then after o ≡ option_and_then que o
        at u None e = refl
        at u (Some k) e = let q = has-queue que line place a u k e in stays u k q.0 e q.1 (later q.0) refl ∙ sym q.1

        go : (i : Option ℕ) → option_and_then after (option_and_then place i) ≡ option_and_then que (option_and_then place i)
        go None = refl
        go (Some u) = at u (place u) refl

-- lines like others are as those are
pub lined-alike : (que : ℕ → Option Queue) (line other : ℕ → List Waiter) (place at : ℕ → Option ℕ) → IsLined que line place
    → ((k : ℕ) → other k ≡ line k) → ((u : ℕ) → at u ≡ place u) → IsLined que other at
lined-alike que line other place at l same there = record {
  stands = λ u k. ap (stands_in u) (same k) ∙ l.stands u k ∙ ap (λ o. is_place o k) (sym (there u));
  vacant = λ k none. same k ∙ l.vacant k none;
  beyond = λ u far. there u ∙ l.beyond u far;
}
