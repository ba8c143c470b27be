-- What a core may pick, by the best of it.
use Rattle.std.specs.Prelude.{ℕ, zero, suc, Bool, true, false, not, ◌≡◌, ◌≤◌, ◌<◌, ◌+◌, ◌++◌, ◌⊎◌, nat_lt, length, List, [], ◌∷◌, Option, Some, None, get_or, slice_get}
use Rattle.std.specs.List.{Contains, list_all}
use Rattle.std.proofs.Common.{refl, ap, sym, ◌∙◌, subst, arith, inl, inr}
use Rattle.std.proofs.lemmas.Bool.Decides.{nat_tests}
use Rattle.std.proofs.lemmas.List.Elements.{Contains-append_left, Contains-get_or, Contains-push, Contains-push_cases}
use Rattle.std.proofs.lemmas.List.Quantifiers.{all_pairs_push}
use Rattle.std.proofs.lemmas.List.{length_push}
use Rattle.std.proofs.lemmas.Option.{slice_get_within}
use Rattle.mcs_types.specs.declared.id.ObjId.{ObjId}
use Rattle.mcs_types.specs.declared.id.CoreId.{CoreId}
use Rattle.mcs_types.specs.Ids.{same}
use Rattle.mcs_types.proofs.Ids.{parts, same-self}
use Rattle.mcs_book.specs.Logs.{Log}
use Rattle.mcs_book.specs.History.{log_of}
use Rattle.mcs_book.specs.Picking.{GoesBefore}
use Rattle.mcs_book.specs.Threads.{prio_of}
use Rattle.mcs_book.specs.Statuses.{may_enter}
use Rattle.mcs_book.proofs.Threads.EntersLaws.{enters-made}
use Rattle.mcs_turns.specs.declared.position.Pick.{Pick}
use Rattle.mcs_turns.specs.declared.position.Position.{Position}
use Rattle.mcs_turns.specs.declared.position.Schedule.{Schedule}
use Rattle.mcs_turns.specs.declared.position.Schedule.TheVariants as schedule
use Rattle.mcs_turns.specs.Due.{is_same}
use Rattle.mcs_turns.specs.Turns.{User, RunState, AreApart, AreAscending, ArePicks, ArePicksOf, CanBePicked, CanGive, MayPrecede, due}
use Rattle.mcs_turns.proofs.Among.{none-in, first-in, one-in}
use Rattle.mcs_turns.proofs.Choices.{same-pick}
use Rattle.mcs_turns.proofs.OneTurn.{one-at}
use Rattle.mcs_users.specs.Users.{is_serial}
use Rattle.mcs_explore_walk.specs.Walks.{AreBest, Gives, IsBest, IsBestOf, IsOffer, best_at}
use Rattle.mcs_explore_walk.specs.declared.walk.Candidate.{Candidate}
use Rattle.mcs_explore_walk.proofs.Picking.{nat_split, same-itself}

-- threads that may enter, and each of which goes before the other, are one
one-thread : (R : Log) (core : CoreId) (t u : ObjId) → may_enter R core t ≡ true → may_enter R core u ≡ true → GoesBefore R t u → GoesBefore R u t → t ≡ u
one-thread R core t u enters other before after =
    let a = before.priority in
    let b = after.priority in
    let p : prio_of R u ≡ prio_of R t = omega (arith, a, b) in
    let q : prio_of R t ≡ prio_of R u = omega (arith, a, b) in
    let m = before.serial p in
    let n = after.serial q in
    let serials : t.serial ≡ u.serial = omega (arith, m, n) in
    let kinds = (enters-made R core t enters).0 ∙ sym (enters-made R core u other).0 in
    λ i. record { kind = kinds i; serial = serials i }

module _ (users : List User) (g : RunState) (core : CoreId) where
  -- the due entries of one user are one
  one-due : (k j : Pick) → k.user ≡ j.user → (u v : User) (p q : Position) → CanGive users g core k.user u p → k.number ≡ due (log_of g.book) u p
      → CanGive users g core j.user v q → j.number ≡ due (log_of g.book) v q → k ≡ j
  one-due k j e u v p q a m b n =
      let R = log_of g.book in
      let user : u ≡ v = one-at users j.user u v (subst (λ i. slice_get users i ≡ Some u) e a.user) b.user in
      let place : p ≡ q = one-at g.places j.user p q (subst (λ i. slice_get g.places i ≡ Some p) e a.place) b.place in
      let number : k.number ≡ j.number = m ∙ ap (λ w. due R w p) user ∙ ap (λ r. due R v r) place ∙ sym n in
      λ i. record { user = e i; number = number i }

  one-picked : (k j : Pick) → k.user ≡ j.user → CanBePicked users g core k → CanBePicked users g core j → k ≡ j
  one-picked k j e a b = one-due k j e a.user b.user a.place b.place a.can a.number b.can b.number

  -- what the serial schedule lets a core pick is the best
  serial-best : AreApart users → (k j : Pick) (a : CanBePicked users g core k) → a.user.schedule ≡ schedule.Serial → IsBest users g core j → k ≡ j
  serial-best apart k j a serial b =
      let R = log_of g.book in
      let before : GoesBefore R a.user.thread b.user.thread = subst (λ s. MayPrecede s R a.user.thread b.user.thread) serial (a.best j.user b.user b.place b.can) in
      let thread = one-thread R core a.user.thread b.user.thread a.can.enters b.can.enters before (b.best k.user a.user a.place a.can) in
      let place : k.user ≡ j.user = apart k.user j.user a.user b.user a.can.user b.can.user (subst (λ t. same a.user.thread t ≡ true) thread (same-self a.user.thread)) in
      one-due k j place a.user b.user a.place b.place a.can a.number b.can b.number

  module _ (best : Pick) (is : IsBest users g core best) where
    -- what a user can give may be picked, where its thread may precede all that the best precedes
    given-picked : (k : Pick) (t : ObjId) (u : User) → Gives users g core k.user k t → slice_get users k.user ≡ Some u
        → ((v : User) → GoesBefore (log_of g.book) is.user.thread v.thread → MayPrecede u.schedule (log_of g.book) u.thread v.thread) → CanBePicked users g core k
    given-picked k t u gives at precedes =
        let user : gives.user ≡ u = one-at users k.user gives.user u gives.can.user at in
        record {
          user = u;
          place = gives.place;
          can = subst (λ w. CanGive users g core k.user w gives.place) user gives.can;
          number = ap (λ (j : Pick). j.number) gives.number ∙ ap (λ w. due (log_of g.book) w gives.place) user;
          best = λ i v q can. precedes v (is.best i v q can);
        }

    pub serial-yes : (k : Pick) (t : ObjId) (u : User) → Gives users g core k.user k t → slice_get users k.user ≡ Some u → u.schedule ≡ schedule.Serial → is_same k best ≡ true → CanBePicked users g core k
    serial-yes k t u gives at serial one =
        let R = log_of g.book in
        let pick : k ≡ best = same-pick k best one in
        let user : is.user ≡ u = one-at users k.user is.user u (subst (λ (j : Pick). slice_get users j.user ≡ Some is.user) (sym pick) is.can.user) at in
        given-picked k t u gives at (λ v before. subst (λ s. MayPrecede s R u.thread v.thread) (sym serial) (subst (λ (w : User). GoesBefore R w.thread v.thread) user before))

    pub serial-no : AreApart users → (k : Pick) (t : ObjId) (u : User) → Gives users g core k.user k t → slice_get users k.user ≡ Some u → u.schedule ≡ schedule.Serial → is_same k best ≡ false
        → (j : Pick) → j.user ≡ k.user → CanBePicked users g core j → ⊥
    serial-no apart k t u gives at serial other j e can =
        let user : can.user ≡ u = one-at users k.user can.user u (subst (λ i. slice_get users i ≡ Some can.user) e can.can.user) at in
        let first : j ≡ best = serial-best apart j best can (ap (λ (w : User). w.schedule) user ∙ serial) is in
        let one : j ≡ k = one-due j k e can.user gives.user can.place gives.place can.can can.number gives.can (ap (λ (i : Pick). i.number) gives.number) in
        let wrong : true ≡ false = sym (same-itself best) ∙ ap (λ i. is_same i best) (sym first ∙ one) ∙ other in
        absurd cc

    pub equal-yes : (k : Pick) (t : ObjId) (u w : User) → Gives users g core k.user k t → slice_get users k.user ≡ Some u → u.schedule ≡ schedule.Equal
        → slice_get users best.user ≡ Some w → nat_lt (prio_of (log_of g.book) t) (prio_of (log_of g.book) w.thread) ≡ false → CanBePicked users g core k
    equal-yes k t u w gives at equal first above =
        let R = log_of g.book in
        let user : gives.user ≡ u = one-at users k.user gives.user u gives.can.user at in
        let thread : prio_of R t ≡ prio_of R u.thread = ap (λ x. prio_of R x) (gives.thread ∙ ap (λ (v : User). v.thread) user) in
        let its : prio_of R w.thread ≡ prio_of R is.user.thread = ap (λ (v : User). prio_of R v.thread) (one-at users best.user w is.user first is.can.user) in
        let high : prio_of R w.thread ≤ prio_of R t = grind (arith, nat_tests, above) in
        given-picked k t u gives at (λ v before.
        let lower = before.priority in
        let low : prio_of R v.thread ≤ prio_of R u.thread = omega (arith, lower, high, thread, its) in
        subst (λ s. MayPrecede s R u.thread v.thread) (sym equal) low)

    pub equal-no : (k : Pick) (t : ObjId) (u w : User) → Gives users g core k.user k t → slice_get users k.user ≡ Some u → u.schedule ≡ schedule.Equal
        → slice_get users best.user ≡ Some w → nat_lt (prio_of (log_of g.book) t) (prio_of (log_of g.book) w.thread) ≡ true
        → (j : Pick) → j.user ≡ k.user → CanBePicked users g core j → ⊥
    equal-no k t u w gives at equal first below j e can =
        let R = log_of g.book in
        let user : can.user ≡ u = one-at users k.user can.user u (subst (λ i. slice_get users i ≡ Some can.user) e can.can.user) at in
        let mine : gives.user ≡ u = one-at users k.user gives.user u gives.can.user at in
        let thread : prio_of R t ≡ prio_of R can.user.thread = ap (λ x. prio_of R x) (gives.thread ∙ ap (λ (v : User). v.thread) (mine ∙ sym user)) in
        let its : prio_of R w.thread ≡ prio_of R is.user.thread = ap (λ (v : User). prio_of R v.thread) (one-at users best.user w is.user first is.can.user) in
        let equals : can.user.schedule ≡ schedule.Equal = ap (λ (v : User). v.schedule) user ∙ equal in
        let low : prio_of R is.user.thread ≤ prio_of R can.user.thread = subst (λ s. MayPrecede s R can.user.thread is.user.thread) equals (can.best best.user is.user is.place is.can) in
        let under : prio_of R t < prio_of R w.thread = grind (arith, nat_tests, below) in
        absurd (omega (arith, low, under, thread, its))

    pub any-yes : (k : Pick) (t : ObjId) (u : User) → Gives users g core k.user k t → slice_get users k.user ≡ Some u → u.schedule ≡ schedule.Any → CanBePicked users g core k
    any-yes k t u gives at any = given-picked k t u gives at (λ v before. subst (λ s. MayPrecede s (log_of g.book) u.thread v.thread) (sym any) tt)

  -- nothing of a user that is not there, or that can give nothing there
  pub no-user-picked : (i : ℕ) → slice_get users i ≡ None → (k : Pick) → k.user ≡ i → CanBePicked users g core k → ⊥
  no-user-picked i none k e can = let wrong : None ≡ Some can.user = sym none ∙ subst (λ n. slice_get users n ≡ Some can.user) e can.can.user in absurd cc

  pub no-candidate-picked : (i : ℕ) → IsOffer users g i None → (k : Pick) → k.user ≡ i → CanBePicked users g core k → ⊥
  no-candidate-picked i none k e can = none core can.user can.place (subst (λ n. CanGive users g core n can.user can.place) e can.can)

  pub elsewhere-picked : (i : ℕ) (o : Candidate) → IsOffer users g i (Some o) → (core.0 ≡ o.core.0 → ⊥) → (k : Pick) → k.user ≡ i → CanBePicked users g core k → ⊥
  elsewhere-picked i o is other k e can = other (ap (λ (c : CoreId). c.0) (is.1 core can.user can.place (subst (λ n. CanGive users g core n can.user can.place) e can.can)))

  -- all that a core may pick of the first n users
  pub record ArePickedBelow (n : ℕ) (ks : List Pick) : Type 0 where
    pub picked : (k : Pick) → Contains ks k → CanBePicked users g core k
    pub below : (k : Pick) → Contains ks k → k.user < n
    pub all : (k : Pick) → k.user < n → CanBePicked users g core k → Contains ks k
    pub ascending : AreAscending ks

  pub picked-first : ArePickedBelow 0 []
  picked-first = record {
    picked = λ k c. absurd (none-in k c);
    below = λ k c. absurd (none-in k c);
    all = λ k low can. absurd (omega (arith, low));
    ascending = λ i j d low within. absurd (omega (arith, low, within));
  }

  pub picked-more : (n : ℕ) (ks : List Pick) (k : Pick) → k.user ≡ n → CanBePicked users g core k → ArePickedBelow n ks → ArePickedBelow (n + 1) (ks ++ k ∷ [])
  picked-more n ks k e can before = record {
    picked = λ j c. picked j (Contains-push_cases ks k j c);
    below = λ j c. below j (Contains-push_cases ks k j c);
    all = λ j low may. all j may (nat_split j.user n low);
    ascending = all_pairs_push (λ (i j : Pick). i.user < j.user) ks k before.ascending (λ i d low. let under = before.below (get_or ks i d) (Contains-get_or ks i d low) in omega (arith, under, e));
  }
    where
      picked : (j : Pick) → Contains ks j ⊎ (k ≡ j) → CanBePicked users g core j
      picked j (inl c) = before.picked j c
      picked j (inr one) = subst (λ i. CanBePicked users g core i) one can

      below : (j : Pick) → Contains ks j ⊎ (k ≡ j) → j.user < n + 1
      below j (inl c) = let low = before.below j c in omega (arith, low)
      below j (inr one) = let user : k.user ≡ j.user = ap (λ (i : Pick). i.user) one in omega (arith, user, e)

      all : (j : Pick) → CanBePicked users g core j → (j.user < n) ⊎ (j.user ≡ n) → Contains (ks ++ k ∷ []) j
      all j may (inl low) = Contains-append_left ks (k ∷ []) j (before.all j low may)
      all j may (inr same) = subst (λ i. Contains (ks ++ k ∷ []) i) (one-picked k j (e ∙ sym same) can may) (Contains-push ks k)

  pub picked-less : (n : ℕ) (ks : List Pick) → ((k : Pick) → k.user ≡ n → CanBePicked users g core k → ⊥) → ArePickedBelow n ks → ArePickedBelow (n + 1) ks
  picked-less n ks none before = record {
    picked = before.picked;
    below = λ k c. let low = before.below k c in omega (arith, low);
    all = λ k low can. all k can (nat_split k.user n low);
    ascending = before.ascending;
  }
    where
      all : (k : Pick) → CanBePicked users g core k → (k.user < n) ⊎ (k.user ≡ n) → Contains ks k
      all k can (inl low) = before.all k low can
      all k can (inr e) = absurd (none k e can)

  pub picked-all : (n : ℕ) (ks : List Pick) → length users ≤ n → ArePickedBelow n ks → ArePicksOf users g core ks
  picked-all n ks long are = record {
    picked = are.picked;
    all = λ k can. are.all k (let within = slice_get_within users k.user can.user can.can.user in omega (arith, within, long)) can;
    ascending = are.ascending;
  }

  -- all users go by the serial schedule: the best alone
  is-serial : (us : List User) (i : ℕ) (u : User) → list_all is_serial us ≡ true → slice_get us i ≡ Some u → u.schedule ≡ schedule.Serial
  is-serial [] i u all at = absurd cc
  is-serial (v ∷ us) i u all at = go (is-serial us) i (parts (is_serial v) (list_all is_serial us) all) at
    where
      by : (s : Schedule) (w : User) → w.schedule ≡ s → is_serial w ≡ true → w.schedule ≡ schedule.Serial
      by schedule.Serial w e is = e
      by schedule.Equal w e is = let wrong : is_serial w ≡ false = rw e refl in absurd cc
      by schedule.Any w e is = let wrong : is_serial w ≡ false = rw e refl in absurd cc

      go : ((n : ℕ) (w : User) → list_all is_serial us ≡ true → slice_get us n ≡ Some w → w.schedule ≡ schedule.Serial)
          → (n : ℕ) → (is_serial v ≡ true) × (list_all is_serial us ≡ true) → slice_get (v ∷ us) n ≡ Some u → u.schedule ≡ schedule.Serial
      go rest zero h at = let first : v ≡ u = cc in by u.schedule u refl (subst (λ w. is_serial w ≡ true) first h.0)
      go rest (suc n) h at = rest n u h.1 at

  pub picked-serial : AreApart users → (best : Pick) → IsBest users g core best → list_all is_serial users ≡ true → (ks : List Pick) → ks ≡ best ∷ [] → ArePicksOf users g core ks
  picked-serial apart best is serial ks one = subst (λ js. ArePicksOf users g core js) (sym one) (record {
    picked = λ k c. subst (λ j. CanBePicked users g core j) (one-in best k c) (record {
      user = is.user;
      place = is.place;
      can = is.can;
      number = is.number;
      best = λ i v q can. subst (λ s. MayPrecede s (log_of g.book) is.user.thread v.thread) (sym (is-serial users best.user is.user serial is.can.user)) (is.best i v q can);
    });
    all = λ k can. subst (λ j. Contains (best ∷ []) j) (sym (serial-best apart k best can (is-serial users k.user can.user serial can.can.user) is)) (first-in best []);
    ascending = λ i j d low within. absurd (omega (arith, low, within));
  })

  pub picked-none : IsBestOf users g core None → (ks : List Pick) → ks ≡ [] → ArePicksOf users g core ks
  picked-none none ks empty = subst (λ js. ArePicksOf users g core js) (sym empty) (record {
    picked = λ k c. absurd (none-in k c);
    all = λ k can. absurd (none k.user can.user can.place can.can);
    ascending = λ i j d low within. absurd (omega (arith, low, within));
  })

-- what is in a place of a longer list
at-push : {A : Type 0} (xs : List A) (i : ℕ) (x y : A) → slice_get (xs ++ x ∷ []) i ≡ Some y → (slice_get xs i ≡ Some y) ⊎ ((i ≡ length xs) × (x ≡ y))
at-push [] zero x y at = inr (refl, cc)
at-push [] (suc i) x y at = absurd cc
at-push (z ∷ xs) zero x y at = inl at
at-push (z ∷ xs) (suc i) x y at = go (at-push xs i x y at)
  where
    go : (slice_get xs i ≡ Some y) ⊎ ((i ≡ length xs) × (x ≡ y)) → (slice_get (z ∷ xs) (suc i) ≡ Some y) ⊎ ((suc i ≡ length (z ∷ xs)) × (x ≡ y))
    go (inl h) = inl h
    go (inr h) = inr (ap (λ n. suc n) h.0, h.1)

-- what the first n cores may pick
pub record ArePicksBelow (users : List User) (g : RunState) (n : ℕ) (picks : List (List Pick)) : Type 0 where
  pub long : length picks ≡ n
  pub each : (core : CoreId) (ks : List Pick) → slice_get picks core.0 ≡ Some ks → ArePicksOf users g core ks

pub picks-first : (users : List User) (g : RunState) → ArePicksBelow users g 0 []
picks-first users g = record { long = refl; each = λ core ks at. absurd cc }

pub picks-next : (users : List User) (g : RunState) (n : ℕ) (picks : List (List Pick)) (core : CoreId) (ks : List Pick) → core.0 ≡ n → ArePicksOf users g core ks
    → ArePicksBelow users g n picks → ArePicksBelow users g (n + 1) (picks ++ ks ∷ [])
picks-next users g n picks core ks e are before = record {
  long = length_push picks ks ∙ ap (λ m. m + 1) before.long;
  each = λ c js at. each c js (at-push picks c.0 ks js at);
}
  where
    each : (c : CoreId) (js : List Pick) → (slice_get picks c.0 ≡ Some js) ⊎ ((c.0 ≡ length picks) × (ks ≡ js)) → ArePicksOf users g c js
    each c js (inl h) = before.each c js h
    each c js (inr h) =
        let core-is : core.0 ≡ c.0 = e ∙ sym before.long ∙ sym h.0 in
        subst (λ (m : ℕ). ArePicksOf users g (record { 0 = m }) js) core-is (subst (λ xs. ArePicksOf users g core xs) h.1 are)

pub picks-all : (users : List User) (g : RunState) (n : ℕ) (picks : List (List Pick)) → n ≡ g.book.boot.cores → ArePicksBelow users g n picks → ArePicks users g picks
picks-all users g n picks e are = record { cores = are.long ∙ e; each = are.each }

-- the best of a core that is there
pub best-there : (users : List User) (g : RunState) (best : List (Option Pick)) (core : CoreId) → core.0 < length best → AreBest users g best → IsBestOf users g core (best_at best core.0)
best-there users g best core low are = go (slice_get best core.0) refl (within best core.0 low)
  where
    within : (xs : List (Option Pick)) (n : ℕ) → n < length xs → (x : Option Pick) × (slice_get xs n ≡ Some x)
    within [] n less = absurd (omega (arith, less))
    within (x ∷ xs) zero less = (x, refl)
    within (x ∷ xs) (suc n) less = within xs n (omega (arith, less))

    go : (o : Option (Option Pick)) → slice_get best core.0 ≡ o → (x : Option Pick) × (slice_get best core.0 ≡ Some x) → IsBestOf users g core (best_at best core.0)
    go None e (x, at) = let wrong : None ≡ Some x = sym e ∙ at in absurd cc
    go (Some k) e there = subst (λ p. IsBestOf users g core p) (sym (is k e)) (are.each core k e)
      where
        is : (p : Option Pick) → slice_get best core.0 ≡ Some p → best_at best core.0 ≡ p
        is p h = rw h refl

-- what a test is whose contrary is known
pub off : (b : Bool) → not b ≡ true → b ≡ false
off true e = absurd cc
off false e = refl

pub on : (b : Bool) → not b ≡ false → b ≡ true
on true e = refl
on false e = absurd cc
