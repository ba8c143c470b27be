-- What is noted of the turns from a point.
use Rattle.std.specs.Prelude.{ℕ, zero, suc, ◌≡◌, ◌<◌, ◌≤◌, ◌+◌, ◌-◌, take, drop, ◌++◌, ◌⊎◌, Bool, true, Vec, IfOk, Ok, Err, Result, List, [], ◌∷◌, Some, length, slice_get, slice_index_or}
use Rattle.std.specs.declared.alloc.Global.{Global}
use Rattle.std.specs.List.{Contains}
use Rattle.std.proofs.Common.{refl, sym, ap, ◌∙◌, subst, arith, inl, inr}
use Rattle.std.proofs.lemmas.List.Elements.{Contains-append_cases}
use mathlib.Core.List.{append-nil}
use Rattle.mcs_turns.specs.Turns.{User, RunState}
use Rattle.mcs_turns.proofs.OneTurn.{one-turn}
use Rattle.mcs_explore_search.specs.Search.{AreNexts, IsAmong, IsNext}
use Rattle.mcs_explore_search.proofs.Places.{at-last, at-old, at-split}
use Rattle.mcs_explore_walk.specs.declared.walk.Turn.{Turn}
use Rattle.mcs_explore_rows.specs.Rows.{IsKey}
use Rattle.mcs_explore_search.specs.Paths.{Path}
use Rattle.mcs_explore_walk.specs.Walks.{HasEachTurn}
use Rattle.mcs_explore_orders.specs.Trails.{Leads}
use Rattle.mcs_explore_orders.proofs.Paths.{path-one, take-on}
use Rattle.mcs_explore_orders.specs.Exploring.{AreNextsOf, Exploring, IsKeyIn, IsLater, numbers_of}
use Rattle.mcs_explore_orders.specs.Later.{keeps-keys}

-- a turn and the numbers of a key
abbrev pair : Turn → List ℕ → Turn × List ℕ
pair t k = (t, k)

-- the one element of a list
pub single : (t l : Turn) → Contains (t ∷ []) l → l ≡ t
single t l h = go h.0 h.1 h.2
  where
    go : (i : ℕ) → i < 1 → slice_index_or (t ∷ []) i l ≡ l → l ≡ t
    go zero lt e = sym e
    go (suc i) lt e = absurd (omega (arith, lt))

-- a search that has interned more rows
module _ (e f : Exploring) (later : IsLater e f) (g : RunState) where
  leads-there : (l : Turn) (h : RunState) → Leads e.users l g h → Leads f.users l g h
  leads-there l h x = subst (λ us. Leads us l g h) (sym later.users) x

  leads-here : (l : Turn) (h : RunState) → Leads f.users l g h → Leads e.users l g h
  leads-here l h x = subst (λ us. Leads us l g h) later.users x

  next-there : (l : Turn) (k : List ℕ) → IsNext (Leads e.users) (IsKeyIn e) g l k → IsNext (Leads f.users) (IsKeyIn f) g l k
  next-there l k n = record { state = n.state; step = leads-there l n.state n.step; key = keeps-keys e f later n.state k n.key }

  among-there : (nexts more : List (Turn × List ℕ)) (l : Turn) (h : RunState) → IsAmong (IsKeyIn e) nexts l h → IsAmong (IsKeyIn f) (nexts ++ more) l h
  among-there nexts more l h a = record { place = a.place; key = a.key; at = at-old nexts more a.place _ a.at; is = keeps-keys e f later h a.key a.is }

  -- a turn that the rule does not have adds nothing
  pub none-more : (ts : List Turn) (t : Turn) (nexts : List (Turn × List ℕ)) → ((h : RunState) → Leads e.users t g h → ⊥) → AreNextsOf e g ts nexts → AreNextsOf f g (ts ++ t ∷ []) nexts
  none-more ts t nexts none are = record {
    each = λ i l k at. next-there l k (are.each i l k at);
    all = λ l h among x. go l h x (Contains-append_cases ts (t ∷ []) l among);
  }
    where
      same-end : (l : Turn) (h : RunState) → IsAmong (IsKeyIn f) (nexts ++ []) l h → IsAmong (IsKeyIn f) nexts l h
      same-end l h a = subst (λ ns. IsAmong (IsKeyIn f) ns l h) (append-nil nexts) a

      go : (l : Turn) (h : RunState) → Leads f.users l g h → Contains ts l ⊎ Contains (t ∷ []) l → IsAmong (IsKeyIn f) nexts l h
      go l h x (inl c) = same-end l h (among-there nexts [] l h (are.all l h c (leads-here l h x)))
      go l h x (inr c) = absurd (none h (subst (λ u. Leads e.users u g h) (single t l c) (leads-here l h x)))

  -- one that it has adds its key
  pub one-more : (ts : List Turn) (t : Turn) (nexts : List (Turn × List ℕ)) (k : List ℕ)
      → ((h : RunState) × (Leads e.users t g h × IsKeyIn f h k)) → AreNextsOf e g ts nexts → AreNextsOf f g (ts ++ t ∷ []) (nexts ++ (t, k) ∷ [])
  one-more ts t nexts k some are = record {
    each = λ i l c at. each l c (at-split nexts (t, k) i (l, c) at);
    all = λ l h among x. go l h x (Contains-append_cases ts (t ∷ []) l among);
  }
    where
      new : IsNext (Leads f.users) (IsKeyIn f) g t k
      new = record { state = some.0; step = leads-there t some.0 some.1.0; key = some.1.1 }

      moved : (l : Turn) (c : List ℕ) → pair l c ≡ pair t k → IsNext (Leads f.users) (IsKeyIn f) g l c
      moved l c e = subst (λ (p : Turn × List ℕ). IsNext (Leads f.users) (IsKeyIn f) g p.0 p.1) (sym e) new

      each : {i : ℕ} (l : Turn) (c : List ℕ) → (slice_get nexts i ≡ Some (l, c)) ⊎ ((i ≡ length nexts) × (pair l c ≡ pair t k)) → IsNext (Leads f.users) (IsKeyIn f) g l c
      each {i} l c (inl at) = next-there l c (are.each i l c at)
      each l c (inr is) = moved l c is.1

      go : (l : Turn) (h : RunState) → Leads f.users l g h → Contains ts l ⊎ Contains (t ∷ []) l → IsAmong (IsKeyIn f) (nexts ++ (t, k) ∷ []) l h
      go l h x (inl c) = among-there nexts ((t, k) ∷ []) l h (are.all l h c (leads-here l h x))
      go l h x (inr c) =
          let same : l ≡ t = single t l c in
          let one : some.0 ≡ h = one-turn e.users t.core t.pick g some.0 h some.1.0 (subst (λ u. Leads e.users u g h) same (leads-here l h x)) in
          subst (λ (u : Turn). IsAmong (IsKeyIn f) (nexts ++ (t, k) ∷ []) u h) (sym same)
          (record { place = length nexts; key = k; at = at-last nexts (t, k); is = subst (λ u. IsKeyIn f u k) one some.1.1 })

-- the numbers of a key in a place
number-at : (nexts : List (Turn × Vec ℕ Global)) (i : ℕ) (l : Turn) (k : Vec ℕ Global) → slice_get nexts i ≡ Some (l, k) → slice_get (numbers_of nexts) i ≡ Some (l, k.items)
number-at [] i l k e = absurd cc
number-at (n ∷ nexts) zero l k e = let same : n ≡ (l, k) = cc in ap (λ (m : Turn × Vec ℕ Global). Some (m.0, m.1.items)) same
number-at (n ∷ nexts) (suc i) l k e = number-at nexts i l k e

-- the key of numbers in a place
at-number : (nexts : List (Turn × Vec ℕ Global)) (i : ℕ) (l : Turn) (ns : List ℕ) → slice_get (numbers_of nexts) i ≡ Some (l, ns) → (k : Vec ℕ Global) × ((slice_get nexts i ≡ Some (l, k)) × (k.items ≡ ns))
at-number [] i l ns e = absurd cc
at-number (n ∷ nexts) zero l ns e =
    let same : pair n.0 n.1.items ≡ pair l ns = cc in
    (n.1, (ap (λ (m : Turn × List ℕ). Some (m.0, n.1)) same, ap (λ (m : Turn × List ℕ). m.1) same))
at-number (n ∷ nexts) (suc i) l ns e = at-number nexts i l ns e

-- all turns of a point
pub are-nexts : (e : Exploring) (ts : List Turn) (nexts : List (Turn × Vec ℕ Global)) (g : RunState) → ((l : Turn) (h : RunState) → Leads e.users l g h → Contains ts l)
    → AreNextsOf e g ts (numbers_of nexts) → AreNexts (Leads e.users) (λ h (k : Vec ℕ Global). IsKeyIn e h k.items) g nexts
are-nexts e ts nexts g has are = record {
  each = λ i l k at. let n = are.each i l k.items (number-at nexts i l k at) in record { state = n.state; step = n.step; key = n.key };
  all = λ l h x.
      let a = are.all l h (has l h x) x in
      let k = at-number nexts a.place l a.key a.at in
      record { place = a.place; key = k.0; at = k.1.0; is = subst (λ ns. IsKeyIn e h ns) (sym k.1.1) a.is };
}

-- a key of another state that is the same
pub keyed : {E : Type 0} (r : Result (Vec ℕ Global) E) (old new a b : Bool) (met : List (List ℕ)) (users : List User) (g h : RunState) → new ≡ old → b ≡ a → g ≡ h
    → (old ≡ true → IfOk r (λ (k : Vec ℕ Global). IsKey a met users g k.items)) → IfOk r (λ (k : Vec ℕ Global). new ≡ true → IsKey b met users h k.items)
keyed (Ok k) old new a b met users g h mode apart same is = λ exact. subst (λ n. IsKey n met users h k.items) (sym apart) (subst (λ x. IsKey a met users x k.items) same (is (sym mode ∙ exact)))
keyed (Err e) old new a b met users g h mode apart same is = tt

-- all of a list
pub take-all : {A : Type 0} (xs : List A) (n : ℕ) → length xs ≤ n → take n xs ≡ xs
take-all [] zero le = refl
take-all [] (suc n) le = refl
take-all (x ∷ xs) zero le = absurd (omega (arith, le))
take-all (x ∷ xs) (suc n) le = ap (λ ys. x ∷ ys) (take-all xs n (omega (arith, le)))

-- what is left of a list
pub rest-all : {A : Type 0} (xs : List A) (n : ℕ) → take (length xs - n) (drop n xs) ≡ drop n xs
rest-all xs zero = take-all xs (length xs - 0) (omega arith)
rest-all {A = A} [] (suc n) = none (0 - suc n)
  where
    empty : List A
    empty = []

    none : (m : ℕ) → take m empty ≡ empty
    none zero = refl
    none (suc m) = refl
rest-all (x ∷ xs) (suc n) = ap (λ m. take m (drop n xs)) (fewer (length xs)) ∙ rest-all xs n
  where
    fewer : (m : ℕ) → suc m - suc n ≡ m - n
    fewer m = omega arith

-- of no turn all was noted
pub no-turns : {A : Type 0} (xs : List A) → length xs ≡ 0 → xs ≡ []
no-turns [] e = refl
no-turns (x ∷ xs) e = absurd (omega (arith, e))

-- what was noted of all turns from the end of a path
pub all-nexts : (users : List User) → (start : RunState) (path : List Turn) (reported now : Exploring) (g : RunState) (ts : List Turn) (nexts : List (Turn × Vec ℕ Global))
    → Path (Leads users) start path g → reported.users ≡ users → IsLater reported now → HasEachTurn reported.users g ts → AreNextsOf now g ts (numbers_of nexts)
    → (s : RunState) → Path (Leads users) start path s → AreNexts (Leads now.users) (λ h (k : Vec ℕ Global). IsKeyIn now h k.items) s nexts
all-nexts users start path reported now g ts nexts end same_users later has are s leads =
    subst (λ x. AreNexts (Leads now.users) (λ h (k : Vec ℕ Global). IsKeyIn now h k.items) x nexts) (path-one users start path g s end leads)
    (are-nexts now ts nexts g (λ l h x. has l.core l.pick h (subst (λ us. Leads us l g h) later.users x)) are)

-- of no turn nothing was noted, and one turn more
pub no-nexts : (e : Exploring) (g : RunState) (ts : List Turn) (nexts : List (Turn × Vec ℕ Global)) → nexts ≡ [] → AreNextsOf e g (take 0 ts) (numbers_of nexts)
no-nexts e g ts nexts empty = subst (λ (ns : List (Turn × Vec ℕ Global)). AreNextsOf e g [] (numbers_of ns)) (sym empty) (record {
  each = λ i l k at. absurd cc;
  all = λ l h among. absurd (none l among);
})
  where
    none : (l : Turn) → Contains [] l → ⊥
    none l c = let lt = c.1 in omega (arith, lt)

pub next-more : (e : Exploring) (g : RunState) (ts : List Turn) (n : ℕ) (t : Turn) (nexts : List (Turn × List ℕ)) → slice_get ts n ≡ Some t → AreNextsOf e g (take n ts ++ t ∷ []) nexts → AreNextsOf e g (take (n + 1) ts) nexts
next-more e g ts n t nexts at are = subst (λ us. AreNextsOf e g us nexts) (sym (take-on ts n t at)) are
