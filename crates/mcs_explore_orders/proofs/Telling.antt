-- What was reported of states and turns.
use Rattle.std.specs.Prelude.{ℕ, zero, suc, ◌≡◌, ◌≤◌, ◌<◌, ◌+◌, ◌++◌, ◌⊎◌, ◌↔◌, ◌-◌, ◌^◌, take, min, Bool, true, false, List, [], ◌∷◌, Some, Result, Ok, Err, length, slice_get}
use Rattle.std.specs.Result.{OnOk}
use Rattle.std.specs.Int.{from_bool}
use Rattle.std.specs.List.{Contains}
use Rattle.std.proofs.Common.{refl, sym, ap, ◌∙◌, subst, arith, inl, inr, append_assoc, append-nil}
use Rattle.std.proofs.lemmas.List.Elements.{Contains-append_cases}
use Rattle.mcs_types.specs.declared.entry.Answer.{Answer}
use Rattle.mcs_book.specs.Boots.{Boot}
use Rattle.mcs_turns.specs.declared.position.Position.{Position}
use Rattle.mcs_turns.specs.Turns.{User, RunState, Follows, IsOver, beginning}
use Rattle.mcs_turns.proofs.OneTurn.{one-turn}
use Rattle.mcs_explore_search.specs.Paths.{Path}
use Rattle.mcs_explore_search.proofs.Places.{at-last, at-old, at-split, one-longer}
use Rattle.mcs_explore_walk.specs.declared.walk.Turn.{Turn}
use Rattle.mcs_explore_walk.specs.Walks.{HasEachTurn, last_answer}
use Rattle.mcs_explore_orders.specs.Trails.{Leads}
use Rattle.mcs_explore_orders.specs.Exploring.{Exploring, IsLater}
use Rattle.mcs_explore_orders.specs.Watching.{Watching, counting}
use Rattle.mcs_explore_orders.specs.Shown.{AreShown, AreShownOf, Counting, HasCounted, HasSeenAll, IsShown, IsStateAt, IsShownState, IsShownTurn, IsTurnFrom, IsTurnOf, Made, SeesState, SeesTurn, Shown, SeenState, Tells, TellsOn, ends_in, nothing, with_turns}
use Rattle.mcs_explore_orders.proofs.Nexts.{single}
use Rattle.mcs_explore_orders.proofs.Paths.{path-one, take-on}

-- what is reported of a state: it is over, or a turn is possible
pub over-is : (users : List User) (g : RunState) (over : Bool) → (over ≡ true → IsOver users g) → (over ≡ false → (h : RunState) × Follows users g h) → (over ≡ true) ↔ IsOver users g
over-is users g true ends goes = (ends, λ over. refl)
over-is users g false ends goes = (ends, λ over. let f = goes refl in absurd (over f.0 f.1))

-- places in two lists, one after the other
at-both : {A : Type 0} (xs ys : List A) (j : ℕ) (m : A) → slice_get (xs ++ ys) j ≡ Some m → (slice_get xs j ≡ Some m) ⊎ ((k : ℕ) × (slice_get ys k ≡ Some m))
at-both [] ys j m at = inr (j, at)
at-both (x ∷ xs) ys zero m at = inl at
at-both (x ∷ xs) ys (suc j) m at = at-both xs ys j m at

at-after : {A : Type 0} (xs ys : List A) (k : ℕ) (m : A) → slice_get ys k ≡ Some m → (j : ℕ) × (slice_get (xs ++ ys) j ≡ Some m)
at-after [] ys k m at = (k, at)
at-after (x ∷ xs) ys k m at = let r = at-after xs ys k m at in (suc r.0, r.1)

below-at : {A : Type 0} (xs : List A) (i : ℕ) (x : A) → slice_get xs i ≡ Some x → i < length xs
below-at [] i x at = absurd cc
below-at (y ∷ xs) zero x at = omega arith
below-at (y ∷ xs) (suc i) x at = let below = below-at xs i x at in omega (arith, below)

-- turns from states in places up to this one, and after them those from the state in this place
sorted-both : (xs ys : List Made) (p : ℕ) → ((j k : ℕ) (m n : Made) → j ≤ k → slice_get xs j ≡ Some m → slice_get xs k ≡ Some n → m.place ≤ n.place) → ((j : ℕ) (m : Made) → slice_get xs j ≡ Some m → m.place ≤ p)
    → ((k : ℕ) (n : Made) → slice_get ys k ≡ Some n → n.place ≡ p) → (j k : ℕ) (m n : Made) → j ≤ k → slice_get (xs ++ ys) j ≡ Some m → slice_get (xs ++ ys) k ≡ Some n → m.place ≤ n.place
sorted-both [] ys p sorted low same j k m n le a b = let x = same j m a in let y = same k n b in omega (arith, x, y)
sorted-both (x ∷ xs) ys p sorted low same zero zero m n le a b = let e : m.place ≡ n.place = ap (λ (z : Made). z.place) (one-some m n (sym a ∙ b)) in omega (arith, e)
  where
    one-some : (m n : Made) → Some m ≡ Some n → m ≡ n
    one-some m n e = cc
sorted-both (x ∷ xs) ys p sorted low same zero (suc k) m n le a b = go (at-both xs ys k n b)
  where
    go : (slice_get xs k ≡ Some n) ⊎ ((i : ℕ) × (slice_get ys i ≡ Some n)) → m.place ≤ n.place
    go (inl h) = sorted zero (suc k) m n (omega arith) a h
    go (inr h) = let y = same h.0 n h.1 in let l = low zero m a in omega (arith, y, l)
sorted-both (x ∷ xs) ys p sorted low same (suc j) zero m n le a b = absurd (omega (arith, le))
sorted-both (x ∷ xs) ys p sorted low same (suc j) (suc k) m n le a b =
    sorted-both xs ys p (λ i h u v below c d. sorted (suc i) (suc h) u v (omega (arith, below)) c d) (λ i u c. low (suc i) u c) same j k m n (omega (arith, le)) a b

shown-more : (old more : List Made) (place : ℕ) (t : Turn) (h : RunState) → IsShown old place t h → IsShown (old ++ more) place t h
shown-more old more place t h s = record { number = s.number; made = s.made; at = at-old old more s.number s.made s.at; place = s.place; turn = s.turn; run_state = s.run_state }

shown-after : (old more : List Made) (place : ℕ) (t : Turn) (h : RunState) → IsShown more place t h → IsShown (old ++ more) place t h
shown-after old more place t h s = let r = at-after old more s.number s.made s.at in record { number = r.0; made = s.made; at = r.1; place = s.place; turn = s.turn; run_state = s.run_state }

-- before the first turn
pub nothing-shown : (users : List User) (start : RunState) → AreShown users start [] nothing
nothing-shown users start = record {
  long = refl;
  states = λ i s at. absurd cc;
  turns = λ j m at. absurd cc;
  all = λ i path g h t at. absurd cc;
  sorted = λ j k m n le at. absurd cc;
}

pub nothing-reported : {W : Type 0} (Has : W → List User → Shown → Type 0) (a : W) (users : List User) (place : ℕ) (g : RunState) → Tells Has a a users place g []
nothing-reported Has a users place g = λ shown has. (
  [],
  (
    subst (λ (ms : List Made). Has a users (record shown { turns = ms })) (sym (append-nil shown.turns)) has,
    record {
      place = λ j m at. absurd cc;
      turns = λ j m at. absurd cc;
      all = λ t h among. absurd (no-among t among);
    },
  ),
)
  where
    no-among : (t : Turn) → Contains [] t → ⊥
    no-among t c = let lt = c.1 in omega (arith, lt)

-- a turn that the rule does not have is not reported
pub none-reported : {W : Type 0} (Has : W → List User → Shown → Type 0) (a b : W) (users : List User) (place : ℕ) (g : RunState) (t : Turn) → b ≡ a → ((h : RunState) → Leads users t g h → ⊥) → TellsOn Has a b users place g t
none-reported Has a b users place g t same none = λ shown ts made has are. (
  made,
  (
    subst (λ w. Has w users (with_turns made shown)) (sym same) has,
    record {
      place = are.place;
      turns = are.turns;
      all = λ l h among leads. go ts made are l h leads (Contains-append_cases ts (t ∷ []) l among);
    },
  ),
)
  where
    go : (ts : List Turn) (made : List Made) → AreShownOf users place g ts made → (l : Turn) (h : RunState) → Leads users l g h → Contains ts l ⊎ Contains (t ∷ []) l → IsShown made place l h
    go ts made are l h leads (inl c) = are.all l h c leads
    go ts made are l h leads (inr c) = absurd (none h (subst (λ u. Leads users u g h) (single t l c) leads))

-- one that it has is reported
pub one-reported : {W : Type 0} (Has : W → List User → Shown → Type 0) (a b : W) (users : List User) → (place : ℕ) (g : RunState) (t : Turn) → IsShownTurn Has a b users place t g → TellsOn Has a b users place g t
one-reported Has a b users place g t reported = λ shown ts made has are. (
  made ++ m ∷ [],
  (
    subst (λ (ms : List Made). Has b users (record shown { turns = ms })) (append_assoc shown.turns made (m ∷ [])) (reported.sees (with_turns made shown) has),
    record {
      place = λ j x at. places made are j x (at-split made m j x at);
      turns = λ j x at. turns ts made are j x (at-split made m j x at);
      all = λ l h among leads. all ts made are l h leads (Contains-append_cases ts (t ∷ []) l among);
    },
  ),
)
  where
    m : Made
    m = record { place = place; turn = t; answer = reported.answer; from = g.places; run_state = reported.run_state }

    places : {ts : List Turn} (made : List Made) → AreShownOf users place g ts made → (j : ℕ) (x : Made) → (slice_get made j ≡ Some x) ⊎ ((j ≡ length made) × (x ≡ m)) → x.place ≡ place
    places made are j x (inl h) = are.place j x h
    places made are j x (inr e) = ap (λ (y : Made). y.place) e.1

    turns : (ts : List Turn) (made : List Made) → AreShownOf users place g ts made → (j : ℕ) (x : Made) → (slice_get made j ≡ Some x) ⊎ ((j ≡ length made) × (x ≡ m)) → IsTurnFrom users g x
    turns ts made are j x (inl h) = are.turns j x h
    turns ts made are j x (inr e) = subst (λ (y : Made). IsTurnFrom users g y) (sym e.1) reported.is

    all : (ts : List Turn) (made : List Made) → AreShownOf users place g ts made → (l : Turn) (h : RunState) → Leads users l g h → Contains ts l ⊎ Contains (t ∷ []) l → IsShown (made ++ m ∷ []) place l h
    all ts made are l h leads (inl c) = shown-more made (m ∷ []) place l h (are.all l h c leads)
    all ts made are l h leads (inr c) =
        let same : l ≡ t = single t l c in
        record {
          number = length made;
          made = m;
          at = at-last made m;
          place = refl;
          turn = sym same;
          run_state = one-turn users t.core t.pick g reported.run_state h reported.is.leads (subst (λ u. Leads users u g h) same leads);
        }

-- one turn more of those from a state
pub tells-more : {W : Type 0} (Has : W → List User → Shown → Type 0) (a b c : W) (users others : List User) (place : ℕ) (g : RunState) (ts : List Turn) (i : ℕ) (t : Turn) → others ≡ users → slice_get ts i ≡ Some t
    → TellsOn Has b c others place g t → Tells Has a b users place g (take i ts) → Tells Has a c users place g (take (i + 1) ts)
tells-more {W = W} Has a b c users others place g ts i t same at on tells = λ shown has.
    let r = tells shown has in
    let reported : TellsOn Has b c users place g t = subst (λ us. TellsOn Has b c us place g t) same on in
    let more = reported shown (take i ts) r.0 r.1.0 r.1.1 in
    (more.0, (more.1.0, subst (λ us. AreShownOf users place g us more.0) (sym (take-on ts i t at)) more.1.1))

module _ (users : List User) (start : RunState) (paths : List (List Turn)) (path : List Turn) where
  state-more : (i : ℕ) (s : SeenState) → IsStateAt users start paths i s → IsStateAt users start (paths ++ path ∷ []) i s
  state-more i s is = record { place = is.place; path = is.path; at = at-old paths (path ∷ []) i is.path is.at; leads = is.leads; over = is.over }

  turn-more : (m : Made) → IsTurnOf users start paths m → IsTurnOf users start (paths ++ path ∷ []) m
  turn-more m is = record { path = is.path; at = at-old paths (path ∷ []) m.place is.path is.at; state = is.state; leads = is.leads; turn = is.turn }

  -- a state more, and the turns from it
  pub shown-on : {W : Type 0} (Has : W → List User → Shown → Type 0) (a b c : W) (place : ℕ) (g : RunState) (ts : List Turn) → Path (Leads users) start path g → length paths ≡ place → HasEachTurn users g ts
      → IsShownState Has a b users place g → Tells Has b c users place g ts → HasSeenAll Has a users start paths → HasSeenAll Has c users start (paths ++ path ∷ [])
  shown-on Has a b c place g ts leads long each reported tells old = record { shown = with_turns made (record s { states = s.states ++ x ∷ [] }); has = r.1.0; are = are }
    where
      s : Shown
      s = old.shown

      x : SeenState
      x = record { place = place; run_state = g; is_over = reported.is_over }

      r : (made : List Made) × (Has c users (with_turns made (record s { states = s.states ++ x ∷ [] })) × AreShownOf users place g ts made)
      r = tells (record s { states = s.states ++ x ∷ [] }) (reported.sees s old.has)

      made : List Made
      made = r.0

      mine : AreShownOf users place g ts made
      mine = r.1.1

      state : (i : ℕ) (y : SeenState) → (slice_get s.states i ≡ Some y) ⊎ ((i ≡ length s.states) × (y ≡ x)) → IsStateAt users start (paths ++ path ∷ []) i y
      state i y (inl h) = state-more i y (old.are.states i y h)
      state i y (inr e) = subst (λ (z : SeenState). IsStateAt users start (paths ++ path ∷ []) i z) (sym e.1) (record {
        place = sym long ∙ sym old.are.long ∙ sym e.0;
        path = path;
        at = subst (λ n. slice_get (paths ++ path ∷ []) n ≡ Some path) (sym (e.0 ∙ old.are.long)) (at-last paths path);
        leads = leads;
        over = reported.over;
      })

      turn : (m : Made) → ((j : ℕ) × (slice_get s.turns j ≡ Some m)) ⊎ ((k : ℕ) × (slice_get made k ≡ Some m)) → IsTurnOf users start (paths ++ path ∷ []) m
      turn m (inl h) = turn-more m (old.are.turns h.0 m h.1)
      turn m (inr h) = record {
        path = path;
        at = subst (λ n. slice_get (paths ++ path ∷ []) n ≡ Some path) (long ∙ sym (mine.place h.0 m h.1)) (at-last paths path);
        state = g;
        leads = leads;
        turn = mine.turns h.0 m h.1;
      }

      sided : (j : ℕ) (m : Made) → (slice_get s.turns j ≡ Some m) ⊎ ((k : ℕ) × (slice_get made k ≡ Some m)) → ((j : ℕ) × (slice_get s.turns j ≡ Some m)) ⊎ ((k : ℕ) × (slice_get made k ≡ Some m))
      sided j m (inl h) = inl (j, h)
      sided j m (inr h) = inr h

      all : (i : ℕ) (p : List Turn) (u h : RunState) (t : Turn) → (slice_get paths i ≡ Some p) ⊎ ((i ≡ length paths) × (p ≡ path)) → Path (Leads users) start p u → Leads users t u h → IsShown (s.turns ++ made) i t h
      all i p u h t (inl at) way step = shown-more s.turns made i t h (old.are.all i p u h t at way step)
      all i p u h t (inr e) way step =
          let same : u ≡ g = path-one users start path u g (subst (λ ls. Path (Leads users) start ls u) e.1 way) leads in
          let from : Leads users t g h = subst (λ v. Leads users t v h) same step in
          subst (λ n. IsShown (s.turns ++ made) n t h) (sym (e.0 ∙ long)) (shown-after s.turns made place t h (mine.all t h (each t.core t.pick h from) from))

      low : (j : ℕ) (m : Made) → slice_get s.turns j ≡ Some m → m.place ≤ place
      low j m at = let t = old.are.turns j m at in let below = below-at paths m.place t.path t.at in omega (arith, below, long)

      are : AreShown users start (paths ++ path ∷ []) (with_turns made (record s { states = s.states ++ x ∷ [] }))
      are = record {
        long = one-longer s.states x ∙ ap (λ n. suc n) old.are.long ∙ sym (one-longer paths path);
        states = λ i y at. state i y (at-split s.states x i y at);
        turns = λ j m at. turn m (sided j m (at-both s.turns made j m at));
        all = λ i p u h t at. all i p u h t (at-split paths path i p at);
        sorted = sorted-both s.turns made place old.are.sorted (λ j m at. low j m at) mine.place;
      }

-- what was reported of the end of a path and of all turns from it
pub seen-nexts : {W : Type 0} (Has : W → List User → Shown → Type 0) (a b c : W) (users : List User) → (boot : Boot) (path : List Turn) (reported now : Exploring) (place : ℕ) (g : RunState) (ts : List Turn)
    → Path (Leads users) (beginning users boot) path g → reported.users ≡ users → now.users ≡ users → now.boot ≡ boot
    → HasEachTurn reported.users g ts → IsShownState Has a b users place g → Tells Has b c reported.users place g ts
    → (paths : List (List Turn)) → HasSeenAll Has a users (beginning users boot) paths → length paths ≡ place → HasSeenAll Has c now.users (beginning now.users now.boot) (paths ++ path ∷ [])
seen-nexts Has a b c users boot path reported now place g ts end same_users now_users now_boot each state tells paths old long =
    let has : HasEachTurn users g ts = subst (λ us. HasEachTurn us g ts) same_users each in
    let all : Tells Has b c users place g ts = subst (λ us. Tells Has b c us place g ts) same_users tells in
    let seen = shown-on users (beginning users boot) paths path Has a b c place g ts end long has state all old in
    subst (λ us. HasSeenAll Has c us (beginning us now.boot) (paths ++ path ∷ [])) (sym now_users) (subst (λ bt. HasSeenAll Has c users (beginning users bt) (paths ++ path ∷ [])) (sym now_boot) seen)

-- what was shown of a search that was begun
pub shown-all : {W : Type 0} (Has : W → List User → Shown → Type 0) (users : List User) (boot : Boot) (e f : Exploring) (a b w : W) (paths : List (List Turn)) → e.users ≡ users → e.boot ≡ boot → a ≡ w → IsLater e f
    → (HasSeenAll Has a e.users (beginning e.users e.boot) [] → HasSeenAll Has b f.users (beginning f.users f.boot) paths) → Has w users nothing → HasSeenAll Has b users (beginning users boot) paths
shown-all Has users boot e f a b w paths same_users same_boot same_watch later seen has =
    let begun : HasSeenAll Has a e.users (beginning e.users e.boot) [] = record {
      shown = nothing;
      has = subst (λ x. Has x e.users nothing) (sym same_watch) (subst (λ us. Has w us nothing) (sym same_users) has);
      are = nothing-shown e.users (beginning e.users e.boot);
    } in
    let all = seen begun in
    subst (λ us. HasSeenAll Has b us (beginning us boot) paths) (later.users ∙ same_users) (subst (λ bt. HasSeenAll Has b f.users (beginning f.users bt) paths) (later.boot ∙ same_boot) all)

-- a state more and a turn more in counts, which end with the largest
ends-more : (ss : List SeenState) (s : SeenState) → ends_in (ss ++ s ∷ []) ≡ ends_in ss + from_bool s.is_over
ends-more [] s = alone (from_bool s.is_over)
  where
    alone : (n : ℕ) → n + 0 ≡ 0 + n
    alone n = omega arith
ends-more (t ∷ ss) s = let more = ends-more ss s in omega (arith, more)

ends-counted : (a b : ℕ) (ss : List SeenState) (s : SeenState) → a ≡ min (ends_in ss) (2 ^ 64 - 1) → b ≡ min (a + from_bool s.is_over) (2 ^ 64 - 1) → b ≡ min (ends_in (ss ++ s ∷ [])) (2 ^ 64 - 1)
ends-counted a b ss s old new = let more = ends-more ss s in omega (arith, old, new, more)

turns-counted : (a b : ℕ) (ms : List Made) (m : Made) → a ≡ min (length ms) (2 ^ 64 - 1) → b ≡ min (a + 1) (2 ^ 64 - 1) → b ≡ min (length (ms ++ m ∷ [])) (2 ^ 64 - 1)
turns-counted a b ms m old new = let more = one-longer ms m in omega (arith, old, new, more)

pub state-counted : {W E : Type 0} (r : Result (Unit {0}) E) (Has : W → List User → Shown → Type 0) (a b : Counting W) (users : List User) (place : ℕ) (g : RunState) (over : Bool)
    → b.turns ≡ a.turns → b.ends ≡ min (a.ends + from_bool over) (2 ^ 64 - 1) → OnOk r (SeesState Has a.watch b.watch users place g over) → OnOk r (SeesState (HasCounted Has) a b users place g over)
state-counted (Ok x) Has a b users place g over same more sees = λ shown is. record {
  has = sees shown is.has;
  counted = record {
    turns = same ∙ is.counted.turns;
    ends = ends-counted a.ends b.ends shown.states (record { place = place; run_state = g; is_over = over }) is.counted.ends more;
  };
}
state-counted (Err e) Has a b users place g over same more sees = sees

pub turn-counted : {W : Type 0} (Has : W → List User → Shown → Type 0) (a b : Counting W) (users : List User) (place : ℕ) (t : Turn) (answer : Answer) (from : List Position) (h : RunState)
    → b.turns ≡ min (a.turns + 1) (2 ^ 64 - 1) → b.ends ≡ a.ends → SeesTurn Has a.watch b.watch users place t answer from h → SeesTurn (HasCounted Has) a b users place t answer from h
turn-counted Has a b users place t answer from h more same sees = λ shown is. record {
  has = sees shown is.has;
  counted = record {
    turns = turns-counted a.turns b.turns shown.turns (record { place = place; turn = t; answer = answer; from = from; run_state = h }) is.counted.turns more;
    ends = same ∙ is.counted.ends;
  };
}

-- before the first of them
abbrev pub begun : {W : Type 0} → W → Counting W
begun w = record { watch = w; turns = 0; ends = 0 }

pub begun-is : {W : Type 0} (e : Watching W) (w : W) → e.watch ≡ w → e.turns ≡ 0 → e.ends ≡ 0 → counting e ≡ begun w
begun-is {W = W} e w same turns ends = ap (λ x. counted x e.turns e.ends) same ∙ ap (λ n. counted w n e.ends) turns ∙ ap (λ n. counted w 0 n) ends
  where
    counted : W → ℕ → ℕ → Counting W
    counted x n m = record { watch = x; turns = n; ends = m }

pub none-counted : {W : Type 0} (Has : W → List User → Shown → Type 0) (w : W) (users : List User) → Has w users nothing → HasCounted Has (begun w) users nothing
none-counted Has w users has = record { has = has; counted = record { turns = refl; ends = refl } }

-- a state that was reported, and a turn
pub state-reported : {W E : Type 0} (r : Result (Unit {0}) E) (Has : W → List User → Shown → Type 0) (a b : W) (users : List User) (place : ℕ) (g : RunState) (over : Bool)
    → (over ≡ true → IsOver users g) → (over ≡ false → (h : RunState) × Follows users g h) → OnOk r (SeesState Has a b users place g over) → OnOk r (IsShownState Has a b users place g)
state-reported (Ok x) Has a b users place g over ends goes sees = record { is_over = over; over = over-is users g over ends goes; sees = sees }
state-reported (Err e) Has a b users place g over ends goes sees = sees

pub turn-reported : {W : Type 0} (Has : W → List User → Shown → Type 0) (a b : W) (users : List User) (place : ℕ) (t : Turn) (g h : RunState) (answer : Answer)
    → Leads users t g h → last_answer h.book ≡ Some answer → SeesTurn Has a b users place t answer g.places h → IsShownTurn Has a b users place t g
turn-reported Has a b users place t g h answer leads reported sees = record {
  answer = answer;
  run_state = h;
  is = record { leads = leads; from = refl; answer = reported };
  sees = sees;
}

pub ok-any : {A E P : Type 0} (r : Result A E) → P → OnOk r P
ok-any (Ok x) h = h
ok-any (Err e) h = tt
