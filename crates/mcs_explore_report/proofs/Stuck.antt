-- Where no run leads to an answer.
use Rattle.std.specs.Prelude.{ℕ, zero, suc, ◌≡◌, ◌≤◌, ◌<◌, drop, ◌+◌, ◌-◌, ◌++◌, ◌⊎◌, ◌&&◌, ◌||◌, Bool, true, false, not, cond, flat_map, get_or, min, nat_lt, replicate, set, take, List, [], ◌∷◌, Option, Some, None, length, slice_get}
use Rattle.std.specs.List.{list_any, position, position_or_len}
use Rattle.std.proofs.Common.{refl, ap, sym, ◌∙◌, subst, inl, inr, arith, append_assoc}
use Rattle.std.proofs.lemmas.Grind.{common_steps}
use Rattle.std.proofs.lemmas.Option.{get_or_from_slice_get}
use Rattle.std.proofs.lemmas.List.{drop_all, map-append, get_or-set_same, get_or-append_right, get_or-map, get_or-replicate, get_or-take, get_or_append_left, length-append, length-map, length-replicate, length-set, length-take}
use Rattle.mcs_types.specs.declared.entry.Answer.{Answer}
use Rattle.mcs_book.specs.Boots.{Boot, IsFaultless}
use Rattle.mcs_book.specs.History.{log_of}
use Rattle.mcs_turns.specs.declared.position.Position.{Position}
use Rattle.mcs_turns.specs.Turns.{User, RunState, AreInRange, IsTurn, beginning, outcome}
use Rattle.mcs_explore_equivalence.proofs.Asking.{status-same}
use Rattle.mcs_explore_equivalence.proofs.Likenesses.{by-likeness}
use Rattle.mcs_explore_search.specs.declared.search.Edge.{Edge}
use Rattle.mcs_explore_search.specs.Paths.{Path}
use Rattle.mcs_explore_search.specs.Reaching.{AreAllLed, AreWithin, IsLed, LeadsOut, is_marked}
use Rattle.mcs_explore_search.specs.Search.{Entries, path_of, paths_below}
use Rattle.mcs_explore_search.proofs.Marks.{mark-or, mark-stays}
use Rattle.mcs_explore_equivalence.specs.Runs.{AreAlike}
use Rattle.mcs_explore_equivalence.proofs.Alikes.{alike-back, alike-self}
use Rattle.mcs_explore_walk.specs.declared.walk.Turn.{Turn}
use Rattle.mcs_explore_orders.specs.Seen.{AreAllSeen, IsAlongEdges, IsGraphOfRuns, IsSeen}
use Rattle.mcs_explore_orders.specs.Shown.{AreShown, Made, Shown, SeenState, nothing, with_state, with_turn}
use Rattle.mcs_explore_orders.specs.Trails.{Leads}
use Rattle.mcs_explore_orders.proofs.Paths.{path-one}
use Rattle.mcs_explore_script.specs.declared.lives.Live.{Live}
use Rattle.mcs_turns.specs.declared.reached.Reached.{Reached}
use Rattle.mcs_explore_report.specs.Found.{IsAt}
use Rattle.mcs_explore_report.specs.Stuck.{AreDecided, AreNotedBy, AreNotedOn, AreStuckUnled, IsFirstUnled, IsLive, IsNear, IsNotedBy, IsStuckFirst, Noted, answers, answers_last, first_marks, is_about, is_mailed, is_settled, is_waits, settled_by, with_made, with_mark, with_marks, with_sight}
use Rattle.mcs_turns.specs.Mail.{brought}
use Rattle.mcs_explore_report.proofs.HeldRuns.{answered-same, places-same, same, step, then_g, then_h, there}
use Rattle.mcs_explore_report.proofs.Keeping.{at-paths, paths-long, made-from}
use Rattle.mcs_explore_report.proofs.KeptRuns.{brought-same}
use Rattle.mcs_explore_search.proofs.Places.{at-within, some-same, within-at}
use Rattle.mcs_explore_report.proofs.Lists.{from-on}

-- marks that are put in places
marks-long : (ps : List ℕ) (marks : List Bool) → length (with_marks ps marks) ≡ length marks
marks-long [] marks = refl
marks-long (p ∷ ps) marks = marks-long ps (with_mark p marks) ∙ one (nat_lt p (length marks))
  where
    one : (b : Bool) → length (cond b (set marks p true) marks) ≡ length marks
    one true = length-set marks p true
    one false = refl

mark-or-old : (p : ℕ) (marks : List Bool) (i : ℕ) → is_marked (with_mark p marks) i ≡ true → (i ≡ p) ⊎ (is_marked marks i ≡ true)
mark-or-old p marks i h = go (nat_lt p (length marks)) h
  where
    go : (b : Bool) → is_marked (cond b (set marks p true) marks) i ≡ true → (i ≡ p) ⊎ (is_marked marks i ≡ true)
    go true it = mark-or marks p i it
    go false it = inr it

old-mark : (p : ℕ) (marks : List Bool) (i : ℕ) → is_marked marks i ≡ true → is_marked (with_mark p marks) i ≡ true
old-mark p marks i h = go (nat_lt p (length marks)) refl
  where
    go : (b : Bool) → nat_lt p (length marks) ≡ b → is_marked (cond b (set marks p true) marks) i ≡ true
    go true lt = mark-stays marks p i (grind (arith, common_steps, lt)) h
    go false ge = h

new-mark : (p : ℕ) (marks : List Bool) → p < length marks → is_marked (with_mark p marks) p ≡ true
new-mark p marks lt = go (nat_lt p (length marks)) refl
  where
    go : (b : Bool) → nat_lt p (length marks) ≡ b → is_marked (cond b (set marks p true) marks) p ≡ true
    go true is = get_or-set_same marks p true false lt
    go false ge = absurd (grind (arith, common_steps, ge, lt))

old-marks : (ps : List ℕ) (marks : List Bool) (i : ℕ) → is_marked marks i ≡ true → is_marked (with_marks ps marks) i ≡ true
old-marks [] marks i h = h
old-marks (p ∷ ps) marks i h = old-marks ps (with_mark p marks) i (old-mark p marks i h)

has-mark : (ps : List ℕ) (marks : List Bool) (j i : ℕ) → slice_get ps j ≡ Some i → i < length marks → is_marked (with_marks ps marks) i ≡ true
has-mark [] marks j i at lt = absurd cc
has-mark (p ∷ ps) marks zero i at lt = old-marks ps (with_mark p marks) i (subst (λ (k : ℕ). is_marked (with_mark p marks) k ≡ true) (some-same p i at) (new-mark p marks (subst (λ (k : ℕ). k < length marks) (sym (some-same p i at)) lt)))
has-mark (p ∷ ps) marks (suc j) i at lt = has-mark ps (with_mark p marks) j i at (subst (λ n. i < n) (sym (marks-long (p ∷ []) marks)) lt)

marks-from : (ps : List ℕ) (marks : List Bool) (i : ℕ) → is_marked (with_marks ps marks) i ≡ true → (is_marked marks i ≡ true) ⊎ ((j : ℕ) × (slice_get ps j ≡ Some i))
marks-from [] marks i h = inl h
marks-from (p ∷ ps) marks i h = go (marks-from ps (with_mark p marks) i h)
  where
    one : (i ≡ p) ⊎ (is_marked marks i ≡ true) → (is_marked marks i ≡ true) ⊎ ((j : ℕ) × (slice_get (p ∷ ps) j ≡ Some i))
    one (inl e) = inr (0, ap (λ (k : ℕ). Some k) (sym e))
    one (inr old) = inl old

    go : (is_marked (with_mark p marks) i ≡ true) ⊎ ((j : ℕ) × (slice_get ps j ≡ Some i)) → (is_marked marks i ≡ true) ⊎ ((j : ℕ) × (slice_get (p ∷ ps) j ≡ Some i))
    go (inl a) = one (mark-or-old p marks i a)
    go (inr b) = inr (suc b.0, b.1)

-- marks that are put one after the other
pub marks-on : (ps : List ℕ) (i p : ℕ) (marks : List Bool) → slice_get ps i ≡ Some p → with_marks (drop (i + 1) ps) (with_mark p marks) ≡ with_marks (drop i ps) marks
marks-on ps i p marks at = ap (λ (qs : List ℕ). with_marks qs marks) (sym (from-on ps i p at))

pub marks-done : (ps : List ℕ) (i : ℕ) (marks : List Bool) → length ps ≤ i → marks ≡ with_marks (drop i ps) marks
marks-done ps i marks long = ap (λ (qs : List ℕ). with_marks qs marks) (sym (drop_all i ps long))

-- there are as many marks as places
pub first-marks-long : (states : ℕ) (n : Noted) → length (first_marks states n) ≡ states
first-marks-long states n =
    marks-long n.answered (take (min (length n.settled) states) n.settled ++ replicate (states - min (length n.settled) states) true)
    ∙ length-append (take (min (length n.settled) states) n.settled) (replicate (states - min (length n.settled) states) true)
    ∙ (let a = length-take (min (length n.settled) states) n.settled in let b = length-replicate (states - min (length n.settled) states) true in omega (arith, a, b))

pub marks-within : (edges es : List (Edge Turn)) (states s : ℕ) (n : Noted) (marks : List Bool) → es ≡ edges → s ≡ states → marks ≡ first_marks s n → AreWithin edges states → AreWithin es (length marks)
marks-within edges es states s n marks same count is within =
    subst (λ (m : ℕ). AreWithin es m) (sym (ap length is ∙ first-marks-long s n ∙ count)) (subst (λ (xs : List (Edge Turn)). AreWithin xs states) (sym same) within)

-- the first mark that is none
before-first : (bs : List Bool) (i : ℕ) → i < position_or_len not bs → is_marked bs i ≡ true
before-first [] i lt = absurd (omega (arith, lt))
before-first (true ∷ bs) zero lt = refl
before-first (true ∷ bs) (suc i) lt = before-first bs i (omega (arith, lt))
before-first (false ∷ bs) i lt = absurd (omega (arith, lt))

one-on : (n : ℕ) → 1 + n ≡ suc n
one-on n = omega arith

at-first : (bs : List Bool) → position_or_len not bs < length bs → is_marked bs (position_or_len not bs) ≡ false
at-first [] lt = absurd (omega (arith, lt))
at-first (true ∷ bs) lt = ap (λ (k : ℕ). is_marked (true ∷ bs) k) (one-on (position_or_len not bs)) ∙ at-first bs (omega (arith, lt))
at-first (false ∷ bs) lt = refl

first-unled : (edges : List (Edge Turn)) (old new : List Bool) → AreAllLed edges old new → IsFirstUnled edges old (position not new)
first-unled edges old new led = go (nat_lt (position_or_len not new) (length new)) refl
  where
    no : (b : Bool) → b ≡ false → b ≡ true → ⊥
    no true f t = absurd cc
    no false f t = absurd cc

    go : (b : Bool) → nat_lt (position_or_len not new) (length new) ≡ b → IsFirstUnled edges old (cond b (Some (position_or_len not new)) None)
    go true is =
        let lt : position_or_len not new < length new = grind (arith, common_steps, is) in
        (subst (λ (m : ℕ). position_or_len not new < m) led.long lt, (λ at. no (is_marked new (position_or_len not new)) (at-first new lt) ((led.each (position_or_len not new)).1 at), λ i below. (led.each i).0 (before-first new i below)))
    go false is = λ i lt.
        (led.each i).0 (before-first new i (let ge : length new ≤ position_or_len not new = grind (arith, common_steps, is) in let long = led.long in omega (arith, lt, ge, long)))

pub stuck-at : (edges es : List (Edge Turn)) (states s : ℕ) (n : Noted) (old new marks : List Bool) (o : Option ℕ) → es ≡ edges → s ≡ states → old ≡ first_marks s n → AreAllLed es old new → marks ≡ new → o ≡ position not marks
    → IsFirstUnled edges (first_marks states n) o
stuck-at edges es states s n old new marks o same count is led all first =
    subst (λ (x : Option ℕ). IsFirstUnled edges (first_marks states n) x) (sym (first ∙ ap (λ (ms : List Bool). position not ms) all))
    (first-unled edges (first_marks states n) new (subst (λ (ms : List Bool). AreAllLed edges ms new) (is ∙ ap (λ (m : ℕ). first_marks m n) count) (subst (λ (xs : List (Edge Turn)). AreAllLed xs old new) same led)))

-- what a list of what is wanted has
module _ {A : Type 0} (wanted : A → Bool) (place : A → ℕ) where
  abbrev picked : A → List ℕ
  picked x = cond (wanted x) (place x ∷ []) []

  flat-has : (xs : List A) (k : ℕ) (x : A) → slice_get xs k ≡ Some x → wanted x ≡ true → (j : ℕ) × (slice_get (flat_map picked xs) j ≡ Some (place x))
  flat-has [] k x at is = absurd cc
  flat-has (y ∷ xs) zero x at is = (0, subst (λ (z : A). slice_get (picked z ++ flat_map picked xs) 0 ≡ Some (place x)) (sym (some-same y x at)) (ap (λ (b : Bool). slice_get (cond b (place x ∷ []) [] ++ flat_map picked xs) 0) is))
  flat-has (y ∷ xs) (suc k) x at is = following (wanted y) (flat-has xs k x at is)
    where
      following : (b : Bool) → ((j : ℕ) × (slice_get (flat_map picked xs) j ≡ Some (place x))) → (j : ℕ) × (slice_get (cond b (place y ∷ []) [] ++ flat_map picked xs) j ≡ Some (place x))
      following true r = (suc r.0, r.1)
      following false r = r

  -- and what it comes from
  pub record IsPicked (xs : List A) (p : ℕ) : Type 0 where
    pub number : ℕ
    pub one : A
    pub at : slice_get xs number ≡ Some one
    pub is : wanted one ≡ true
    pub place_is : place one ≡ p

  later : (y : A) (xs : List A) (p : ℕ) → IsPicked xs p → IsPicked (y ∷ xs) p
  later y xs p r = record { number = suc r.number; one = r.one; at = r.at; is = r.is; place_is = r.place_is }

  flat-from : (xs : List A) (j p : ℕ) → slice_get (flat_map picked xs) j ≡ Some p → IsPicked xs p
  flat-from [] j p at = absurd cc
  flat-from (y ∷ xs) j p at = go (wanted y) refl j at (λ i it. flat-from xs i p it)
    where
      go : (b : Bool) → wanted y ≡ b → (j : ℕ) → slice_get (cond b (place y ∷ []) [] ++ flat_map picked xs) j ≡ Some p → ((i : ℕ) → slice_get (flat_map picked xs) i ≡ Some p → IsPicked xs p) → IsPicked (y ∷ xs) p
      go true is zero it rest = record { number = 0; one = y; at = refl; is = is; place_is = some-same (place y) p it }
      go true is (suc i) it rest = later y xs p (rest i it)
      go false is i it rest = later y xs p (rest i it)

-- that a state is near carries over to states that no later turn distinguishes from it
module _ (numbered : Bool) (users : List User) (boot : Boot) (whole : IsFaultless boot) (range : AreInRange users) (l : Live) where
  settled-same : (g h : RunState) → AreAlike numbered users boot g h → is_settled users l g ≡ is_settled users l h
  settled-same g h a =
      ap (λ (n : ℕ). elim (slice_get users l.user) [ None ↦ true | Some u ↦ settled_by u l.entry n ])
      (answered-same users g h a.close.places (λ t. status-same (log_of g.book) (log_of h.book) ((by-likeness numbered).numbers (log_of g.book) (log_of h.book) a.close.logs) t) (slice_get users l.user) l.user)

  last-same : (g h : RunState) (a : AreAlike numbered users boot g h) (t : Turn) (k : RunState) (turn : IsTurn users t.core t.pick g k)
      → answers_last users l t g (then_g numbered users boot whole range g h a t.core t.pick k turn) ≡ answers_last users l t h (then_h numbered users boot whole range g h a t.core t.pick k turn)
  last-same g h a t k turn =
      ap (λ (x : Answer). answers users l t x g.places (brought left.book)) (same numbered users boot whole range g h a t.core t.pick k turn).answer
      ∙ ap (λ (ps : List Position). answers users l t there_answer ps (brought left.book)) a.close.places
      ∙ ap (λ (rs : List Reached). answers users l t there_answer h.places rs) (brought-same numbered users boot whole range g h a t.core t.pick k turn)
    where
      left : RunState
      left = then_g numbered users boot whole range g h a t.core t.pick k turn

      right : RunState
      right = then_h numbered users boot whole range g h a t.core t.pick k turn

      there_answer : Answer
      there_answer = (outcome h.book (step numbered users boot whole range g h a t.core t.pick k turn)).answer

  near-there : (g h : RunState) → AreAlike numbered users boot g h → IsNear users l g → IsNear users l h
  near-there g h a (inl settled) = inl (sym (settled-same g h a) ∙ settled)
  near-there g h a (inr it) = inr (
    it.0,
    (
      then_h numbered users boot whole range g h a it.0.core it.0.pick it.1.0 it.1.1.0,
      (
        there numbered users boot whole range g h a it.0.core it.0.pick it.1.0 it.1.1.0,
        sym (last-same g h a it.0 it.1.0 it.1.1.0) ∙ ap (λ (x : RunState). answers_last users l it.0 g x) (sym it.1.1.0.after) ∙ it.1.1.1,
      ),
    ),
  )

-- a number is less than another, or not
less-or-not : (m n : ℕ) → (m < n) ⊎ (n ≤ m)
less-or-not m zero = inr (omega arith)
less-or-not zero (suc n) = inl (omega arith)
less-or-not (suc m) (suc n) = go (less-or-not m n)
  where
    go : (m < n) ⊎ (n ≤ m) → (suc m < suc n) ⊎ (suc n ≤ suc m)
    go (inl l) = inl (omega (arith, l))
    go (inr l) = inr (omega (arith, l))

-- what was found, of which the first states were expanded
module _ {K : Type 0} (numbered : Bool) (users : List User) (boot : Boot) (whole : IsFaultless boot) (range : AreInRange users) (found : Entries K Turn) (done : ℕ)
    (edges : List (Edge Turn)) (graph : IsGraphOfRuns numbered users boot found done edges) (shown : Shown) (are : AreShown users (beginning users boot) (paths_below found done) shown) (l : Live) (n : Noted) (noted : IsNotedBy users shown l n) where
  abbrev marks : List Bool
  marks = first_marks (length found) n

  abbrev known : List Bool
  known = take (min (length n.settled) (length found)) n.settled

  abbrev rest : List Bool
  rest = replicate (length found - min (length n.settled) (length found)) true

  abbrev base : List Bool
  base = known ++ rest

  settled-long : length n.settled ≡ done
  settled-long = ap length noted.settled ∙ length-map shown.states (λ (s : SeenState). is_settled users l s.run_state) ∙ are.long ∙ paths-long found done

  base-at : (i : ℕ) → i < length found → i < done → is_marked base i ≡ get_or n.settled i false
  base-at i lt below =
      get_or_append_left known rest false i (let long = length-take (min (length n.settled) (length found)) n.settled in let e = settled-long in omega (arith, lt, long, e, below))
      ∙ get_or-take (min (length n.settled) (length found)) n.settled i false (let e = settled-long in omega (arith, lt, e, below))

  -- a place that was not expanded is marked
  base-beyond : (i : ℕ) → i < length found → done ≤ i → is_marked base i ≡ true
  base-beyond i lt beyond =
      get_or-append_right known rest (length known) i false refl (let long = length-take (min (length n.settled) (length found)) n.settled in let e = settled-long in omega (arith, lt, long, e, beyond))
      ∙ get_or-replicate (length found - min (length n.settled) (length found)) (i - length known) true false (let long = length-take (min (length n.settled) (length found)) n.settled in let e = settled-long in omega (arith, lt, long, e, beyond))

  base-long : length base ≡ length found
  base-long =
      length-append known rest
      ∙ (let a = length-take (min (length n.settled) (length found)) n.settled in let b = length-replicate (length found - min (length n.settled) (length found)) true in let e = settled-long in omega (arith, a, b, e))

  pub marks-as-long : length marks ≡ length found
  marks-as-long = marks-long n.answered base ∙ base-long

  -- the state in a place, as it was shown
  state-at : (i : ℕ) (g : RunState) → i < length found → i < done → IsAt users boot found i g → is_marked base i ≡ is_settled users l g
  state-at i g lt below at =
      let s = within-at shown.states i (let long = are.long in let paths = paths-long found done in omega (arith, long, paths, below)) in
      let is = are.states i s.0 s.1 in
      let path : is.path ≡ path_of found i = some-same is.path (path_of found i) (sym is.at ∙ at-paths found done i below) in
      let run_state : s.0.run_state ≡ g = path-one users (beginning users boot) (path_of found i) s.0.run_state g (subst (λ ls. Path (Leads users) (beginning users boot) ls s.0.run_state) path is.leads) at in
      base-at i lt below
      ∙ ap (λ (bs : List Bool). get_or bs i false) noted.settled
      ∙ get_or-map (λ (x : SeenState). is_settled users l x.run_state) shown.states i s.0 false (at-within shown.states i s.0 s.1)
      ∙ ap (λ (x : SeenState). is_settled users l x.run_state) (get_or_from_slice_get shown.states i s.0 s.0 s.1)
      ∙ ap (λ (x : RunState). is_settled users l x) run_state

  near-below : (i : ℕ) (g : RunState) → i < length found → i < done → IsAt users boot found i g → IsNear users l g → is_marked marks i ≡ true
  near-below i g lt below at (inl settled) = old-marks n.answered base i (state-at i g lt below at ∙ settled)
  near-below i g lt below at (inr it) =
      let m = are.all i (path_of found i) g it.1.0 it.0 (at-paths found done i below) at it.1.1.0 in
      let made = are.turns m.number m.made m.at in
      let is : answers users l m.made.turn m.made.answer m.made.from (brought m.made.run_state.book) ≡ true =
      ap (λ (ps : List Position). answers users l m.made.turn m.made.answer ps (brought m.made.run_state.book)) (made-from users boot found done i g m.made below at m.place made)
      ∙ ap (λ (x : Option Answer). elim x [ None ↦ false | Some a ↦ answers users l m.made.turn a g.places (brought m.made.run_state.book) ]) (sym made.turn.answer)
      ∙ ap (λ (t : Turn). answers_last users l t g m.made.run_state) m.turn ∙ ap (λ (x : RunState). answers_last users l it.0 g x) m.run_state ∙ it.1.1.1 in
      let j = flat-has (λ (x : Made). answers users l x.turn x.answer x.from (brought x.run_state.book)) (λ (x : Made). x.place) shown.turns m.number m.made m.at is in
      has-mark n.answered base j.0 i (ap (λ (ps : List ℕ). slice_get ps j.0) noted.answered ∙ j.1 ∙ ap (λ (k : ℕ). Some k) m.place) (subst (λ k. i < k) (sym base-long) lt)

  near-marked : (i : ℕ) (g : RunState) → i < length found → IsAt users boot found i g → IsNear users l g → is_marked marks i ≡ true
  near-marked i g lt at near = go (less-or-not i done)
    where
      go : (i < done) ⊎ (done ≤ i) → is_marked marks i ≡ true
      go (inl below) = near-below i g lt below at near
      go (inr beyond) = old-marks n.answered base i (base-beyond i lt beyond)

  made-near : (i : ℕ) (g : RunState) → i < done → IsAt users boot found i g → IsPicked (λ (x : Made). answers users l x.turn x.answer x.from (brought x.run_state.book)) (λ (x : Made). x.place) shown.turns i → IsNear users l g
  made-near i g below at m =
      let made = are.turns m.number m.one m.at in
      let path : made.path ≡ path_of found i = some-same made.path (path_of found i) (sym made.at ∙ ap (λ (k : ℕ). slice_get (paths_below found done) k) m.place_is ∙ at-paths found done i below) in
      let run_state : made.state ≡ g = path-one users (beginning users boot) (path_of found i) made.state g (subst (λ ls. Path (Leads users) (beginning users boot) ls made.state) path made.leads) at in
      inr (
        m.one.turn,
        (
          m.one.run_state,
          (
            subst (λ (x : RunState). Leads users m.one.turn x m.one.run_state) run_state made.turn.leads,
            ap (λ (x : Option Answer). elim x [ None ↦ false | Some a ↦ answers users l m.one.turn a g.places (brought m.one.run_state.book) ]) made.turn.answer
                ∙ ap (λ (ps : List Position). answers users l m.one.turn m.one.answer ps (brought m.one.run_state.book)) (sym (made.turn.from ∙ ap (λ (x : RunState). x.places) run_state)) ∙ m.is,
          ),
        ),
      )

  marked-near : (i : ℕ) (g : RunState) → i < length found → i < done → IsAt users boot found i g → is_marked marks i ≡ true → IsNear users l g
  marked-near i g lt below at h = go (marks-from n.answered base i h)
    where
      go : (is_marked base i ≡ true) ⊎ ((j : ℕ) × (slice_get n.answered j ≡ Some i)) → IsNear users l g
      go (inl old) = inl (sym (state-at i g lt below at) ∙ old)
      go (inr it) = made-near i g below at (flat-from (λ (x : Made). answers users l x.turn x.answer x.from (brought x.run_state.book)) (λ (x : Made). x.place) shown.turns it.0 i (ap (λ (ps : List ℕ). slice_get ps it.0) (sym noted.answered) ∙ it.1))

  -- the state of a place is that of its visit
  state-is : (i : ℕ) (g h : RunState) → slice_get graph.states i ≡ Some g → IsAt users boot found i h → g ≡ h
  state-is i g h at there_at = path-one users (beginning users boot) (path_of found i) g h (graph.each i g at).path there_at

  state-of : (i : ℕ) → i < length found → (g : RunState) × (slice_get graph.states i ≡ Some g)
  state-of i lt = within-at graph.states i (subst (λ k. i < k) (sym graph.long) lt)

  found-within : (i : ℕ) (g : RunState) → slice_get graph.states i ≡ Some g → i < length found
  found-within i g at = subst (λ k. i < k) graph.long (at-within graph.states i g at)

  live-led : (i : ℕ) (g h : RunState) → slice_get graph.states i ≡ Some g → AreAlike numbered users boot h g → IsLive users l h → IsLed edges marks i
  live-led i g h at like live = go (graph.along live.turns i g h live.run_state at like live.run)
    where
      go : IsAlongEdges numbered users boot graph.states edges i live.turns live.run_state ⊎ LeadsOut edges done (length found) i → IsLed edges marks i
      go (inl a) = record {
        steps = live.turns;
        end = a.end;
        run = a.run;
        marked = near-marked a.end a.state (found-within a.end a.state a.there) (graph.each a.end a.state a.there).path (near-there numbered users boot whole range l live.run_state a.state a.like live.near);
      }
      go (inr out) = record { steps = out.steps; end = out.end; run = out.run; marked = old-marks n.answered base out.end (base-beyond out.end out.within out.beyond) }

  self : (i : ℕ) (g : RunState) → slice_get graph.states i ≡ Some g → AreAlike numbered users boot g g
  self i g at = alike-self numbered users boot whole range g (record { turns = _; run = (graph.each i g at).run })

  -- edges lead from where a run does
  pub stuck-there : (place : ℕ) (g : RunState) → place < length found → (IsLed edges marks place → ⊥) → IsAt users boot found place g → IsLive users l g → ⊥
  stuck-there place g lt unled at live =
      let s = state-of place lt in
      unled (live-led place s.0 g s.1 (subst (λ (x : RunState). AreAlike numbered users boot x s.0) (state-is place s.0 g s.1 at) (self place s.0 s.1)) live)

  led-live : length found ≤ done → (i : ℕ) (g h : RunState) → slice_get graph.states i ≡ Some g → AreAlike numbered users boot h g → IsLed edges marks i → IsLive users l h
  led-live all i g h at like led =
      let lt : led.end < length found = subst (λ k. led.end < k) marks-as-long (marked-within marks led.end led.marked) in
      let s = state-of led.end lt in
      let r = graph.runs led.steps i led.end g h s.0 at s.1 like led.run in
      record {
        turns = led.steps;
        run_state = r.0;
        run = r.1.0;
        near = near-there numbered users boot whole range l s.0 r.0 (alike-back numbered users boot r.0 s.0 r.1.1) (marked-near led.end s.0 lt (omega (arith, lt, all)) (graph.each led.end s.0 s.1).path led.marked);
      }
    where
      marked-within : (ms : List Bool) (i : ℕ) → is_marked ms i ≡ true → i < length ms
      marked-within [] i h = absurd cc
      marked-within (m ∷ ms) zero h = omega arith
      marked-within (m ∷ ms) (suc i) h = let r = marked-within ms i h in omega (arith, r)

  here-live : length found ≤ done → (i : ℕ) (g : RunState) → i < length found → IsAt users boot found i g → IsLed edges marks i → IsLive users l g
  here-live all i g lt at led =
      let s = state-of i lt in
      subst (λ (x : RunState). IsLive users l x) (state-is i s.0 g s.1 at) (led-live all i s.0 s.0 s.1 (self i s.0 s.1) led)

  pub stuck-first : length found ≤ done → AreAllSeen numbered users boot found → (o : Option ℕ) → IsFirstUnled edges marks o → IsStuckFirst users boot l found o
  stuck-first all seen None led = λ m g run.
      let s : IsSeen numbered users boot found m g = seen m g run in
      let t = state-of s.place s.within in
      led-live all s.place t.0 g t.1 (subst (λ (x : RunState). AreAlike numbered users boot g x) (sym (state-is s.place t.0 s.run_state t.1 s.is.path)) s.like) (led s.place (subst (λ k. s.place < k) (sym marks-as-long) s.within))
  stuck-first all seen (Some place) first =
      let lt : place < length found = subst (λ k. place < k) marks-as-long first.0 in
      record {
        within = lt;
        stuck = λ g at live. stuck-there place g lt first.1.0 at live;
        before = λ i g below at. here-live all i g (omega (arith, below, lt)) at (first.1.1 i below);
      }

-- what is noted of each question, where nothing was shown
pub none-noted : (users : List User) (lives : List Live) → AreNotedBy users lives nothing (replicate (length lives) (record { settled = []; answered = [] }))
none-noted users lives = record {
  long = length-replicate (length lives) (record { settled = []; answered = [] });
  each = λ i l n at there. subst (λ (m : Noted). IsNotedBy users nothing l m) (same-all (length lives) i n there) (record { settled = refl; answered = refl });
}
  where
    same-all : (k i : ℕ) (n : Noted) → slice_get (replicate k (record { settled = []; answered = [] })) i ≡ Some n → record { settled = []; answered = [] } ≡ n
    same-all zero i n at = absurd cc
    same-all (suc k) zero n at = some-same _ n at
    same-all (suc k) (suc i) n at = same-all k i n at

-- what is changed of each
noted-on : (users : List User) (lives : List Live) (change : Live → Noted → Noted) (old new : List Noted) (before after : Shown) → ((l : Live) (n : Noted) → IsNotedBy users before l n → IsNotedBy users after l (change l n)) → AreNotedOn change lives old new
    → AreNotedBy users lives before old → AreNotedBy users lives after new
noted-on users lives change old new before after one on are = record { long = on.long ∙ are.long; each = each }
  where
    each : (i : ℕ) (l : Live) (n : Noted) → slice_get lives i ≡ Some l → slice_get new i ≡ Some n → IsNotedBy users after l n
    each i l n at there =
        let was = within-at old i (let lt = at-within new i n there in let long = on.long in omega (arith, lt, long)) in
        subst (λ (m : Noted). IsNotedBy users after l m) (some-same (change l was.0) n (sym (on.each i l was.0 at was.1) ∙ there)) (one l was.0 (are.each i l was.0 at was.1))

-- a state more
pub noted-state : (users : List User) (lives : List Live) (place : ℕ) (g : RunState) (over : Bool) (shown : Shown) (old new : List Noted) → AreNotedOn (with_sight users g) lives old new → AreNotedBy users lives shown old
    → AreNotedBy users lives (with_state place g over shown) new
noted-state users lives place g over shown old new = noted-on users lives (with_sight users g) old new shown (with_state place g over shown) (λ l n is. record {
  settled = ap (λ (bs : List Bool). bs ++ is_settled users l g ∷ []) is.settled ∙ sym (map-append (λ (s : SeenState). is_settled users l s.run_state) shown.states ((record { place = place; run_state = g; is_over = over }) ∷ []));
  answered = is.answered;
})

-- a turn more
pub noted-turn : (users : List User) (lives : List Live) (place : ℕ) (t : Turn) (a : Answer) (from : List Position) (h : RunState) (shown : Shown) (old new : List Noted) → AreNotedOn (with_made users place t a from (brought h.book)) lives old new → AreNotedBy users lives shown old
    → AreNotedBy users lives (with_turn place t a from h shown) new
noted-turn users lives place t a from h shown old new = noted-on users lives (with_made users place t a from (brought h.book)) old new shown (with_turn place t a from h shown) (λ l n is. record {
  settled = is.settled;
  answered = ap (λ (ps : List ℕ). ps ++ cond (answers users l t a from (brought h.book)) (place ∷ []) []) is.answered ∙ flat-last (λ (m : Made). cond (answers users l m.turn m.answer m.from (brought m.run_state.book)) (m.place ∷ []) []) shown.turns (record { place = place; turn = t; answer = a; from = from; run_state = h });
})
  where
    nil : {A : Type 0} (xs : List A) → xs ≡ xs ++ []
    nil [] = refl
    nil (x ∷ xs) = ap (λ (ys : List _). x ∷ ys) (nil xs)

    flat-last : {A B : Type 0} (f : A → List B) (xs : List A) (x : A) → flat_map f xs ++ f x ≡ flat_map f (xs ++ x ∷ [])
    flat-last f [] x = nil (f x)
    flat-last f (y ∷ xs) x = append_assoc (f y) (flat_map f xs) (f x) ∙ ap (λ (ys : List _). f y ++ ys) (flat-last f xs x)

-- what is noted decides of each question where no run answers it
module _ {K : Type 0} (numbered : Bool) (users : List User) (boot : Boot) (whole : IsFaultless boot) (range : AreInRange users) (found : Entries K Turn) (done : ℕ)
    (edges : List (Edge Turn)) (graph : IsGraphOfRuns numbered users boot found done edges) (shown : Shown) (are : AreShown users (beginning users boot) (paths_below found done) shown) (lives : List Live) (notes : List Noted) (noted : AreNotedBy users lives shown notes) where
  pub decided : length found ≤ done → AreAllSeen numbered users boot found → AreDecided users boot lives found edges notes
  decided all seen = record {
    long = noted.long;
    each = λ i l n o at there first. stuck-first numbered users boot whole range found done edges graph shown are l n (noted.each i l n at there) all seen o first;
  }

  pub unled-stuck : AreStuckUnled users boot lives found edges notes
  unled-stuck = record {
    long = noted.long;
    each = λ i l n place g at there lt unled is live. stuck-there numbered users boot whole range found done edges graph shown are l n (noted.each i l n at there) place g lt unled is live;
  }
