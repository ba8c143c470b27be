-- The turns of all cores: each that the rule has is among them, and each is one of a pick.
use Rattle.std.specs.Prelude.{ℕ, zero, suc, Bool, true, false, not, cond, ◌≡◌, ◌≤◌, ◌<◌, ◌+◌, ◌++◌, ◌||◌, ◌⊎◌, length, map, List, [], ◌∷◌, Option, Some, None, is_some, slice_get, slice_index_or, unwrap_or}
use Rattle.std.specs.Option.{IfNone, IfSome}
use Rattle.std.specs.List.{Contains, list_any}
use Rattle.std.proofs.Common.{refl, ap, sym, ◌∙◌, subst, arith, inl, inr}
use Rattle.std.proofs.lemmas.List.Elements.{Contains-append_left, Contains-append_right, Contains-append_cases}
use Rattle.mcs_types.specs.declared.id.ObjId.{ObjId}
use Rattle.mcs_types.specs.declared.id.CoreId.{CoreId}
use Rattle.mcs_types.specs.declared.entry.Entry.{Entry}
use Rattle.mcs_types.specs.declared.entry.Entry.TheVariants as entry
use Rattle.std.proofs.lemmas.Option.{slice_get_within}
use Rattle.mcs_types.specs.declared.entry.Step.{Step}
use Rattle.mcs_book.specs.History.{Book, IsLegal, line_for, log_of}
use Rattle.mcs_book.specs.Statuses.{may_enter}
use Rattle.mcs_book.proofs.Books.KnownCores.{legal-cores}
use Rattle.mcs_turns.specs.declared.position.Pick.{Pick}
use Rattle.mcs_turns.specs.Due.{is_same, picks_at}
use Rattle.mcs_turns.specs.Turns.{User, RunState, ArePicks, IsOver, IsStale, IsTurn, entered, given, outcome}
use Rattle.mcs_turns.proofs.OneTurn.{one-at, one-picks}
use Rattle.mcs_explore_walk.specs.declared.walk.Turn.{Turn}
use Rattle.mcs_explore_walk.specs.Walks.{IsEntrant, IsPicked, HasEachTurn, ArePicked, HasNoTurn, is_other, stale_turns, step_of, turn_of, turns_below, turns_of, turns_on}
use Rattle.mcs_turns.proofs.Among.{none-in, first-in, later-in, split-in}
use Rattle.mcs_explore_walk.proofs.Picking.{among, nat_split, same-itself}

in-stale : (core : CoreId) (now js : List Pick) (k : Pick) → Contains js k → is_other now k ≡ true → Contains (stale_turns core now js) (turn_of core k)
in-stale core now [] k c other = absurd (none-in k c)
in-stale core now (j ∷ js) k c other = go (λ d. in-stale core now js k d other) (split-in j js k c) (is_other now j) refl
  where
    go : (Contains js k → Contains (stale_turns core now js) (turn_of core k)) → (j ≡ k) ⊎ Contains js k → (b : Bool) → is_other now j ≡ b
        → Contains (cond b (turn_of core j ∷ stale_turns core now js) (stale_turns core now js)) (turn_of core k)
    go rest (inl e) true f = subst (λ i. Contains (turn_of core i ∷ stale_turns core now js) (turn_of core k)) (sym e) (first-in (turn_of core k) (stale_turns core now js))
    go rest (inl e) false f = let wrong : true ≡ false = sym other ∙ subst (λ i. is_other now i ≡ false) e f in absurd cc
    go rest (inr d) true f = later-in (turn_of core j) (stale_turns core now js) (turn_of core k) (rest d)
    go rest (inr d) false f = rest d

-- what is none other than these is among them
not-other : (now : List Pick) (k : Pick) → is_other now k ≡ false → Contains now k
not-other now k e = go (list_any (is_same k) now) refl e
  where
    go : (b : Bool) → list_any (is_same k) now ≡ b → not b ≡ false → Contains now k
    go true is f = among k now is
    go false is f = absurd cc

-- a turn for each of these picks
in-now : (core : CoreId) (now : List Pick) (k : Pick) → Contains now k → Contains (map (turn_of core) now) (turn_of core k)
in-now core [] k c = absurd (none-in k c)
in-now core (j ∷ js) k c = go (in-now core js k) (split-in j js k c)
  where
    go : (Contains js k → Contains (map (turn_of core) js) (turn_of core k)) → (j ≡ k) ⊎ Contains js k → Contains (map (turn_of core) (j ∷ js)) (turn_of core k)
    go rest (inl e) = subst (λ i. Contains (turn_of core i ∷ map (turn_of core) js) (turn_of core k)) (sym e) (first-in (turn_of core k) (map (turn_of core) js))
    go rest (inr d) = later-in (turn_of core j) (map (turn_of core) js) (turn_of core k) (rest d)

from-now : (core : CoreId) (now : List Pick) (t : Turn) → Contains (map (turn_of core) now) t → (core ≡ t.core) × Contains now t.pick
from-now core [] t c = absurd (none-in t c)
from-now core (j ∷ js) t c = go (from-now core js t) (split-in (turn_of core j) (map (turn_of core) js) t c)
  where
    go : (Contains (map (turn_of core) js) t → (core ≡ t.core) × Contains js t.pick) → (turn_of core j ≡ t) ⊎ Contains (map (turn_of core) js) t → (core ≡ t.core) × Contains (j ∷ js) t.pick
    go rest (inl e) = (ap (λ (u : Turn). u.core) e, subst (λ (u : Turn). Contains (j ∷ js) u.pick) e (first-in j js))
    go rest (inr d) = let h = rest d in (h.0, later-in j js t.pick h.1)

in-turns : (core : CoreId) (now js : List Pick) (k : Pick) → Contains now k ⊎ Contains js k → Contains (turns_of core now js) (turn_of core k)
in-turns core now js k h = go h (is_other now k) refl
  where
    picked : Contains now k → Contains (turns_of core now js) (turn_of core k)
    picked c = Contains-append_left (map (turn_of core) now) (stale_turns core now js) (turn_of core k) (in-now core now k c)

    go : Contains now k ⊎ Contains js k → (b : Bool) → is_other now k ≡ b → Contains (turns_of core now js) (turn_of core k)
    go (inl c) b f = picked c
    go (inr c) true f = Contains-append_right (map (turn_of core) now) (stale_turns core now js) (turn_of core k) (in-stale core now js k c f)
    go (inr c) false f = picked (not-other now k f)

from-stale : (core : CoreId) (now js : List Pick) (t : Turn) → Contains (stale_turns core now js) t → (core ≡ t.core) × Contains js t.pick
from-stale core now [] t c = absurd (none-in t c)
from-stale core now (j ∷ js) t c = go (λ d. from-stale core now js t d) (is_other now j) c
  where
    later : (core ≡ t.core) × Contains js t.pick → (core ≡ t.core) × Contains (j ∷ js) t.pick
    later h = (h.0, later-in j js t.pick h.1)

    first : turn_of core j ≡ t → (core ≡ t.core) × Contains (j ∷ js) t.pick
    first e = (ap (λ (u : Turn). u.core) e, subst (λ (u : Turn). Contains (j ∷ js) u.pick) e (first-in j js))

    go : (Contains (stale_turns core now js) t → (core ≡ t.core) × Contains js t.pick) → (b : Bool) → Contains (cond b (turn_of core j ∷ stale_turns core now js) (stale_turns core now js)) t
        → (core ≡ t.core) × Contains (j ∷ js) t.pick
    go rest true d = parts (split-in (turn_of core j) (stale_turns core now js) t d)
      where
        parts : (turn_of core j ≡ t) ⊎ Contains (stale_turns core now js) t → (core ≡ t.core) × Contains (j ∷ js) t.pick
        parts (inl e) = first e
        parts (inr x) = later (rest x)
    go rest false d = later (rest d)

from-turns : (core : CoreId) (now js : List Pick) (t : Turn) → Contains (turns_of core now js) t → (core ≡ t.core) × (Contains now t.pick ⊎ Contains js t.pick)
from-turns core now js t c = go (Contains-append_cases (map (turn_of core) now) (stale_turns core now js) t c)
  where
    go : Contains (map (turn_of core) now) t ⊎ Contains (stale_turns core now js) t → (core ≡ t.core) × (Contains now t.pick ⊎ Contains js t.pick)
    go (inl d) = let h = from-now core now t d in (h.0, inl h.1)
    go (inr d) = let h = from-stale core now js t d in (h.0, inr h.1)

stale-there : (g : RunState) (core : CoreId) (k : Pick) → Contains (unwrap_or (slice_get g.stale core.0) []) k → IsStale g core k
stale-there g core k c = go (slice_get g.stale core.0) refl c
  where
    go : (o : Option (List Pick)) → slice_get g.stale core.0 ≡ o → Contains (unwrap_or o []) k → IsStale g core k
    go None e d = absurd (none-in k d)
    go (Some js) e d = record { picks = js; stale = e; among = d }

in-core : (g : RunState) (picks : List (List Pick)) (core : CoreId) (k : Pick) → IsPicked g picks core k → Contains (turns_on g picks core.0) (turn_of core k)
in-core g picks core k (inl c) = in-turns core (picks_at picks core.0) (picks_at g.stale core.0) k (inl c)
in-core g picks core k (inr s) =
    in-turns core (picks_at picks core.0) (picks_at g.stale core.0) k (inr (subst (λ o. Contains (unwrap_or o []) k) (sym s.stale) s.among))

from-core : (g : RunState) (picks : List (List Pick)) (i : ℕ) (t : Turn) → Contains (turns_on g picks i) t → IsPicked g picks t.core t.pick
from-core g picks i t c = go (from-turns (record { 0 = i }) (picks_at picks i) (picks_at g.stale i) t c)
  where
    go : (record { 0 = i } ≡ t.core) × (Contains (picks_at picks i) t.pick ⊎ Contains (picks_at g.stale i) t.pick) → IsPicked g picks t.core t.pick
    go (e, inl h) = subst (λ (core : CoreId). IsPicked g picks core t.pick) e (inl h)
    go (e, inr h) = subst (λ (core : CoreId). IsPicked g picks core t.pick) e (inr (stale-there g (record { 0 = i }) t.pick h))

in-below : (g : RunState) (picks : List (List Pick)) (n : ℕ) (core : CoreId) (k : Pick) → core.0 < n → IsPicked g picks core k → Contains (turns_below g picks n) (turn_of core k)
in-below g picks zero core k low h = absurd (omega (arith, low))
in-below g picks (suc n) core k low h = go (λ less. in-below g picks n core k less h) (nat_split core.0 n (omega (arith, low)))
  where
    go : (core.0 < n → Contains (turns_below g picks n) (turn_of core k)) → (core.0 < n) ⊎ (core.0 ≡ n) → Contains (turns_below g picks n ++ turns_on g picks n) (turn_of core k)
    go rest (inl less) = Contains-append_left (turns_below g picks n) (turns_on g picks n) (turn_of core k) (rest less)
    go rest (inr e) = Contains-append_right (turns_below g picks n) (turns_on g picks n) (turn_of core k) (subst (λ i. Contains (turns_on g picks i) (turn_of core k)) e (in-core g picks core k h))

pub from-below : (g : RunState) (picks : List (List Pick)) (n : ℕ) → ArePicked g picks (turns_below g picks n)
from-below g picks zero = λ t c. absurd (none-in t c)
from-below g picks (suc n) = λ t c. go t (from-below g picks n t) (Contains-append_cases (turns_below g picks n) (turns_on g picks n) t c)
  where
    go : (t : Turn) → (Contains (turns_below g picks n) t → IsPicked g picks t.core t.pick) → Contains (turns_below g picks n) t ⊎ Contains (turns_on g picks n) t → IsPicked g picks t.core t.pick
    go t rest (inl c) = rest c
    go t rest (inr c) = from-core g picks n t c

-- a thread that may enter on a core after a legal book does so on a core of its boot
core-below : (b : Book) (core : CoreId) (t : ObjId) → IsLegal b → may_enter (log_of b) core t ≡ true → core.0 < b.boot.cores
core-below b core t legal enters =
    let s : Step = record { core = core; thread = t; entry = entry.NbWait 0 } in
    let longer : Book = record b { lines = line_for s (outcome b s) ∷ b.lines } in
    let after : IsLegal longer = record {
      boot = legal.boot;
      lines = (record { enters = enters; in_range = omega arith; answer = refl; records = refl }, legal.lines);
    } in
    (legal-cores longer after).0

-- a turn that the rule has enters what its core picks or picked before, by the one list of picks
-- that there is
pub turn-picked : (users : List User) (g h : RunState) (picks : List (List Pick)) (core : CoreId) (k : Pick) → ArePicks users g picks → IsTurn users core k g h → IsPicked g picks core k
turn-picked users g h picks core k are turn = go turn.picked
  where
    go : Contains (picks_at turn.picks core.0) k ⊎ IsStale g core k → IsPicked g picks core k
    go (inl c) = inl (subst (λ ks. Contains (picks_at ks core.0) k) (one-picks users g turn.picks picks turn.are_picks are) c)
    go (inr s) = inr s

pub each-below : (users : List User) (g : RunState) (picks : List (List Pick)) → IsLegal g.book → ArePicks users g picks → HasEachTurn users g (turns_below g picks g.book.boot.cores)
each-below users g picks legal are = λ core k h turn.
    in-below g picks g.book.boot.cores core k (core-below g.book core turn.user.thread legal turn.enters) (turn-picked users g h picks core k are turn)

pub no-user : (users : List User) (g : RunState) (core : CoreId) (k : Pick) → slice_get users k.user ≡ None → HasNoTurn users g core k
no-user users g core k none = λ h t. let wrong : None ≡ Some t.user = sym none ∙ t.is_user in absurd cc

pub no-entry : (users : List User) (g : RunState) (core : CoreId) (k : Pick) (u : User) → slice_get users k.user ≡ Some u → slice_get u.entries k.number ≡ None → HasNoTurn users g core k
no-entry users g core k u at none = λ h t.
    let user : t.user ≡ u = one-at users k.user t.user u t.is_user at in
    let wrong : None ≡ Some t.entry = sym none ∙ subst (λ (v : User). slice_get v.entries k.number ≡ Some t.entry) user t.is_entry in
    absurd cc

pub not-picked : (users : List User) (g : RunState) (picks : List (List Pick)) (core : CoreId) (k : Pick) → ArePicks users g picks → (IsPicked g picks core k → ⊥) → HasNoTurn users g core k
not-picked users g picks core k are other = λ h t. other (turn-picked users g h picks core k are t)

pub not-entering : (users : List User) (g : RunState) (core : CoreId) (k : Pick) (u : User) → slice_get users k.user ≡ Some u → may_enter (log_of g.book) core u.thread ≡ false → HasNoTurn users g core k
not-entering users g core k u at turned = λ h t.
    let user : t.user ≡ u = one-at users k.user t.user u t.is_user at in
    let wrong : true ≡ false = sym t.enters ∙ ap (λ (v : User). may_enter (log_of g.book) core v.thread) user ∙ turned in
    absurd cc

-- what is among them passes the test of one of them
any-same : (k : Pick) (js : List Pick) → Contains js k → list_any (is_same k) js ≡ true
any-same k [] c = absurd (none-in k c)
any-same k (j ∷ js) c = go (any-same k js) (split-in j js k c)
  where
    or-true : (b : Bool) → (b || true) ≡ true
    or-true true = refl
    or-true false = refl

    go : (Contains js k → list_any (is_same k) js ≡ true) → (j ≡ k) ⊎ Contains js k → (is_same k j || list_any (is_same k) js) ≡ true
    go rest (inl e) = ap (λ b. b || list_any (is_same k) js) (subst (λ i. is_same k i ≡ true) (sym e) (same-itself k))
    go rest (inr d) = ap (λ b. is_same k j || b) (rest d) ∙ or-true (is_same k j)

pub not-among : (k : Pick) (js : List Pick) → list_any (is_same k) js ≡ false → Contains js k → ⊥
not-among k js none c = let wrong : true ≡ false = sym (any-same k js c) ∙ none in absurd cc

pub not-stale : (g : RunState) (core : CoreId) (k : Pick) (js : List Pick) → slice_get g.stale core.0 ≡ Some js → list_any (is_same k) js ≡ false → IsStale g core k → ⊥
not-stale g core k js at none s =
    let picks : s.picks ≡ js = one-at g.stale core.0 s.picks js s.stale at in
    not-among k js none (subst (λ ks. Contains ks k) picks s.among)

pub none-stale : (g : RunState) (core : CoreId) (k : Pick) → slice_get g.stale core.0 ≡ None → IsStale g core k → ⊥
none-stale g core k none s = let wrong : None ≡ Some s.picks = sym none ∙ s.stale in absurd cc

-- an entry that a list has is within it
pub within-list : (u : User) (k : Pick) (e : Entry) → slice_get u.entries k.number ≡ Some e → k.number < length u.entries
within-list u k e at = slice_get_within u.entries k.number e at

-- what is in a place that a list has
pub or-at : {A : Type 0} (xs : List A) (n : ℕ) (d : A) → n < length xs → slice_get xs n ≡ Some (slice_index_or xs n d)
or-at [] n d lt = absurd (omega (arith, lt))
or-at (x ∷ xs) zero d lt = refl
or-at (x ∷ xs) (suc n) d lt = or-at xs n d (omega (arith, lt))

-- the place of a turn that is among these
index-of : (ts : List Turn) (t : Turn) → Contains ts t → (i : ℕ) × (slice_get ts i ≡ Some t)
index-of [] t c = absurd (none-in t c)
index-of (u ∷ us) t c = go (index-of us t) (split-in u us t c)
  where
    go : (Contains us t → (i : ℕ) × (slice_get us i ≡ Some t)) → (u ≡ t) ⊎ Contains us t → (i : ℕ) × (slice_get (u ∷ us) i ≡ Some t)
    go rest (inl e) = (zero, ap (λ (v : Turn). Some v) e)
    go rest (inr d) = let r = rest d in (suc r.0, r.1)

-- the rule has none of the first n turns
abbrev pub HasNoneBelow : List User → RunState → List Turn → ℕ → Type 0
HasNoneBelow users g ts n = (i : ℕ) (t : Turn) → i < n → slice_get ts i ≡ Some t → HasNoTurn users g t.core t.pick

pub none-first : (users : List User) (g : RunState) (ts : List Turn) → HasNoneBelow users g ts 0
none-first users g ts i t lt = absurd (omega (arith, lt))

pub none-next : (users : List User) (g : RunState) (ts : List Turn) (n : ℕ) (t : Turn) → slice_get ts n ≡ Some t → HasNoTurn users g t.core t.pick → HasNoneBelow users g ts n → HasNoneBelow users g ts (n + 1)
none-next users g ts n t at none before i u lt h = go (nat_split i n (omega (arith, lt)))
  where
    go : (i < n) ⊎ (i ≡ n) → HasNoTurn users g u.core u.pick
    go (inl below) = before i u below h
    go (inr e) = let same : t ≡ u = one-at ts n t u at (ap (λ m. slice_get ts m) (sym e) ∙ h) in subst (λ (v : Turn). HasNoTurn users g v.core v.pick) same none

-- where it has none of all, no turn is possible
pub none-over : (users : List User) (g : RunState) (ts : List Turn) (n : ℕ) → HasEachTurn users g ts → length ts ≤ n → HasNoneBelow users g ts n → IsOver users g
none-over users g ts n each long none = λ h f.
    let i = index-of ts (turn_of f.core f.pick) (each f.core f.pick h f.turn) in
    let within = slice_get_within ts i.0 (turn_of f.core f.pick) i.1 in
    none i.0 (turn_of f.core f.pick) (omega (arith, within, long)) i.1 h f.turn

-- an entry that the rule lets in is a turn
pub some-turn : {X : Type 0} (users : List User) (g : RunState) (picks : List (List Pick)) (t : Turn) (user : X → User) (entry : X → Entry) (o : Option X) → ArePicks users g picks
    → IfSome o (λ x. IsEntrant users g picks t (user x) (entry x)) → is_some o ≡ true → (h : RunState) × IsTurn users t.core t.pick g h
some-turn users g picks t user entry (Some x) are is there = (
  entered users picks (user x) (step_of t.core (user x) (given g (user x) t.pick (entry x))) t.pick g,
  record {
    user = user x;
    entry = entry x;
    picks = picks;
    is_user = is.is_user;
    is_entry = is.is_entry;
    are_picks = are;
    picked = is.picked;
    enters = is.enters;
    after = refl;
  },
)
some-turn users g picks t user entry None are is there = absurd cc

-- and without one there is no turn
pub none-turn : {X : Type 0} (users : List User) (g : RunState) (t : Turn) (o : Option X) → IfNone o (HasNoTurn users g t.core t.pick) → is_some o ≡ false → HasNoTurn users g t.core t.pick
none-turn users g t None none empty = none
none-turn users g t (Some x) none empty = absurd cc
