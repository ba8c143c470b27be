-- In runs the number with which a user waits is that of an entry.
use Rattle.std.specs.Prelude.{ℕ, zero, suc, ◌≡◌, ◌+◌, ◌==◌, ◌⊎◌, Bool, true, false, cond, map, List, [], ◌∷◌, Option, Some, None, slice_get}
use Rattle.std.proofs.Common.{refl, ap, sym, ◌∙◌, subst, inl, inr}
use Rattle.mcs_types.specs.declared.entry.Answer.{Answer}
use Rattle.mcs_types.specs.declared.entry.Answer.TheVariants as answer
use Rattle.mcs_types.specs.declared.entry.Step.{Step}
use Rattle.mcs_types.specs.Ids.{same}
use Rattle.mcs_book.specs.Boots.{Boot}
use Rattle.mcs_turns.specs.declared.position.Position.{Position}
use Rattle.mcs_turns.specs.declared.position.Pick.{Pick}
use Rattle.mcs_turns.specs.Due.{begun}
use Rattle.mcs_turns.specs.declared.program.Op.{Op}
use Rattle.mcs_turns.specs.declared.program.Saved.{Saved}
use Rattle.mcs_turns.specs.declared.program.Settled.{Settled}
use Rattle.mcs_turns.specs.Mail.{reached_from}
use Rattle.mcs_turns.specs.Programs.{goes_on, starts}
use Rattle.mcs_turns.specs.Turns.{User, RunState, IsRun, IsTurn, all_answered, position_after, comes_of, given, gone_on, listed_after, outcome, place_answered, put_at, saved_at, started, answered, answered_all, answered_if, waiting_after}
use Rattle.mcs_explore_walk.specs.declared.walk.Turn.{Turn}
use Rattle.mcs_turns.specs.declared.reached.Reached.{Reached}
use Rattle.mcs_explore_script.specs.UserLists.{user_of}
use Rattle.mcs_explore_report.specs.Answers.{IsEntry, IsMailed, comes_to, mailed_to, waiting}
use Rattle.mcs_explore_search.proofs.Places.{some-same}

-- what is in a list where another was put
put-in : {A : Type 0} (k : ℕ) (x : A) (ys : List A) (i : ℕ) (y : A) → slice_get (put_at k x ys) i ≡ Some y → ((i ≡ k) × (y ≡ x)) ⊎ (slice_get ys i ≡ Some y)
put-in k x [] i y at = absurd cc
put-in zero x (z ∷ ys) zero y at = inl (refl, sym (some-same x y at))
put-in zero x (z ∷ ys) (suc i) y at = inr at
put-in (suc k) x (z ∷ ys) zero y at = inr at
put-in (suc k) x (z ∷ ys) (suc i) y at = go (put-in k x ys i y at)
  where
    go : ((i ≡ k) × (y ≡ x)) ⊎ (slice_get ys i ≡ Some y) → ((suc i ≡ suc k) × (y ≡ x)) ⊎ (slice_get ys i ≡ Some y)
    go (inl e) = inl (ap (λ n. suc n) e.0, e.1)
    go (inr h) = inr h

-- what waits after where a program continues waited before
gone-waits : (o : Option Settled) (u : User) (p : Position) (m : ℕ) → (gone_on o u p).waited ≡ Some m → p.waited ≡ Some m
gone-waits None u p m e = e
gone-waits (Some x) u p m e = absurd cc

begins-free : (o : Option Settled) (u : User) → (gone_on o u begun).waited ≡ None
begins-free None u = refl
begins-free (Some x) u = refl

started-in : (us : List User) (i : ℕ) (p : Position) → slice_get (map started us) i ≡ Some p → p.waited ≡ None
started-in [] i p at = absurd cc
started-in (u ∷ us) zero p at = ap (λ (q : Position). q.waited) (sym (some-same (started u) p at)) ∙ begins-free (starts u.ops) u
started-in (u ∷ us) (suc i) p at = started-in us i p at

-- a user whose entry waits waits with it
waiting-it : (os : List Op) (u : User) (number m : ℕ) (s : Saved) → (waiting_after os u number s).waited ≡ Some m → m ≡ number
waiting-it [] u number m s e = sym (some-same number m e)
waiting-it (o ∷ os) u number m s e = sym (some-same number m e)

-- an entry that was answered leaves nothing that waits
free : (u : User) (number m : ℕ) (o : Option Settled) (p : Position) → p.waited ≡ None → (gone_on o u p).waited ≡ Some m → ⊥
free u number m o p none e = let waits : None ≡ Some m = sym none ∙ gone-waits o u p m e in absurd cc

-- after an entry its user waits with it, if with one
after-it : (u : User) (number m : ℕ) (s : Saved) (a : Answer) → (position_after u number s a).waited ≡ Some m → m ≡ number
after-it u number m s answer.Waits e = waiting-it u.ops u number m s e
after-it u number m s answer.Done e = absurd (free u number m (goes_on u.ops number s answer.Done) (listed_after u number s answer.Done) refl e)
after-it u number m s (answer.Got badge message) e = absurd (free u number m (goes_on u.ops number s (answer.Got badge message)) (listed_after u number s (answer.Got badge message)) refl e)
after-it u number m s (answer.Heard word) e = absurd (free u number m (goes_on u.ops number s (answer.Heard word)) (listed_after u number s (answer.Heard word)) refl e)
after-it u number m s answer.Empty e = absurd (free u number m (goes_on u.ops number s answer.Empty) (listed_after u number s answer.Empty) refl e)
after-it u number m s (answer.Refused why) e = absurd (free u number m (goes_on u.ops number s (answer.Refused why)) (listed_after u number s (answer.Refused why)) refl e)

-- what waits after something reached a user waited before
answered-waits : (u : User) (a : Answer) (p : Position) (m : ℕ) → (answered u a p).waited ≡ Some m → p.waited ≡ Some m
answered-waits u a p m e = go p.waited e
  where
    last : (number : ℕ) (b : Bool) → (cond b (gone_on (goes_on u.ops number p.saved a) u p) p).waited ≡ Some m → p.waited ≡ Some m
    last number true e = gone-waits (goes_on u.ops number p.saved a) u p m e
    last number false e = e

    by : Option ℕ → Position
    by o = elim o [ None ↦ p | Some number ↦ cond (comes_of u number a) (gone_on (goes_on u.ops number p.saved a) u p) p ]

    go : (o : Option ℕ) → (by o).waited ≡ Some m → p.waited ≡ Some m
    go None e = e
    go (Some number) e = last number (comes_of u number a) e

answered-if-waits : (u : User) (r : Reached) (p : Position) (m : ℕ) → (answered_if u r p).waited ≡ Some m → p.waited ≡ Some m
answered-if-waits u r p m e = go (same u.thread r.thread) e
  where
    go : (b : Bool) → (cond b (answered u r.answer p) p).waited ≡ Some m → p.waited ≡ Some m
    go true e = answered-waits u r.answer p m e
    go false e = e

answered-all-waits : (rs : List Reached) (u : User) (p : Position) (m : ℕ) → (answered_all rs u p).waited ≡ Some m → p.waited ≡ Some m
answered-all-waits [] u p m e = e
answered-all-waits (r ∷ rs) u p m e = answered-if-waits u r p m (answered-all-waits rs u (answered_if u r p) m e)

place-answered-waits : (rs : List Reached) (own : ℕ) (users : List User) (i : ℕ) (p : Position) (m : ℕ) → (place_answered rs own users i p).waited ≡ Some m → p.waited ≡ Some m
place-answered-waits rs own users i p m e = go (i == own) (slice_get users i) e
  where
    go : (b : Bool) (o : Option User) → (cond b p (elim o [ None ↦ p | Some u ↦ answered_all rs u p ])).waited ≡ Some m → p.waited ≡ Some m
    go true o e = e
    go false None e = e
    go false (Some u) e = answered-all-waits rs u p m e

-- a user that is in a place was there before, and waited if it waits
answered-in : (rs : List Reached) (own i : ℕ) (users : List User) (ps : List Position) (j : ℕ) (p : Position) → slice_get (all_answered rs own i users ps) j ≡ Some p → (q : Position) × ((slice_get ps j ≡ Some q) × ((m : ℕ) → p.waited ≡ Some m → q.waited ≡ Some m))
answered-in rs own i users [] j p at = absurd cc
answered-in rs own i users (q ∷ qs) zero p at = (q, (refl, λ m e. place-answered-waits rs own users i q m (ap (λ (x : Position). x.waited) (some-same (place_answered rs own users i q) p at) ∙ e)))
answered-in rs own i users (q ∷ qs) (suc j) p at = answered-in rs own (i + 1) users qs j p at

waits-entry : (users : List User) (boot : Boot) (n : ℕ) (g : RunState) → IsRun users boot n g → (i m : ℕ) (p : Position) → slice_get g.places i ≡ Some p → p.waited ≡ Some m → IsEntry users i m
waits-entry users boot zero g begins i m p at waits =
    absurd (none (sym (started-in users i p (ap (λ (x : RunState). slice_get x.places i) (sym begins) ∙ at)) ∙ waits))
  where
    none : None ≡ Some m → ⊥
    none e = absurd cc
waits-entry users boot (suc n) h (g, (run, follows)) i m p at waits =
    let before = answered-in (reached_from None (outcome g.book step).records) k.user 0 users (put_at k.user there g.places) i p (ap (λ (x : RunState). slice_get x.places i) (sym turn.after) ∙ at) in
    go before.0 (put-in k.user there g.places i before.0 before.1.0) (before.1.1 m waits) (λ q was w. waits-entry users boot n g run i m q was w)
  where
    k : Pick
    k = follows.pick

    turn : IsTurn users follows.core k g h
    turn = follows.turn

    step : Step
    step = record { core = follows.core; thread = turn.user.thread; entry = given g turn.user k turn.entry }

    there : Position
    there = position_after turn.user k.number (saved_at g k.user) (outcome g.book step).answer

    go : (q : Position) → ((i ≡ k.user) × (q ≡ there)) ⊎ (slice_get g.places i ≡ Some q) → q.waited ≡ Some m → ((q : Position) → slice_get g.places i ≡ Some q → q.waited ≡ Some m → IsEntry users i m) → IsEntry users i m
    go q (inr before) w old = old q before w
    go q (inl e) w old =
        let number = after-it turn.user k.number m (saved_at g k.user) (outcome g.book step).answer (ap (λ (x : Position). x.waited) (sym e.1) ∙ w) in
        let is : IsEntry users k.user k.number = record { one = turn.user; entry = turn.entry; is_user = turn.is_user; is_entry = turn.is_entry } in
        subst (λ j. IsEntry users j m) (sym e.0) (subst (λ x. IsEntry users k.user x) (sym number) is)

-- the entry to which something comes waited
mailed-waits : (users : List User) (from : List Position) (t : Turn) (r : Reached) (e : Pick) → mailed_to users from t r ≡ Some e → waiting from e.user t ≡ Some e.number
mailed-waits users from t r e is = outer (user_of users r.thread) is
  where
    last : (user number : ℕ) → waiting from user t ≡ Some number → (b : Bool) → cond b (Some (record { user = user; number = number })) None ≡ Some e → waiting from e.user t ≡ Some e.number
    last user number waits false is = absurd cc
    last user number waits true is = let same : record { user = user; number = number } ≡ e = some-same (record { user = user; number = number }) e is in subst (λ (k : Pick). waiting from k.user t ≡ Some k.number) same waits

    inner : (user : ℕ) (o : Option ℕ) → waiting from user t ≡ o → elim o [ None ↦ None | Some number ↦ cond (comes_to users user number r.answer) (Some (record { user = user; number = number })) None ] ≡ Some e → waiting from e.user t ≡ Some e.number
    inner user None waits is = absurd cc
    inner user (Some number) waits is = last user number waits (comes_to users user number r.answer) is

    outer : (o : Option ℕ) → elim o [ None ↦ None | Some user ↦ elim (waiting from user t) [ None ↦ None | Some number ↦ cond (comes_to users user number r.answer) (Some (record { user = user; number = number })) None ] ] ≡ Some e
        → waiting from e.user t ≡ Some e.number
    outer None is = absurd cc
    outer (Some user) is = inner user (waiting from user t) refl is

waits-there : (from : List Position) (user number : ℕ) (t : Turn) → waiting from user t ≡ Some number → (p : Position) × ((slice_get from user ≡ Some p) × (p.waited ≡ Some number))
waits-there from user number t is = other (user == t.pick.user) is
  where
    found : (o : Option Position) → slice_get from user ≡ o → elim o [ None ↦ None | Some p ↦ p.waited ] ≡ Some number → (p : Position) × ((slice_get from user ≡ Some p) × (p.waited ≡ Some number))
    found None there is = absurd cc
    found (Some p) there is = (p, (there, is))

    other : (b : Bool) → cond b None (elim (slice_get from user) [ None ↦ None | Some p ↦ p.waited ]) ≡ Some number → (p : Position) × ((slice_get from user ≡ Some p) × (p.waited ≡ Some number))
    other true is = absurd cc
    other false is = found (slice_get from user) refl is

-- it is one that its user has
pub mailed-entry : (users : List User) (boot : Boot) (n : ℕ) (g h : RunState) (user number : ℕ) (t : Turn) (a : Answer) → IsRun users boot n g → IsMailed users g.places h user number t a → IsEntry users user number
mailed-entry users boot n g h user number t a run mail =
    let p = waits-there g.places user number t (mailed-waits users g.places t mail.reached (record { user = user; number = number }) mail.to) in
    waits-entry users boot n g run user number p.0 p.1.0 p.1.1
