-- What is shown of runs, one state or turn after the other.
use Rattle.std.specs.Prelude.{ℕ, ◌≡◌, ◌++◌, ◌⊎◌, Bool, true, List, [], ◌∷◌, Some, Result, Ok, Err, length, slice_get}
use Rattle.std.specs.Result.{OnOk}
use Rattle.std.proofs.Common.{refl, sym, subst, inl, inr}
use Rattle.mcs_types.specs.declared.entry.Answer.{Answer}
use Rattle.mcs_book.specs.Boots.{Boot}
use Rattle.mcs_turns.specs.Turns.{RunState, IsOver, User}
use Rattle.mcs_explore_walk.specs.declared.walk.Turn.{Turn}
use Rattle.mcs_explore_walk.specs.Walks.{last_answer}
use Rattle.mcs_explore_orders.specs.Shown.{Made, SeesState, SeesTurn, Shown, SeenState, nothing, with_state, with_turn}
use Rattle.mcs_explore_orders.specs.Trails.{Leads}
use Rattle.mcs_explore_search.proofs.Places.{at-split}
use Rattle.mcs_explore_run.specs.Samples.{AreOfRuns, IsFromRun, IsOfRun, SeesFrom}

-- what holds after each call holds after one that returned Ok
pub on-ok : {T E P : Type 0} (r : Result T E) → P → OnOk r P
on-ok (Ok x) p = p
on-ok (Err e) p = tt

state-more : (users : List User) (boot : Boot) (shown : Shown) (s : SeenState) → IsOfRun users boot s → AreOfRuns users boot shown → AreOfRuns users boot (record shown { states = shown.states ++ s ∷ [] })
state-more users boot shown s is are = record { states = λ j x at. by j x (at-split shown.states s j x at); turns = are.turns }
  where
    by : (j : ℕ) (x : SeenState) → (slice_get shown.states j ≡ Some x) ⊎ ((j ≡ length shown.states) × (x ≡ s)) → IsOfRun users boot x
    by j x (inl at) = are.states j x at
    by j x (inr last) = subst (λ (y : SeenState). IsOfRun users boot y) (sym last.1) is

turn-more : (users : List User) (boot : Boot) (shown : Shown) (m : Made) → IsFromRun users boot m → AreOfRuns users boot shown → AreOfRuns users boot (record shown { turns = shown.turns ++ m ∷ [] })
turn-more users boot shown m is are = record { states = are.states; turns = λ j x at. by j x (at-split shown.turns m j x at) }
  where
    by : (j : ℕ) (x : Made) → (slice_get shown.turns j ≡ Some x) ⊎ ((j ≡ length shown.turns) × (x ≡ m)) → IsFromRun users boot x
    by j x (inl at) = are.turns j x at
    by j x (inr last) = subst (λ (y : Made). IsFromRun users boot y) (sym last.1) is

-- a state of a run is shown
pub sees-state : {W E : Type 0} (r : Result (Unit {0}) E) (Has : W → List User → Shown → Type 0) (old new : W) (users : List User) (place : ℕ) (g : RunState) (over : Bool) → (over ≡ true → IsOver users g) → OnOk r (SeesState Has old new users place g over)
    → OnOk r (SeesFrom Has old new users g)
sees-state (Err e) Has old new users place g over is sees = tt
sees-state (Ok x) Has old new users place g over is sees = λ boot n run seen. record {
  shown = with_state place g over seen.shown;
  has = sees seen.shown seen.has;
  are = state-more users boot seen.shown (record { place = place; run_state = g; is_over = over }) (record { turns = n; run = run; over = is }) seen.are;
}

-- a turn from a state of a run is
pub sees-turn : {W E : Type 0} (r : Result (Unit {0}) E) (Has : W → List User → Shown → Type 0) (old new : W) (users : List User) (place : ℕ) (t : Turn) (a : Answer) (g h : RunState) → Leads users t g h → last_answer h.book ≡ Some a
    → OnOk r (SeesTurn Has old new users place t a g.places h) → OnOk r (SeesFrom Has old new users g)
sees-turn (Err e) Has old new users place t a g h leads answer sees = tt
sees-turn (Ok x) Has old new users place t a g h leads answer sees = λ boot n run seen. record {
  shown = with_turn place t a g.places h seen.shown;
  has = sees seen.shown seen.has;
  are = turn-more users boot seen.shown (record { place = place; turn = t; answer = a; from = g.places; run_state = h }) (record { turns = n; state = g; run = run; turn = record { leads = leads; from = refl; answer = answer } }) seen.are;
}

-- before anything is shown
pub nothing-shown : (users : List User) (boot : Boot) → AreOfRuns users boot nothing
nothing-shown users boot = record { states = λ j s at. absurd cc; turns = λ j m at. absurd cc }
