-- What judging questions says of all that was shown.
use Rattle.std.specs.Prelude.{ℕ, zero, suc, ◌≡◌, ◌⊎◌, Bool, true, false, cond, replicate, List, [], ◌∷◌, Option, Some, None, length, slice_get}
use Rattle.std.proofs.Common.{refl, ap, sym, ◌∙◌, subst, inl, inr, arith}
use Rattle.std.proofs.lemmas.List.{length-replicate}
use Rattle.mcs_turns.specs.declared.position.Position.{Position}
use Rattle.mcs_turns.specs.Turns.{User, RunState}
use Rattle.mcs_types.specs.declared.entry.Answer.{Answer}
use Rattle.mcs_explore_walk.specs.declared.walk.Turn.{Turn}
use Rattle.mcs_explore_orders.specs.Shown.{Made, Shown, SeenState, nothing, with_state, with_turn}
use Rattle.mcs_explore_questions.specs.declared.questions.Asked.{Asked}
use Rattle.mcs_explore_script.specs.declared.questions.AskedLine.{AskedLine}
use Rattle.mcs_explore_report.specs.declared.judgement.Sighting.{Sighting}
use Rattle.mcs_explore_report.specs.Judging.{fails}
use Rattle.mcs_explore_report.specs.Judged.{AreJudged, AreJudgedBy, HasHeld, IsJudged, IsShownBy, judged}
use Rattle.mcs_explore_search.proofs.Places.{at-last, at-old, at-split, at-within, some-same, within-at}

-- more that was shown: what was shown before still is
pub record IsMore (old new : Shown) : Type 0 where
  pub states : (j : ℕ) (s : SeenState) → slice_get old.states j ≡ Some s → slice_get new.states j ≡ Some s
  pub turns : (j : ℕ) (m : Made) → slice_get old.turns j ≡ Some m → slice_get new.turns j ≡ Some m

shown-still : (old new : Shown) → IsMore old new → (i : ℕ) (t : Option Turn) (g : RunState) → IsShownBy old i t g → IsShownBy new i t g
shown-still old new more i None g is = record { number = is.number; sight = is.sight; at = more.states is.number is.sight is.at; place = is.place; run_state = is.run_state }
shown-still old new more i (Some t) g is = record { number = is.number; made = is.made; at = more.turns is.number is.made is.at; place = is.place; turn = is.turn; run_state = is.run_state }

-- one look more, which was shown, and where what was shown is that or was before
pub record IsLook (users : List User) (seen : Sighting) (g : RunState) (old new : Shown) : Type 0 where
  pub more : IsMore old new
  pub is : IsShownBy new seen.place seen.turn g
  pub held : (q : Asked) → fails users q seen.turn g ≡ false → HasHeld users q old → HasHeld users q new

judged-one : (users : List User) (seen : Sighting) (g : RunState) (old new : Shown) → IsLook users seen g old new → (q : Asked) (f : Option Sighting) → IsJudged users q old f → IsJudged users q new (judged users q seen g f)
judged-one users seen g old new look q (Some before) is = record { run_state = is.run_state; is = shown-still old new look.more before.place before.turn is.run_state is.is; fails = is.fails }
judged-one users seen g old new look q None held = go (fails users q seen.turn g) refl
  where
    go : (b : Bool) → fails users q seen.turn g ≡ b → IsJudged users q new (cond b (Some seen) None)
    go true failed = record { run_state = g; is = look.is; fails = failed }
    go false not_failed = look.held q not_failed held

-- all questions after one look more
pub judged-more : (users : List User) (questions : List AskedLine) (seen : Sighting) (g : RunState) (old new : Shown) → IsLook users seen g old new → (before after : List (Option Sighting)) → AreJudgedBy users questions seen g before after
    → AreJudged users questions old before → AreJudged users questions new after
judged-more users questions seen g old new look before after by are = record { long = by.long ∙ are.long; each = each }
  where
    each : (i : ℕ) (q : AskedLine) (f : Option Sighting) → slice_get questions i ≡ Some q → slice_get after i ≡ Some f → IsJudged users q.asked new f
    each i q f asks at =
        let there = within-at before i (let lt = at-within after i f at in let long = by.long in omega (arith, lt, long)) in
        let is : judged users q.asked seen g there.0 ≡ f = some-same (judged users q.asked seen g there.0) f (sym (by.each i q there.0 asks there.1) ∙ at) in
        subst (λ (o : Option Sighting). IsJudged users q.asked new o) is (judged-one users seen g old new look q.asked there.0 (are.each i q there.0 asks there.1))

-- a state is a look
pub state-look : (users : List User) (place : ℕ) (g : RunState) (over : Bool) (shown : Shown) → IsLook users (record { place = place; turn = None }) g shown (with_state place g over shown)
state-look users place g over shown = record {
  more = record { states = λ j s at. at-old shown.states (sight ∷ []) j s at; turns = λ j m at. at };
  is = record { number = length shown.states; sight = sight; at = at-last shown.states sight; place = refl; run_state = refl };
  held = λ q not_failed held. record { states = λ j s at. states q not_failed held j s (at-split shown.states sight j s at); turns = held.turns };
}
  where
    sight : SeenState
    sight = record { place = place; run_state = g; is_over = over }

    states : (q : Asked) → fails users q None g ≡ false → HasHeld users q shown → (j : ℕ) (s : SeenState) → (slice_get shown.states j ≡ Some s) ⊎ ((j ≡ length shown.states) × (s ≡ sight)) → fails users q None s.run_state ≡ false
    states q not_failed held j s (inl before) = held.states j s before
    states q not_failed held j s (inr e) = ap (λ (x : SeenState). fails users q None x.run_state) e.1 ∙ not_failed

-- so is a turn
pub turn-look : (users : List User) (place : ℕ) (t : Turn) (a : Answer) (from : List Position) (h : RunState) (shown : Shown) → IsLook users (record { place = place; turn = Some t }) h shown (with_turn place t a from h shown)
turn-look users place t a from h shown = record {
  more = record { states = λ j s at. at; turns = λ j m at. at-old shown.turns (made ∷ []) j m at };
  is = record { number = length shown.turns; made = made; at = at-last shown.turns made; place = refl; turn = refl; run_state = refl };
  held = λ q not_failed held. record { states = held.states; turns = λ j m at. turns q not_failed held j m (at-split shown.turns made j m at) };
}
  where
    made : Made
    made = record { place = place; turn = t; answer = a; from = from; run_state = h }

    turns : (q : Asked) → fails users q (Some t) h ≡ false → HasHeld users q shown → (j : ℕ) (m : Made) → (slice_get shown.turns j ≡ Some m) ⊎ ((j ≡ length shown.turns) × (m ≡ made)) → fails users q (Some m.turn) m.run_state ≡ false
    turns q not_failed held j m (inl before) = held.turns j m before
    turns q not_failed held j m (inr e) = ap (λ (x : Made). fails users q (Some x.turn) x.run_state) e.1 ∙ not_failed

-- before the first look
at-none : (n i : ℕ) (f : Option Sighting) → slice_get (replicate n None) i ≡ Some f → f ≡ None
at-none zero i f at = absurd cc
at-none (suc n) zero f at = sym (some-same None f at)
at-none (suc n) (suc i) f at = at-none n i f at

pub none-judged : (users : List User) (questions : List AskedLine) → AreJudged users questions nothing (replicate (length questions) None)
none-judged users questions = record {
  long = length-replicate (length questions) None;
  each = λ i q f asks at. subst (λ (o : Option Sighting). IsJudged users q.asked nothing o) (sym (at-none (length questions) i f at)) (record { states = λ j s there. absurd cc; turns = λ j m there. absurd cc });
}
