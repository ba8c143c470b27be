-- The result of one question more.
use Rattle.std.specs.Prelude.{ℕ, zero, suc, ◌≡◌, ◌<◌, ◌+◌, ◌++◌, ◌⊎◌, ◌&&◌, ◌||◌, Bool, true, false, not, is_none, is_some, List, [], ◌∷◌, Option, Some, None, slice_get}
use Rattle.std.proofs.Common.{refl, ap, sym, ◌∙◌, subst, inl, inr, arith}
use Rattle.std.proofs.lemmas.Bool.{and_parts}
use Rattle.std.proofs.lemmas.List.Folds.{list_all-append, list_any-append}
use Rattle.mcs_turns.specs.Turns.{User}
use Rattle.mcs_explore_questions.specs.Asking.{is_question}
use Rattle.mcs_explore_script.specs.declared.questions.AskedLine.{AskedLine}
use Rattle.mcs_explore_report.specs.declared.findings.Judged.{Judged}
use Rattle.mcs_explore_report.specs.declared.judgement.Sighting.{Sighting}
use Rattle.mcs_explore_report.specs.Answers.{Tables}
use Rattle.mcs_explore_report.specs.Ends.{Kind}
use Rattle.mcs_explore_report.specs.Outcomes.{AddsJudged, AreHeldBelow, HasMissed, IsHeld, IsJudgedMore, all_hold, any_fails, are_live, count_lives, fails, holds, stuck_of}
use Rattle.mcs_explore_report.specs.Verdicts.{failed_at}
use Rattle.mcs_explore_search.proofs.Places.{some-same}
use Rattle.mcs_explore_report.proofs.Lists.{same-or-not}

or_parts : (a b : Bool) → (a || b) ≡ true → (a ≡ true) ⊎ (b ≡ true)
or_parts true b h = inl refl
or_parts false b h = inr h

or-false : (a : Bool) → (a || false) ≡ true → a ≡ true
or-false true h = refl
or-false false h = h

module _ (users : List User) (kinds : List Kind) (tables : Tables) (failed : List (Option Sighting)) (questions : List AskedLine) (live : Bool) (states done : ℕ) where
  held-next : (n : ℕ) (q : AskedLine) → slice_get questions n ≡ Some q → (is_question q.asked ≡ true → IsHeld users kinds tables (failed_at failed n) q.asked) → AreHeldBelow users kinds tables failed questions n → AreHeldBelow users kinds tables failed questions (n + 1)
  held-next n q at held before = λ i x below there asks. by i x below there asks (same-or-not i n)
    where
      by : (i : ℕ) (x : AskedLine) → i < n + 1 → slice_get questions i ≡ Some x → is_question x.asked ≡ true → (i ≡ n) ⊎ (i ≡ n → ⊥) → IsHeld users kinds tables (failed_at failed i) x.asked
      by i x below there asks (inl same) =
          let line : q ≡ x = some-same q x (sym at ∙ (ap (λ (m : ℕ). slice_get questions m) (sym same) ∙ there)) in
          subst (λ (m : ℕ). IsHeld users kinds tables (failed_at failed m) x.asked) (sym same)
          (subst (λ (y : AskedLine). IsHeld users kinds tables (failed_at failed n) y.asked) line (held (ap (λ (y : AskedLine). is_question y.asked) line ∙ asks)))
      by i x below there asks (inr other) = before i x (omega (arith, below, other)) there asks

  -- where all questions hold that were judged, each line before the next is a question that
  -- holds, or none
  pub judged-next : (n : ℕ) (q : AskedLine) (old new : List Judged) → slice_get questions n ≡ Some q → IsJudgedMore users kinds tables failed questions live states done n old new → (all_hold old ≡ true → AreHeldBelow users kinds tables failed questions n)
      → all_hold new ≡ true → AreHeldBelow users kinds tables failed questions (n + 1)
  judged-next n q old new at more before all = by (is_question q.asked) refl
    where
      by : (b : Bool) → is_question q.asked ≡ b → AreHeldBelow users kinds tables failed questions (n + 1)
      by true asks =
          let adds : AddsJudged users kinds tables failed questions live states done n old new = more.asks q at asks in
          let parts = and_parts (all_hold old) (all_hold (adds.judged ∷ [])) (sym (list_all-append (λ (j : Judged). holds j.outcome) old (adds.judged ∷ [])) ∙ (sym (ap all_hold adds.added) ∙ all)) in
          let holds_it = (and_parts (holds adds.judged.outcome) true parts.1).0 in
          held-next n q at (λ same. adds.held q at holds_it) (before parts.0)
      by false not = held-next n q at (λ asks. let no : false ≡ true = sym not ∙ asks in absurd cc) (before (sym (ap all_hold (more.other q at not)) ∙ all))

  -- where one of the questions fails that were judged, a verdict says so
  pub missed-next : (n : ℕ) (q : AskedLine) (old new : List Judged) → slice_get questions n ≡ Some q → IsJudgedMore users kinds tables failed questions live states done n old new
      → (any_fails old ≡ true → HasMissed users kinds tables failed questions live states done) → any_fails new ≡ true → HasMissed users kinds tables failed questions live states done
  missed-next n q old new at more before any = by (is_question q.asked) refl
    where
      by : (b : Bool) → is_question q.asked ≡ b → HasMissed users kinds tables failed questions live states done
      by true asks = last (or_parts (any_fails old) (any_fails (adds.judged ∷ [])) (sym (list_any-append (λ (j : Judged). fails j.outcome) old (adds.judged ∷ [])) ∙ (sym (ap any_fails adds.added) ∙ any)))
        where
          adds : AddsJudged users kinds tables failed questions live states done n old new
          adds = more.asks q at asks

          last : (any_fails old ≡ true) ⊎ (any_fails (adds.judged ∷ []) ≡ true) → HasMissed users kinds tables failed questions live states done
          last (inl old_one) = before old_one
          last (inr new_one) = record { index = n; line = q; at = at; is = adds.missed q at (or-false (fails adds.judged.outcome) new_one) }
      by false not = before (sym (ap any_fails (more.other q at not)) ∙ any)

and-false : (a b : Bool) → b ≡ false → (a && b) ≡ false
and-false true b e = e
and-false false b e = refl

-- a place that there is
some-place : (places : List (Option ℕ)) (k p : ℕ) → slice_get places k ≡ Some (Some p) → are_live places ≡ false
some-place [] k p at = absurd cc
some-place (o ∷ os) zero p at = ap (λ (x : Option ℕ). is_none x && are_live os) (some-same o (Some p) at)
some-place (o ∷ os) (suc k) p at = and-false (is_none o) (are_live os) (some-place os k p at)

-- where the user of a question is stuck, not all are live
pub stuck_not_live : (questions : List AskedLine) (places : List (Option ℕ)) (n : ℕ) → is_some (stuck_of questions places n) ≡ true → are_live places ≡ false
stuck_not_live questions places n some = go (slice_get places (count_lives questions n)) refl some
  where
    go : (o : Option (Option ℕ)) → slice_get places (count_lives questions n) ≡ o → is_some {T = Sighting} (elim o [ None ↦ None | Some p ↦ elim p [ None ↦ None | Some place ↦ Some (record { place = place; turn = None }) ] ]) ≡ true → are_live places ≡ false
    go None at is = absurd cc
    go (Some None) at is = absurd cc
    go (Some (Some p)) at is = some-place places (count_lives questions n) p at

-- where nothing fails, no user is stuck and each is done
pub no-failure : (fails live done : Bool) → ((fails || not live) || not done) ≡ false → (live ≡ true) × (done ≡ true)
no-failure false true true none = (refl, refl)
no-failure false true false none = absurd cc
no-failure false false done none = absurd cc
no-failure true live done none = absurd cc
