-- What runs show of one question more.
use Rattle.std.specs.Prelude.{ℕ, ◌≡◌, ◌++◌, ◌⊎◌, ◌||◌, Bool, true, false, List, [], ◌∷◌, Option, Some, Result, Ok, Err, slice_get}
use Rattle.std.specs.Result.{OnOk}
use Rattle.std.proofs.Common.{refl, ap, sym, ◌∙◌, inl, inr}
use Rattle.std.proofs.lemmas.List.Folds.{list_any-append}
use Rattle.mcs_turns.specs.Turns.{User}
use Rattle.mcs_explore_script.specs.declared.questions.AskedLine.{AskedLine}
use Rattle.mcs_explore_report.specs.declared.judgement.Sighting.{Sighting}
use Rattle.mcs_explore_report.specs.Answers.{Tables}
use Rattle.mcs_explore_report.specs.Ends.{Kind}
use Rattle.mcs_explore_report.specs.Verdicts.{failed_at}
use Rattle.mcs_explore_run.specs.declared.evidence.Judged.{Judged}
use Rattle.mcs_explore_run.specs.Samples.{HasShownFailure, IsShownToFail, any_fails, fails}

or_parts : (a b : Bool) → (a || b) ≡ true → (a ≡ true) ⊎ (b ≡ true)
or_parts true b h = inl refl
or_parts false b h = inr h

or-false : (a : Bool) → (a || false) ≡ true → a ≡ true
or-false true h = refl
or-false false h = h

-- where one of the questions fails, the last does, or one before it
pub judged-more : {E : Type 0} (r : Result (Unit {0}) E) (users : List User) (questions : List AskedLine) (kinds : List Kind) (tables : Tables) (failed : List (Option Sighting)) (n : ℕ) (q : AskedLine) → slice_get questions n ≡ Some q → (old new : List Judged) (j : Judged)
    → OnOk r (new ≡ old ++ j ∷ []) → (fails j.showed ≡ true → IsShownToFail users kinds tables (failed_at failed n) q.asked)
    → OnOk r (any_fails new ≡ true → (any_fails old ≡ true) ⊎ HasShownFailure users questions kinds tables failed)
judged-more (Err e) users questions kinds tables failed n q at old new j added is = tt
judged-more (Ok x) users questions kinds tables failed n q at old new j added is = λ any. by (or_parts (any_fails old) (any_fails (j ∷ [])) (sym (list_any-append (λ (k : Judged). fails k.showed) old (j ∷ [])) ∙ (sym (ap any_fails added) ∙ any)))
  where
    by : (any_fails old ≡ true) ⊎ (any_fails (j ∷ []) ≡ true) → (any_fails old ≡ true) ⊎ HasShownFailure users questions kinds tables failed
    by (inl before) = inl before
    by (inr last) = inr (record { index = n; line = q; at = at; is = is (or-false (fails j.showed) last) })

pub one-of : {A B : Type 0} → (A → B) → A ⊎ B → B
one-of f (inl a) = f a
one-of f (inr b) = b
