use Rattle.std.proofs.Common.{◌≡◌, ◌<◌, true, false, refl, sym, ◌∙◌, arith, rules}
use Rattle.mcs_explore_questions.specs.Forms.{fit_of, take_numbers}
use Rattle.mcs_explore_questions.specs.Reading.{has_words}
use Rattle.mcs_explore_questions.specs.There.{scene_of}
use Rattle.mcs_explore_questions.proofs.Counting.{numbers_turn, numbers_refused, numbers_full, numbers_ended, numbers_none}
use Rattle.mcs_explore_questions.proofs.Handing.{handed_on}
use Rattle.mcs_explore_questions.proofs.forms.take_numbers.Goals as goal
use Rattle.mcs_explore_questions.proofs.forms.take_numbers.Goals.{then-numbers-test+then-not-pattern+else-has_more, then-numbers-test+else-not-pattern, else-numbers-test}

pub returns-in_err-take-clause-error : goal.returns-in_err-take-clause-error
returns-in_err-take-clause-error c =
    let at = c.numbers in
    let some : 0 < at.room = omega (arith, c.numbers-test.true) in
    let unended : at.pattern.ended ≡ false = search rules in
    let more : has_words at.words ≡ true = sym c.has_more.ensures ∙ c.if-has_more.true in
    handed_on _ _ _ c.from_residual.ensures.1 (λ m. at.invariant
    ∙ numbers_refused (scene_of c.args.there) at.room (fit_of at.pattern at.words) at.words some unended more (c.in_err-take.ensures.error m))

pub numbers-preserved : goal.numbers-preserved
numbers-preserved c =
    let at = c.numbers in
    let some : 0 < at.room = omega (arith, c.numbers-test.true) in
    let unended : at.pattern.ended ≡ false = search rules in
    let more : has_words at.words ≡ true = sym c.has_more.ensures ∙ c.if-has_more.true in
    at.invariant
    ∙ numbers_turn (scene_of c.args.there) at.room (fit_of at.pattern at.words) (fit_of c.take.new.pattern c.take.new.words) at.words some unended refl more c.in_ok-take.ensures.said

pub returns-clause-said : goal.returns-clause-said
returns-clause-said c =
    let at = c.numbers in
    elim c.numbers-test.branch [
      | then-numbers-test+then-not-pattern+else-has_more w ↦ at.invariant ∙ numbers_none (scene_of c.args.there) at.room (fit_of at.pattern at.words) at.words (sym w.has_more.ensures ∙ w.if-has_more.false)
      | then-numbers-test+else-not-pattern w ↦ let ended : at.pattern.ended ≡ true = search (rules, w.if-not-pattern.false) in at.invariant ∙ numbers_ended (scene_of c.args.there) at.room (fit_of at.pattern at.words) at.words ended
      | else-numbers-test w ↦ let full : at.room ≡ 0 = omega (arith, w.numbers-test.false) in at.invariant ∙ numbers_full (scene_of c.args.there) at.room (fit_of at.pattern at.words) at.words full
    ]
