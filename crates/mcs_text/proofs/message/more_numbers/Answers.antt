use Rattle.std.proofs.Common.{Bool, Ok, rules, sym, ap, ◌∙◌}
use Rattle.mcs_text.specs.Reading.{kept_after, some_if}
use Rattle.mcs_text.proofs.WordLaws.{kept-fault, kept-more, kept-end, number_at-shorter}
use Rattle.mcs_text.proofs.message.more_numbers.Goals as goal

pub loop-words-preserved : goal.loop-words-preserved
loop-words-preserved c =
    let more = kept-more (some_if c.loop-words.fits c.loop-words.kept.words.items) c.loop-words.words c.next_number.new.words c.in_ok-n.n c.in_ok-n.ensures in
    record { value = ap (λ k. kept_after k c.next_number.new.words) (sym c.add-fits.ensures.value) ∙ sym more ∙ c.loop-words.invariant.value; grows = c.add-fits.ensures.again }

pub loop-words-smaller : goal.loop-words-smaller
loop-words-smaller c = number_at-shorter c.loop-words.words c.next_number.new.words c.in_ok-n.n c.in_ok-n.ensures

pub returns-in_err-n : goal.returns-in_err-n
returns-in_err-n c =
    let fault = kept-fault (some_if c.loop-words.fits c.loop-words.kept.words.items) c.loop-words.words _ (c.has_more.ensures.more c.loop-words-test.true) c.in_err-n.ensures in
    let whole = sym c.loop-words.invariant.value ∙ fault in
    search (rules, whole)

pub returns-then-fits : goal.returns-then-fits
returns-then-fits c =
    let none = c.has_more.ensures.none c.loop-words-test.false in
    sym c.loop-words.invariant.value ∙ kept-end _ _ none ∙ ap (λ (b : Bool). Ok (some_if b c.loop-words.kept.words.items)) c.if-fits.true

pub returns : goal.returns
returns c =
    let none = c.has_more.ensures.none c.loop-words-test.false in
    sym c.loop-words.invariant.value ∙ kept-end _ _ none ∙ ap (λ (b : Bool). Ok (some_if b c.loop-words.kept.words.items)) c.if-fits.false
