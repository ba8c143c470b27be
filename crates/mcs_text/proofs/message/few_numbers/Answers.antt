use Rattle.std.proofs.Common.{Some, [], ◌∷◌, ap, sym, ◌∙◌}
use Rattle.mcs_text.specs.Reading.{kept_after}
use Rattle.mcs_text.proofs.WordLaws.{kept-more}
use Rattle.mcs_text.proofs.message.few_numbers.Goals as goal

pub returns-in_default-take_number-clause-value : goal.returns-in_default-take_number-clause-value
returns-in_default-take_number-clause-value c =
    let one = kept-more (Some []) c.args.words.now c.take_number.new.self (Some c.in-Some.first) c.in-Some.ensures.some in
    ap (kept_after (Some (c.in-Some.first ∷ []))) c.in_default-take_number.ensures.none ∙ sym one

pub returns-in_default-take_number-2-clause-value : goal.returns-in_default-take_number-2-clause-value
returns-in_default-take_number-2-clause-value c =
    let one = kept-more (Some []) c.args.words.now c.take_number.new.self (Some c.in-Some.first) c.in-Some.ensures.some in
    let two = kept-more (Some (c.in-Some.first ∷ [])) c.take_number.new.self c.take_number-2.new.self (Some c.in-Some-take_number.second) c.in-Some-take_number.ensures.some in
    ap (kept_after (Some (c.in-Some.first ∷ c.in-Some-take_number.second ∷ []))) c.in_default-take_number-2.ensures.none ∙ sym (one ∙ two)

pub returns-in_default-take_number-3-clause-value : goal.returns-in_default-take_number-3-clause-value
returns-in_default-take_number-3-clause-value c =
    let one = kept-more (Some []) c.args.words.now c.take_number.new.self (Some c.in-Some.first) c.in-Some.ensures.some in
    let two = kept-more (Some (c.in-Some.first ∷ [])) c.take_number.new.self c.take_number-2.new.self (Some c.in-Some-take_number.second) c.in-Some-take_number.ensures.some in
    let three = kept-more (Some (c.in-Some.first ∷ c.in-Some-take_number.second ∷ [])) c.take_number-2.new.self c.take_number-3.new.self (Some c.in-Some-take_number-2.third) c.in-Some-take_number-2.ensures.some in
    ap (kept_after (Some (c.in-Some.first ∷ c.in-Some-take_number.second ∷ c.in-Some-take_number-2.third ∷ []))) c.in_default-take_number-3.ensures.none ∙ sym (one ∙ two ∙ three)

pub returns-clause-value : goal.returns-clause-value
returns-clause-value c =
    let one = kept-more (Some []) c.args.words.now c.take_number.new.self (Some c.in-Some.first) c.in-Some.ensures.some in
    let two = kept-more (Some (c.in-Some.first ∷ [])) c.take_number.new.self c.take_number-2.new.self (Some c.in-Some-take_number.second) c.in-Some-take_number.ensures.some in
    let three = kept-more (Some (c.in-Some.first ∷ c.in-Some-take_number.second ∷ [])) c.take_number-2.new.self c.take_number-3.new.self (Some c.in-Some-take_number-2.third) c.in-Some-take_number-2.ensures.some in
    let four = kept-more (Some (c.in-Some.first ∷ c.in-Some-take_number.second ∷ c.in-Some-take_number-2.third ∷ [])) c.take_number-3.new.self c.take_number-4.new.self (Some c.in-Some-take_number-3.fourth) c.in-Some-take_number-3.ensures.some in
    sym (one ∙ two ∙ three ∙ four)
