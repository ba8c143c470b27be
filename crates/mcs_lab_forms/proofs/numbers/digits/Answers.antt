use Rattle.std.proofs.Common.{◌≡◌, drop, [], ap, sym, ◌∙◌, arith}
use Rattle.std.proofs.Math.ListN.{drop_of_length-le}
use Rattle.mcs_text.specs.Reading.{value_after, value}
use Rattle.mcs_text.proofs.WordLaws.{value-past, small-is}
use Rattle.mcs_lab_forms.proofs.numbers.digits.Goals as goal

pub returns-in-None : goal.returns-in-None
returns-in-None c = value-past c.loop-digit.n c.args.word.now c.loop-digit.digit-index c.loop-digit-test.true c.loop-digit.invariant.so_far c.in-None.ensures

pub returns : goal.returns
returns c =
    let done : drop c.loop-digit.digit-index c.args.word.now ≡ [] = drop_of_length-le c.args.word.now (omega arith) in
    let whole : c.loop-digit.n ≡ value c.args.word.now = ap (value_after c.loop-digit.n) (sym done) ∙ c.loop-digit.invariant.so_far in
    rw (← whole) (sym (small-is c.loop-digit.n c.loop-digit.invariant.fits))
