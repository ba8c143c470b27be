use Rattle.std.proofs.Common.{◌+◌, ◌/◌, ◌%◌, ◌∙◌, ap, take, arith}
use Rattle.mcs_trace.proofs.Digits.{shifted}
use Rattle.mcs_trace.proofs.numbers.last_digits.Goals as goal

pub returns : goal.returns
returns c =
    let high = c.args.high in
    let low = c.args.low in
    ap (take c.args.count) c.to_le_bytes.ensures
    ∙ shifted (48 + high / 10) (48 + high % 10) (48 + low / 10) (48 + low % 10) c.args.count
    (omega (arith, c.requires.high)) (omega arith) (omega (arith, c.requires.low)) (omega arith) c.requires.some c.requires.few c.from_le_bytes-digits.result
    (omega (arith, c.from_le_bytes-digits.ensures, c.tens.ensures, c.ones.ensures, c.tens-2.ensures, c.ones-2.ensures))
