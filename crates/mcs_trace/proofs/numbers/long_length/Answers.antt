use Rattle.std.proofs.Common.{length, ap, arith}
use Rattle.std.proofs.lemmas.Fmt.{length-decimal-le}
use Rattle.mcs_trace.proofs.numbers.long_length.Goals as goal

pub returns-clause-few : goal.returns-clause-few
returns-clause-few c =
    omega (arith, ap length c.format.ensures.text, length-decimal-le 20 c.args.n (omega arith) (omega arith) (omega arith))
