use Rattle.std.proofs.Common.{arith}
use Rattle.itoa.proofs.Decimal.{decimal_four}
use Rattle.mcs_trace.proofs.Lines.{text-then}
use Rattle.mcs_trace.proofs.numbers.put_middle.Goals as goal

pub returns-clause-text : goal.returns-clause-text
returns-clause-text c =
    rw (decimal_four c.args.n c.if-n-lt10000.false (omega (arith, c.requires.small)))
    (text-then _ _ _ _ _ c.put_short-at.ensures.text c.put_four.ensures.text)
