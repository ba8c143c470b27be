use Rattle.std.proofs.Common.{◌/◌, arith}
use Rattle.mcs_trace.proofs.Digits.{decimal_eight}
use Rattle.mcs_trace.proofs.Lines.{text-then}
use Rattle.mcs_trace.proofs.numbers.put_huge.Goals as goal

pub returns-then-n-lt10000000000000000-clause-text : goal.returns-then-n-lt10000000000000000-clause-text
returns-then-n-lt10000000000000000-clause-text c =
    rw (decimal_eight c.args.n c.requires.large (omega arith))
    (text-then _ _ _ _ _ c.put_middle-at.ensures.text c.put_eight.ensures.text)

pub returns-clause-text : goal.returns-clause-text
returns-clause-text c =
    rw (decimal_eight c.args.n c.requires.large (omega arith), decimal_eight (c.args.n / 100000000) (omega (arith, c.if-n-lt10000000000000000.false)) (omega arith))
    (text-then _ _ _ _ _ (text-then _ _ _ _ _ c.put_short-at.ensures.text c.put_eight-at.ensures.text) c.put_eight-2.ensures.text)
