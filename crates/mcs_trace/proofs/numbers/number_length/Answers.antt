use Rattle.mcs_trace.proofs.Digits.{decimal-length}
use Rattle.mcs_trace.proofs.numbers.number_length.Goals as goal

pub returns-then-n-lt10000-clause-value : goal.returns-then-n-lt10000-clause-value
returns-then-n-lt10000-clause-value c =
    let e = c.digit_count.ensures in
    decimal-length c.args.n c.digit_count.result c.if-n-lt10000.true e.one e.two e.three e.four
