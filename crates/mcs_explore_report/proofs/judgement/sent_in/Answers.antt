use Rattle.std.proofs.Common.{◌≡◌, ◌∙◌, Some, arith}
use Rattle.std.specs.Prelude.{slice_get}
use Rattle.mcs_lab_check.proofs.Finding.{sends-one}
use Rattle.mcs_explore_report.proofs.Failing.{sent-later}
use Rattle.mcs_explore_report.proofs.judgement.sent_in.Goals as goal

pub loop-i-preserved : goal.loop-i-preserved
loop-i-preserved c =
    let at : slice_get c.args.line.now.records c.loop-i.i ≡ Some c.in-Some.fact = cc in
    record {
      few = omega (arith, c.loop-i.invariant.few, c.with_sent-sent.ensures, sends-one c.loop-i.sent c.in-Some.fact);
      rest = c.loop-i.invariant.rest ∙ sent-later c.loop-i.sent _ c.loop-i.i c.args.line.now.records c.in-Some.fact at c.with_sent-sent.ensures;
    }
