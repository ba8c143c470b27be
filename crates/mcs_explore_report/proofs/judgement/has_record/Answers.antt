use Rattle.std.proofs.Common.{◌≡◌, ◌∙◌, sym, Some, true, false, arith}
use Rattle.std.specs.Prelude.{slice_get}
use Rattle.mcs_text.specs.Table.{record_text}
use Rattle.mcs_lab_check.proofs.Finding.{sends-one}
use Rattle.mcs_explore_report.specs.Judging.{is_line}
use Rattle.mcs_explore_report.proofs.Failing.{line-here, line-later}
use Rattle.mcs_explore_report.proofs.judgement.has_record.Goals as goal

pub returns-then-is_line : goal.returns-then-is_line
returns-then-is_line c =
    let at : slice_get c.args.line.now.records c.loop-i.i ≡ Some c.in-Some.fact = cc in
    let same : is_line c.args.pattern.now (record_text c.loop-i.sent c.in-Some.fact) ≡ true = cc in
    sym (c.loop-i.invariant.rest ∙ line-here (is_line c.args.pattern.now) c.loop-i.sent c.loop-i.i c.args.line.now.records c.in-Some.fact at same)

pub loop-i-preserved : goal.loop-i-preserved
loop-i-preserved c =
    let at : slice_get c.args.line.now.records c.loop-i.i ≡ Some c.in-Some.fact = cc in
    let other : is_line c.args.pattern.now (record_text c.loop-i.sent c.in-Some.fact) ≡ false = cc in
    let later = line-later (is_line c.args.pattern.now) c.loop-i.sent _ c.loop-i.i c.args.line.now.records c.in-Some.fact at other c.with_sent-sent.ensures in
    record {
      few = omega (arith, c.loop-i.invariant.few, c.with_sent-sent.ensures, sends-one c.loop-i.sent c.in-Some.fact);
      rest = c.loop-i.invariant.rest ∙ later;
    }
