use Rattle.std.proofs.Common.{◌∙◌, sym}
use Rattle.mcs_explore_report.proofs.Telling.{reached-on}
use Rattle.mcs_explore_report.proofs.mail.reached_by.Goals as goal

pub loop-i-preserved : goal.loop-i-preserved
loop-i-preserved c =
    reached-on c.loop-i.got c.in_ok-got.got c.loop-i.i c.args.line.now.records c.in-Some.fact c.loop-i.all.items c.push.new.all.items _ c.in_ok-reaching.field-0
    (sym c.in_ok-fact.ensures ∙ c.in-Some.is) c.in_ok-got.ensures c.in_ok-reaching.ensures c.in_ok-push.ensures c.loop-i.invariant
