use Rattle.std.proofs.Common.{sym, ◌∙◌}
use Rattle.mcs_c.specs.Answering.{record_of}
use Rattle.mcs_c.proofs.Answered.{mapped_on}
use Rattle.mcs_c.proofs.answers.records_of.Goals as goal

pub loop-i-preserved : goal.loop-i-preserved
loop-i-preserved c =
    mapped_on record_of c.args.line.now.records c.loop-i.i c.in-Some.fact c.loop-i.records.items c.push.new.records.items c.record_of.result
    (sym c.in_ok-fact.ensures ∙ c.in-Some.is) c.record_of.ensures c.loop-i.invariant c.in_ok-push-in-Some.ensures
