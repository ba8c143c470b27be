use Rattle.std.proofs.Common.{◌<◌, length, refl, sym, ◌∙◌, arith}
use Rattle.mcs_trace.proofs.Outputs.{Puts-then, Puts-nil, Puts-text}
use Rattle.mcs_sim.proofs.TraceLaws.{none-past, get_or-at, sent_with-le, records_trace-next, sent_after-next}
use Rattle.mcs_sim.proofs.trace_text.put_records.Goals as goal

pub loop-i-preserved : goal.loop-i-preserved
loop-i-preserved g c =
    let rs = c.args.line.now.records in
    let r = c.in-Some.fact in
    let i = c.loop-i.i in
    let before = c.loop-i.invariant in
    let within : i < length rs = omega (arith, c.loop-i-test.true, c.record_count-i-end.ensures) in
    let it = get_or-at rs i r (sym c.kept_record.ensures ∙ c.in-Some.is) in
    record {
      puts = Puts-text _ _ _ _ _ (Puts-then _ _ _ _ _ _ before.puts c.put_read_record.ensures) (records_trace-next c.args.sent rs i r c.loop-i.count within it before.sent);
      sent = c.count_sent-count.ensures ∙ sent_after-next c.args.sent rs i r c.loop-i.count within it before.sent;
      few = omega (arith, before.few, c.count_sent-count.ensures, sent_with-le c.loop-i.count r);
    }

pub loop-i-init : goal.loop-i-init
loop-i-init g c = record { puts = Puts-nil _ _; sent = refl; few = omega arith }

pub unreachable-requires : goal.unreachable-requires
unreachable-requires g c =
    none-past c.args.line.now.records c.loop-i.i (sym c.in-None.is ∙ c.kept_record.ensures) (omega (arith, c.loop-i-test.true, c.record_count-i-end.ensures))
