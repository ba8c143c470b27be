use Rattle.std.proofs.Common.{◌≡◌, Some, true, false, arith}
use Rattle.std.specs.Prelude.{bytes_eq, slice_get}
use Rattle.mcs_text.specs.Table.{record_text}
use Rattle.mcs_lab_check.proofs.Finding.{found-here, found-later, sends-one}
use Rattle.mcs_lab_check.proofs.judge.found_from.Goals as goal

pub returns-then-is_it-clause-found : goal.returns-then-is_it-clause-found
returns-then-is_it-clause-found c =
    let i = c.loop-i.i in
    let at : slice_get c.args.line.now.records i ≡ Some c.in-Some.fact = cc in
    let same : bytes_eq (record_text c.loop-i.count c.in-Some.fact) c.args.text.now ≡ true = grind arith in
    let here = found-here i c.loop-i.count i c.args.line.now.records c.in-Some.fact c.args.text.now at same in
    cc (here, c.loop-i.invariant.rest, c.with_sent-count.ensures)

pub loop-i-preserved : goal.loop-i-preserved
loop-i-preserved c =
    let i = c.loop-i.i in
    let at : slice_get c.args.line.now.records i ≡ Some c.in-Some.fact = cc in
    let other : bytes_eq (record_text c.loop-i.count c.in-Some.fact) c.args.text.now ≡ false = grind arith in
    let later = found-later i c.loop-i.count i c.args.line.now.records c.in-Some.fact c.args.text.now at other in
    record {
      same = cc;
      few = omega (arith, c.loop-i.invariant.few, c.with_sent-count.ensures, sends-one c.loop-i.count c.in-Some.fact);
      rest = cc (later, c.loop-i.invariant.rest, c.with_sent-count.ensures);
    }
