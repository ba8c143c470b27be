use Rattle.std.proofs.Common.{◌≡◌, ◌+◌, ◌≤◌, drop}
use Rattle.mcs_lab_check.specs.Verdicts.{found_from}
use Rattle.mcs_lab_check.proofs.judge.found_from.Given as goal

abbrev pub invariant-loop-i : goal.invariant-loop-i
invariant-loop-i l = record {
  same : l.seen ≡ l.fn.seen;
  few : l.count + l.next ≤ l.sent + l.i;
  rest : found_from l.next l.sent (drop l.next l.line.records) l.text ≡ found_from l.i l.count (drop l.i l.line.records) l.text;
}
