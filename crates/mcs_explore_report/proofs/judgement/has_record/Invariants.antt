use Rattle.std.proofs.Common.{◌≡◌, ◌+◌, ◌≤◌, drop}
use Rattle.std.specs.List.{list_any}
use Rattle.mcs_explore_report.specs.Judging.{is_line, record_lines}
use Rattle.mcs_explore_report.proofs.judgement.has_record.Given as goal

abbrev pub invariant-loop-i : goal.invariant-loop-i
invariant-loop-i l = record {
  few : l.sent ≤ l.before + l.i;
  rest : list_any (is_line l.pattern) (record_lines l.before l.line.records) ≡ list_any (is_line l.pattern) (record_lines l.sent (drop l.i l.line.records));
}
