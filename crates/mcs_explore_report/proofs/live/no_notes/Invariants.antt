use Rattle.std.specs.Prelude.{◌≡◌, [], replicate}
use Rattle.mcs_explore_report.proofs.live.no_notes.Given as goal

abbrev pub invariant-loop-number : goal.invariant-loop-number
invariant-loop-number l = l.notes.items ≡ replicate l.number (record { settled = []; answered = [] })
