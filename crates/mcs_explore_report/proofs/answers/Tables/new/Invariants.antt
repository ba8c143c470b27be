use Rattle.std.proofs.Common.{◌≡◌, ◌++◌, [], drop, map}
use Rattle.mcs_types.specs.declared.entry.Entry.{Entry}
use Rattle.mcs_explore_report.proofs.answers.Tables.new.Given as goal

abbrev pub invariant-loop-entry : goal.invariant-loop-entry
invariant-loop-entry l = map (λ (e : Entry). []) l.entries ≡ l.tables.items ++ map (λ (e : Entry). []) (drop l.entry-index l.entries)
