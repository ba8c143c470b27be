use Rattle.std.proofs.Common.{List, subst}
use Rattle.mcs_explore_report.specs.declared.ends.Standing.{Standing}
use Rattle.mcs_explore_report.specs.Ends.{IsNoted}
use Rattle.mcs_explore_report.proofs.ends.Ends.note.Goals as goal

pub returns : goal.returns
returns c = subst (λ (ss : List Standing). IsNoted ss c.args.place c.args.self.now c.merge.new.self) c.in_ok-standings.ensures c.in_ok-merge.ensures
