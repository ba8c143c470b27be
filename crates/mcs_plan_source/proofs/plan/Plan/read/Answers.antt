use Rattle.std.proofs.lemmas.Result.{IfErr-weaker}
use Rattle.mcs_plan_source.specs.Saying.{said}
use Rattle.mcs_plan_source.proofs.Faults.{has_refused, begun_refused}
use Rattle.mcs_plan_source.proofs.KeepingLines.{has_taken, begun_taken}
use Rattle.mcs_plan_source.proofs.Places.{on_ok}
use Rattle.mcs_plan_source.proofs.Whole.{has_taken_whole, begun_taken_whole}
use Rattle.mcs_plan_source.proofs.plan.Plan.read.Goals as goal

pub returns-then-says_has-clause-fault : goal.returns-then-says_has-clause-fault
returns-then-says_has-clause-fault c =
    IfErr-weaker c.read_has.result _ _ (has_refused c.in-Some.first.now c.next-then-says_has.new.self (said c.args.self.now)) c.read_has.ensures.error

pub returns-then-says_has-clause-in_order : goal.returns-then-says_has-clause-in_order
returns-then-says_has-clause-in_order c =
    on_ok c.read_has.result _ _ (has_taken c.in-Some.first.now c.next-then-says_has.new.self (said c.args.self.now) (said c.read_has.new.self)) c.read_has.ensures.added

pub returns-clause-fault : goal.returns-clause-fault
returns-clause-fault c =
    IfErr-weaker c.read_line.result _ _ (begun_refused c.args.line c.in-Some.first.now c.next.new.self (said c.args.self.now)) c.read_line.ensures.error

pub returns-clause-in_order : goal.returns-clause-in_order
returns-clause-in_order c =
    on_ok c.read_line.result _ _ (begun_taken c.args.line c.in-Some.first.now c.next.new.self (said c.args.self.now) (said c.read_line.new.self)) c.read_line.ensures.added

pub returns-then-says_has-clause-whole : goal.returns-then-says_has-clause-whole
returns-then-says_has-clause-whole c =
    on_ok c.read_has.result _ _ (has_taken_whole c.in-Some.first.now c.next-then-says_has.new.self (said c.args.self.now) (said c.read_has.new.self)) c.read_has.ensures.added

pub returns-clause-whole : goal.returns-clause-whole
returns-clause-whole c =
    on_ok c.read_line.result _ _ (begun_taken_whole c.args.line c.in-Some.first.now c.next.new.self (said c.args.self.now) (said c.read_line.new.self)) c.read_line.ensures.added
