use Rattle.std.proofs.Common.{◌≡◌, ◌+◌, length}
use Rattle.mcs_plan_source.specs.Saying.{said}
use Rattle.mcs_plan_source.specs.Lines.{objects_line, objects_more}
use Rattle.mcs_plan_source.proofs.plan.Plan.read_objects.Given as goal

abbrev pub invariant-loop : goal.invariant-loop
invariant-loop l =
    (length l.words + l.counter ≡ l.end) × (objects_more l.kind l.words (said l.self) ≡ objects_line l.kind l.fn.words (said l.fn.self))
