use Rattle.std.proofs.Common.{length}
use Rattle.mcs_plan_source.specs.Saying.{said}
use Rattle.mcs_plan_source.specs.Lines.{slots_more}
use Rattle.mcs_plan_source.proofs.Turns.{SlotsLeft}
use Rattle.mcs_plan_source.proofs.plan.Plan.read_slots.Given as goal

abbrev pub invariant-loop : goal.invariant-loop
invariant-loop l = SlotsLeft l.counter l.end l.place l.words (said l.self) (slots_more (length l.fn.words) l.place l.fn.words (said l.fn.self))
