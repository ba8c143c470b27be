use Rattle.std.proofs.Common.{length}
use Rattle.mcs_plan_source.specs.ThreadLines.{parts_then, form_of}
use Rattle.mcs_plan_source.proofs.Turns.{PartsLeft}
use Rattle.mcs_plan_source.proofs.plan.Plan.read_parts.Given as goal

abbrev pub invariant-loop : goal.invariant-loop
invariant-loop l =
    PartsLeft l.counter l.end l.self.cores l.words (form_of l.form) (parts_then (length l.fn.words) l.self.cores l.fn.words (form_of l.fn.form))
