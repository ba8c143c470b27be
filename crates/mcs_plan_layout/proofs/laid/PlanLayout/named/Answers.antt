use Rattle.std.proofs.Common.{Err, option_copied, sym, ap, ◌∙◌}
use Rattle.mcs_plan_source.specs.Saying.{said}
use Rattle.mcs_plan_layout.specs.Unnamed.{unnamed}
use Rattle.mcs_plan_layout.proofs.MoreRows.{row_read, no_row_read}
use Rattle.mcs_plan_layout.proofs.laid.PlanLayout.named.Goals as goal

pub returns-in-Some-clause-read : goal.returns-in-Some-clause-read
returns-in-Some-clause-read c =
    row_read c.args.self.now.tables.items c.args.thread c.args.word.now c.in-Some.named.now (unnamed (said c.args.self.now.plan) c.args.thread c.args.word.now)
    (ap (λ o. option_copied o) (sym c.in-Some.is) ∙ c.find.ensures)

pub returns-in_ok-unnamed-in-None-clause-error : goal.returns-in_ok-unnamed-in-None-clause-error
returns-in_ok-unnamed-in-None-clause-error c = λ e error.
    no_row_read c.args.self.now.tables.items c.args.thread c.args.word.now (unnamed (said c.args.self.now.plan) c.args.thread c.args.word.now)
    (ap (λ o. option_copied o) (sym c.in-None.is) ∙ c.find.ensures)
    ∙ ap (λ f. Err f) (sym (c.in_ok-unnamed-in-None.ensures e error))
