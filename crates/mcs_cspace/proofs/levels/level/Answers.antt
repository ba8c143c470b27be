use Rattle.std.proofs.Common.{◌≡◌, ◌≤◌, ◌<◌, sym, ◌∙◌, arith}
use Rattle.std.proofs.lemmas.Grind.{common_steps}
use Rattle.std.proofs.lemmas.Result.{err_from_is_err_and}
use Rattle.mcs_cspace.proofs.LevelLaws.{past-err, past-short, past-long}
use Rattle.mcs_cspace.proofs.levels.level.Goals as goal

pub returns-in_err-after-clause-step : goal.returns-in_err-after-clause-step
returns-in_err-after-clause-step c =
    let p = err_from_is_err_and c.from_residual.result c.from_residual.ensures.1 in
    rw (p.1, p.2) (sym (past-err c.args.guard c.args.radix c.args.left c.args.address c.in_err-after.field-0.0 (sym c.past_guard.ensures.past ∙ c.in_err-after.was)))

pub returns-then-width-after-clause-step : goal.returns-then-width-after-clause-step
returns-then-width-after-clause-step c =
    let short : c.in_ok-after.after < c.args.radix = grind (arith, common_steps) in
    sym (past-short c.args.guard c.args.radix c.args.left c.args.address c.in_ok-after.after (sym c.past_guard.ensures.past ∙ c.in_ok-after.was) short)

pub returns-then-width-eq0-clause-step : goal.returns-then-width-eq0-clause-step
returns-then-width-eq0-clause-step c =
    let long : c.args.radix ≤ c.in_ok-after.after = grind (arith, common_steps) in
    let none : c.args.radix ≡ 0 = grind (arith, common_steps) in
    past-long c.args.guard c.args.radix c.args.left c.args.address c.in_ok-after.after 0 (sym c.past_guard.ensures.past ∙ c.in_ok-after.was) long (rw none (omega arith))

pub returns-else-width-eq0-clause-step : goal.returns-else-width-eq0-clause-step
returns-else-width-eq0-clause-step c =
    let long : c.args.radix ≤ c.in_ok-after.after = grind (arith, common_steps) in
    past-long c.args.guard c.args.radix c.args.left c.args.address c.in_ok-after.after c.index_at-index.result (sym c.past_guard.ensures.past ∙ c.in_ok-after.was) long c.index_at-index.ensures.value
