use Rattle.std.proofs.Common.{◌+◌, ◌∷◌, [], ◌∙◌, length, List, drop, sym, ap, subst, arith}
use Rattle.std.proofs.lemmas.List.{drop_more}
use Rattle.mcs_types.specs.declared.entry.Step.{Step}
use Rattle.mcs_kernel.specs.Runs.{Run, is_book_full, full_after, EndsAt, StepEnds}
use Rattle.mcs_kernel.specs.Faults.{fault_of}
use Rattle.mcs_kernel.proofs.Stepping.{book-begun, counts-on, full-later, ends-at-next}
use Rattle.mcs_kernel.proofs.step_list.replay.Goals as goal

pub loop-step-init : goal.loop-step-init
loop-step-init g c =
    let e = c.in-Ok.ensures in (
      ap (λ (r : Run). r.taken) e,
      book-begun c.args.boot c.in-Ok.run'.book c.args.steps.now (ap (λ (r : Run). r.book) e),
      ap (λ (r : Run). full_after r.taken r.book c.args.steps.now) e,
    )

pub returns-in-Err-advance-clause-full : goal.returns-in-Err-advance-clause-full
returns-in-Err-advance-clause-full g c =
    let i = c.loop-step.invariant in
    let count = length c.args.steps.now in
    let s : Step = c.step-item.result in
    let rest : List Step = drop (c.loop-step.step-index + 1) c.args.steps.now in
    let next = drop_more c.args.steps.now c.loop-step.step-index s c.loop-step-test.true ∙ ap (λ x. x ∷ rest) (sym c.step-item.is) in
    let number = counts-on c.loop-step.run.taken (omega (arith, i.0, c.loop-step-test.true, c.loop-step.auto.step-index-end)) in
    let ends = subst (λ n. StepEnds n (is_book_full (fault_of c.loop-step.run.book s.core s.thread)) c.in-Err-advance.fault) number c.in-Err-advance.ensures.full in
    let at = ends-at-next c.loop-step.run.taken c.loop-step.run.book s rest count c.in-Err-advance.fault ends (omega (arith, i.0, c.loop-step-test.true)) in
    subst (λ o. EndsAt count o c.in-Err-advance.fault) i.2
    (subst (λ ss. EndsAt count (full_after c.loop-step.run.taken c.loop-step.run.book ss) c.in-Err-advance.fault) (sym next) at)

pub returns-in-Err-clause-full : goal.returns-in-Err-clause-full
returns-in-Err-clause-full g c = (omega arith, full-later 0 (record { boot = c.args.boot; lines = [] }) c.args.steps.now)
