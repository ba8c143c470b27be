use Rattle.std.proofs.Common.{Option, Ok, Err, refl, ap, sym, subst, ◌∙◌}
use Rattle.std.specs.Prelude.{option_to_list}
use Rattle.mcs_book.specs.History.{Book}
use Rattle.mcs_types.specs.declared.entry.Step.{Step}
use Rattle.mcs_phases.specs.Feeds.{ComesOf, after_boot_line}
use Rattle.mcs_phases.specs.Phases.{opened_to}
use Rattle.mcs_phases.proofs.PhaseLaws.{after-open, comes-err}
use Rattle.mcs_phases.proofs.phase.open.Goals as goal

pub returns-in-Ok-None-clause-takes : goal.returns-in-Ok-None-clause-takes
returns-in-Ok-None-clause-takes c =
    after-open c.args.opening.now c.args.number c.args.line.now c.requires
    ∙ ap after_boot_line (c.in-Ok-None.ensures.reads ∙ ap (λ (o : Option Step). Ok (record { boot = c.read_opening.new.opening.boot; items = option_to_list o })) c.in-Ok-None.field-0-is)

pub returns-in-Ok-Some-clause-takes : goal.returns-in-Ok-Some-clause-takes
returns-in-Ok-Some-clause-takes c =
    let now = after-open c.args.opening.now c.args.number c.args.line.now c.requires in
    let said = now ∙ ap after_boot_line (c.in-Ok-Some.ensures.reads ∙ ap (λ (o : Option Step). Ok (record { boot = c.read_opening.new.opening.boot; items = option_to_list o })) c.in-Ok-Some.field-0-is) in
    subst (ComesOf _ _) (sym said) c.end_opening.ensures.takes

pub returns-in-Err-clause-takes : goal.returns-in-Err-clause-takes
returns-in-Err-clause-takes c =
    let now = after-open c.args.opening.now c.args.number c.args.line.now c.requires in
    subst (ComesOf {X = Option Book} (λ run. opened_to c.read_opening.new.opening.boot run) (Err c.in-Err.fault)) (sym now)
    (comes-err {X = Option Step} {V = Option Book} (λ o. record { boot = c.read_opening.new.opening.boot; items = option_to_list o }) (λ run. opened_to c.read_opening.new.opening.boot run) c.in-Err.fault _ after_boot_line (λ e. refl) c.in-Err.ensures.reads)
