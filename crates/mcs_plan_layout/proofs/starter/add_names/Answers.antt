use Rattle.std.proofs.Common.{◌∙◌}
use Rattle.mcs_plan_source.proofs.Refusing.{handed_on}
use Rattle.mcs_plan_layout.specs.Starting.{names_started}
use Rattle.mcs_plan_layout.proofs.Started.{after_two, no_two}
use Rattle.mcs_plan_layout.proofs.starter.add_names.Goals as goal

pub returns-in_err-context-clause-error : goal.returns-in_err-context-clause-error
returns-in_err-context-clause-error c =
    handed_on _ _ (names_started c.args.names.now) c.from_residual-in_err-context.ensures.1
    (λ e error. no_two c.args.names.now c.add_name.new.names e c.in_ok-thread.ensures.added (c.in_err-context.ensures.error e error))

pub returns-in_err-add_name-clause-error : goal.returns-in_err-add_name-clause-error
returns-in_err-add_name-clause-error c =
    handed_on _ _ (names_started c.args.names.now) c.from_residual-in_err-add_name.ensures.1
    (λ e error. after_two c.args.names.now c.add_name.new.names c.add_name-2.new.names c.in_ok-thread.ensures.added c.in_ok-context.ensures.added ∙ c.in_err-add_name.ensures.error e error)

pub returns-clause-added : goal.returns-clause-added
returns-clause-added c =
    after_two c.args.names.now c.add_name.new.names c.add_name-2.new.names c.in_ok-thread.ensures.added c.in_ok-context.ensures.added ∙ c.in_ok-add_name.ensures.added
