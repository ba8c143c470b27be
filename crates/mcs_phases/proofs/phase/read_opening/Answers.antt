use Rattle.std.proofs.Common.{Ok, ℕ, ◌-◌, take, ap, sym, ◌∙◌}
use Rattle.mcs_phases.specs.Script.{Script}
use Rattle.mcs_types.specs.declared.entry.Step.{Step}
use Rattle.mcs_phases.specs.Feeds.{read_at}
use Rattle.mcs_phases.proofs.PhaseLaws.{opened-one, opened-all}
use Rattle.mcs_phases.proofs.phase.read_opening.Goals as goal

pub returns-in-Ok-clause-kept : goal.returns-in-Ok-clause-kept
returns-in-Ok-clause-kept c =
    let said = c.in-Ok.ensures.reads ∙ ap (λ (t : Script Step). Ok t) (sym c.opening.view_is) in
    c.pop.ensures.rest ∙ ap (λ (n : ℕ). take (n - 1) c.opening.inside.items.items) c.opening.inside.items.ok.0 ∙ opened-one c.args.opening.now (record { boot = c.opening.inside.boot; items = c.opening.inside.items.items }) c.args.number c.args.line.now c.requires said

pub returns-in-Ok-clause-reads : goal.returns-in-Ok-clause-reads
returns-in-Ok-clause-reads c =
    let said = c.in-Ok.ensures.reads ∙ ap (λ (t : Script Step). Ok t) (sym c.opening.view_is) in
    let none = c.pop.ensures.rest ∙ ap (λ (n : ℕ). take (n - 1) c.opening.inside.items.items) c.opening.inside.items.ok.0 ∙ opened-one c.args.opening.now (record { boot = c.opening.inside.boot; items = c.opening.inside.items.items }) c.args.number c.args.line.now c.requires said in
    ap (read_at c.args.number) said
    ∙ ap (λ (t : Script Step). Ok t) (sym (opened-all (record { boot = c.opening.inside.boot; items = c.opening.inside.items.items }) c.pop.new.self.items c.pop.result none c.pop.ensures.items))
