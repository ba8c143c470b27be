use Rattle.std.proofs.Common.{Some, None, ap, sym, subst, ◌∙◌}
use Rattle.mcs_phases.specs.Feeds.{ComesOf, after_line}
use Rattle.mcs_phases.specs.Phases.{opened_to, seen}
use Rattle.mcs_phases.specs.declared.phase.Phase.{Phase}
use Rattle.mcs_phases.proofs.PhaseLaws.{after-run, comes-stands}
use Rattle.mcs_phases.proofs.phase.Phase.take_line.Goals as goal

pub returns-in-Running-clause-takes : goal.returns-in-Running-clause-takes
returns-in-Running-clause-takes c =
    let now = ap (λ (p : Phase). after_line (seen p) c.args.number c.args.line.now) c.in-Running.is ∙ after-run _ c.args.number c.args.line.now in
    let comes = rw (← c.at.ensures) at c.take_line.ensures.takes in
    subst (ComesOf {X = Unit {0}} (λ u. opened_to None (Some c.take_line.new.self)) c.at.result) (sym now)
    (comes-stands {X = Unit {0}} None c.at.result c.take_line.new.self _ comes)
