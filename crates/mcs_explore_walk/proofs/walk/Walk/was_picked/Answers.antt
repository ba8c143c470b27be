use Rattle.std.proofs.Common.{ap, sym, ◌∙◌}
use Rattle.std.specs.Prelude.{option_copied}
use Rattle.mcs_explore_walk.proofs.Picking.{among}
use Rattle.mcs_explore_walk.proofs.Turning.{not-stale, none-stale}
use Rattle.mcs_explore_walk.proofs.walk.Walk.was_picked.Goals as goal

pub returns-in-Some-clause-yes : goal.returns-in-Some-clause-yes
returns-in-Some-clause-yes g c = λ h. record {
  picks = c.in-Some.stale.now;
  stale = sym c.stale.ensures ∙ ap (λ o. option_copied o) c.in-Some.is;
  among = among c.args.turn.pick c.in-Some.stale.now (sym c.has.ensures ∙ h);
}

pub returns-in-Some-clause-no : goal.returns-in-Some-clause-no
returns-in-Some-clause-no g c = λ h. not-stale c.args.self.now c.args.turn.core c.args.turn.pick c.in-Some.stale.now
    (sym c.stale.ensures ∙ ap (λ o. option_copied o) c.in-Some.is) (sym c.has.ensures ∙ h)

pub returns-in-None-clause-no : goal.returns-in-None-clause-no
returns-in-None-clause-no g c = λ h. none-stale c.args.self.now c.args.turn.core c.args.turn.pick (sym c.stale.ensures ∙ ap (λ o. option_copied o) c.in-None.is)
