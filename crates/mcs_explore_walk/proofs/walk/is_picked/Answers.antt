use Rattle.std.proofs.Common.{ap, sym, ◌∙◌}
use Rattle.std.specs.List.{list_any}
use Rattle.mcs_turns.specs.Due.{is_same, picks_at}
use Rattle.mcs_explore_walk.proofs.Picking.{among}
use Rattle.mcs_explore_walk.proofs.Turning.{not-among}
use Rattle.mcs_explore_walk.proofs.walk.is_picked.Goals as goal

pub returns-clause-yes : goal.returns-clause-yes
returns-clause-yes c = λ yes. among c.args.turn.pick (picks_at c.args.picks.now c.args.turn.core.0)
    (ap (λ ks. list_any (is_same c.args.turn.pick) ks) (sym c.picked.ensures) ∙ sym c.has.ensures ∙ yes)

pub returns-clause-no : goal.returns-clause-no
returns-clause-no c = λ no. not-among c.args.turn.pick (picks_at c.args.picks.now c.args.turn.core.0)
    (ap (λ ks. list_any (is_same c.args.turn.pick) ks) (sym c.picked.ensures) ∙ sym c.has.ensures ∙ no)
