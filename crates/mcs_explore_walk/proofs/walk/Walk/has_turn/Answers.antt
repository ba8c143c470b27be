use Rattle.std.proofs.Common.{sym, ◌∙◌}
use Rattle.mcs_explore_walk.proofs.Turning.{none-turn, some-turn}
use Rattle.mcs_explore_walk.proofs.walk.Walk.has_turn.Goals as goal

pub returns-clause-yes : goal.returns-clause-yes
returns-clause-yes g c = λ yes.
    some-turn c.args.users.now c.args.self.now c.args.picks.now c.args.turn (λ e. e.0.now) (λ e. e.1.now) c.entrant.result c.requires c.entrant.ensures.some (sym c.is_some.ensures ∙ yes)

pub returns-clause-no : goal.returns-clause-no
returns-clause-no g c = λ no. none-turn c.args.users.now c.args.self.now c.args.turn c.entrant.result c.entrant.ensures.none (sym c.is_some.ensures ∙ no)
