use Rattle.mcs_explore_orders.proofs.nobody.NobodyWatch.see_turn.Goals as goal

pub returns-clause-sees : goal.returns-clause-sees
returns-clause-sees c = λ shown has. tt
