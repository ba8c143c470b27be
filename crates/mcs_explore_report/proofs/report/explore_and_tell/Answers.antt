use Rattle.mcs_explore_report.proofs.report.explore_and_tell.Goals as goal

pub returns-clause-holds : goal.returns-clause-holds
returns-clause-holds g c = λ is. record { script = c.in_ok-script.script; is = c.in_ok-script.ensures; holds = c.in_ok-explored.ensures.holds is }

pub returns-clause-fails : goal.returns-clause-fails
returns-clause-fails g c = λ is. record { script = c.in_ok-script.script; is = c.in_ok-script.ensures; fails = c.in_ok-explored.ensures.fails is }
