use Rattle.mcs_explore_run.proofs.report.tell_runs.Goals as goal

pub returns : goal.returns
returns g c = λ is. record { script = c.in_ok-script.script; is = c.in_ok-script.ensures; fails = c.in_ok-fails.ensures is }
