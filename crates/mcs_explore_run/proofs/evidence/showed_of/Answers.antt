use Rattle.mcs_explore_run.proofs.evidence.showed_of.Goals as goal

pub returns : goal.returns
returns c = λ fails.
    let by = c.showed_by.ensures fails in
    record { verdict = c.in_ok-verdict.verdict; is = c.in_ok-verdict.ensures; fails = by.0; seen = by.1 }
