use Rattle.mcs_sim.proofs.RunLaws.{IfErr-same}
use Rattle.mcs_sim.proofs.RunningLaws.{RunEnds-reading, RunEnds-machine, IfErr-run_writes}
use Rattle.mcs_sim.proofs.run.run_text.Goals as goal

pub returns-in_err-boot-clause-err : goal.returns-in_err-boot-clause-err
returns-in_err-boot-clause-err g c = IfErr-same _ _ _ c.from_residual.ensures.1 (RunEnds-reading _ _ _ _ _ c.in_err-boot.ensures.err)

pub returns-in_err-settled-clause-err : goal.returns-in_err-settled-clause-err
returns-in_err-settled-clause-err g c =
    IfErr-same _ _ _ c.from_residual-in_err-settled.ensures.1
    (RunEnds-machine _ _ _ _ _ _ _ c.in_err-settled.ensures.fault c.in_ok-boot.ensures.ok)

pub returns-clause-err : goal.returns-clause-err
returns-clause-err g c =
    IfErr-run_writes _ _ _ _ _ _ _ _ _ _ c.in_ok-boot.ensures.ok c.in_ok-settled.ensures.settled c.book.ensures c.trace.ensures.err c.trace.ensures.fault
