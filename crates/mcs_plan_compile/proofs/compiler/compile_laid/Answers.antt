use Rattle.std.proofs.lemmas.Result.{IfErr-weaker}
use Rattle.mcs_plan_layout.specs.Laid.{laid_said}
use Rattle.mcs_plan_compile.proofs.Said.{no_boot, boot_refused}
use Rattle.mcs_plan_compile.proofs.compiler.compile_laid.Goals as goal

pub returns-clause-error : goal.returns-clause-error
returns-clause-error c =
    IfErr-weaker c.at.result _ _
    (λ fault h. no_boot (laid_said c.args.laid) c.args.lines.now c.read_after.new.compiler.entries fault c.in_ok-read_after.ensures.taken h.0
    (boot_refused c.finish.result fault.why c.args.laid c.read_after.new.compiler.laid c.read_after.ensures.laid c.finish.ensures.error h.1))
    c.at.ensures.err
