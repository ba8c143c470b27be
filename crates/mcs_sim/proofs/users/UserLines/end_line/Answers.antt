use Rattle.std.proofs.Common.{[], ◌∷◌}
use Rattle.mcs_sim.proofs.RunLaws.{IfErr-same}
use Rattle.mcs_sim.proofs.UserLaws.{fault-before, ok-append, err-append}
use Rattle.mcs_sim.proofs.users.UserLines.end_line.Goals as goal

pub returns-in_err-keep-clause-err : goal.returns-in_err-keep-clause-err
returns-in_err-keep-clause-err c =
    IfErr-same _ _ _ c.from_residual.ensures.1 (fault-before c.args.self.now c.args.part.now (10 ∷ []) c.in_err-keep.field-0.0 c.in_err-keep.ensures.err)

pub returns-clause-ok : goal.returns-clause-ok
returns-clause-ok c = ok-append _ c.args.self.now c.keep.new.self _ c.args.part.now (10 ∷ []) c.in_ok-keep.ensures.ok c.take_kept.ensures.ok

pub returns-clause-err : goal.returns-clause-err
returns-clause-err c = err-append _ c.args.self.now c.keep.new.self c.args.part.now (10 ∷ []) c.in_ok-keep.ensures.ok c.take_kept.ensures.err
