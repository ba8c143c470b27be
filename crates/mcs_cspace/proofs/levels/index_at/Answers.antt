use Rattle.std.proofs.Common.{arith}
use Rattle.mcs_cspace.proofs.MaskLaws.{low-masked}
use Rattle.mcs_cspace.proofs.levels.index_at.Goals as goal

pub returns-clause-value : goal.returns-clause-value
returns-clause-value c = low-masked _ c.args.width (omega (arith, c.requires.few))
