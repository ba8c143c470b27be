use Rattle.std.proofs.Common.{arith}
use Rattle.std.proofs.lemmas.Grind.{common_steps}
use Rattle.mcs_cspace.proofs.MaskLaws.{low-masked}
use Rattle.mcs_cspace.proofs.levels.low_bits.Goals as goal

pub returns-clause-value : goal.returns-clause-value
returns-clause-value c = low-masked c.args.word c.args.count (grind (arith, common_steps))
