use Rattle.std.proofs.Common.{length}
use Rattle.mcs_test_examples.proofs.scripts.feed.Given as goal

abbrev pub decreases-loop-rest : goal.decreases-loop-rest
decreases-loop-rest l = length l.rest
