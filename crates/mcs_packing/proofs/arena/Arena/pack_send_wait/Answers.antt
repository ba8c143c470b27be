use Rattle.std.proofs.Common.{arith}
use Rattle.mcs_packing.proofs.AddressLaws.{GrewHead-of, GrewWords-then}
use Rattle.mcs_packing.proofs.arena.Arena.pack_send_wait.Goals as goal

pub returns-clause-grew : goal.returns-clause-grew
returns-clause-grew c = GrewHead-of 123 _ _ (omega arith) (GrewWords-then 121 2 _ _ _ c.share_plain-at.ensures.grew c.pack_two.ensures.grew)
