use Rattle.std.proofs.Common.{rules}
use Rattle.std.proofs.lemmas.List.Edits.{map_over_more}
use Rattle.mcs_seats.specs.Trails.{past_line}
use Rattle.mcs_seats.proofs.retrace.pass_all.Goals as goal

pub loop-follower-preserved : goal.loop-follower-preserved
loop-follower-preserved g c =
    rw (c.pass_line.ensures, ← c.follower-item.is)
    (map_over_more past_line c.deref_mut-follower-items.result.now c.loop-follower.follower-items c.loop-follower.follower-index
    c.follower-item.result (search rules) c.loop-follower.invariant c.follower-item.is)
