use Rattle.mcs_c.proofs.Explored.{refused-explored}
use Rattle.mcs_c.proofs.exploration.explore_text.Goals as goal

pub returns-in-Err : goal.returns-in-Err
returns-in-Err g c = refused-explored c.args.script.now c.in-Err.fault c.refuse.result (λ h. h.ending) c.refuse.ensures.ends c.refuse.ensures.granted
