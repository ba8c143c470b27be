use Rattle.std.proofs.Common.{arith}
use Rattle.std.proofs.lemmas.Simd.{take_more_put_chunk, length-chunk}
use lib.Lanes.{chunk}
use Rattle.mcs_trace.proofs.line.Line.part.Goals as goal

pub returns : goal.returns
returns g c =
    let a = c.args in
    let part = chunk a.at g.row.N a.text.now in
    let long = length-chunk a.at g.row.N a.text.now c.requires.within in
    take_more_put_chunk a.front a.buffer.now part _ (omega arith) c.requires.room
