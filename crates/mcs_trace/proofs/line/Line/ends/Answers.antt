use Rattle.std.proofs.Common.{◌≡◌, ◌+◌, ◌-◌, ◌++◌, length, take, ap, ◌∙◌, arith, length-append}
use Rattle.std.proofs.lemmas.List.{take_all}
use Rattle.mcs_trace.proofs.Parts.{part-after}
use Rattle.mcs_trace.proofs.line.Line.ends.Goals as goal

pub returns : goal.returns
returns g c =
    let front = c.self.inside.end in
    let text = c.args.bytes.now in
    let stored : take (front + length text) c.part-2.new.buffer ≡ take front c.self.inside.bytes ++ take (length text) text =
    part-after c.self.inside.bytes c.part.new.buffer c.part-2.new.buffer text front g.row.N (length text - g.row.N) g.row.N (length text)
    (omega arith) (omega (arith, c.requires.most)) c.part.ensures c.part-2.ensures (omega (arith, c.requires.least)) in
    let added : take (front + length text) c.part-2.new.buffer ≡ c.args.self.now ++ text =
    stored ∙ ap (λ x. x ++ take (length text) text) c.self.view_is ∙ ap (λ x. c.args.self.now ++ x) (take_all (length text) text (omega arith)) in
    (added, omega (arith, ap length added, length-append c.args.self.now text))
