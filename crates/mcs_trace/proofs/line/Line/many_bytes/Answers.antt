use Rattle.std.proofs.Common.{◌≡◌, ◌+◌, ◌-◌, ◌++◌, length, take, ap, ◌∙◌, arith, length-append}
use Rattle.std.proofs.lemmas.List.{take_all}
use Rattle.mcs_trace.specs.declared.line.TheConstants.{PART}
use Rattle.mcs_trace.proofs.Parts.{part-after}
use Rattle.mcs_trace.proofs.line.Line.many_bytes.Goals as goal

pub loop-at-preserved : goal.loop-at-preserved
loop-at-preserved c =
    let l = c.loop-at in
    let front = c.self.inside.end in
    record {
      copied = part-after c.self.inside.bytes l.self-inside.bytes c.part.new.buffer c.args.bytes.now front l.at l.at PART _
          (omega arith) (omega arith) l.invariant.copied c.part.ensures (omega arith);
      long = omega arith;
      within = omega arith;
    }

pub returns : goal.returns
returns c =
    let l = c.loop-at in
    let front = c.self.inside.end in
    let text = c.args.bytes.now in
    let stored : take (front + length text) c.part-2.new.buffer ≡ take front c.self.inside.bytes ++ take (length text) text =
    part-after c.self.inside.bytes l.self-inside.bytes c.part-2.new.buffer text front l.at (length text - PART) PART (length text)
    (omega arith) (omega arith) l.invariant.copied c.part-2.ensures (omega arith) in
    let added : take (front + length text) c.part-2.new.buffer ≡ c.args.self.now ++ text =
    stored ∙ ap (λ x. x ++ take (length text) text) c.self.view_is ∙ ap (λ x. c.args.self.now ++ x) (take_all (length text) text (omega arith)) in
    (added, omega (arith, ap length added, length-append c.args.self.now text))
