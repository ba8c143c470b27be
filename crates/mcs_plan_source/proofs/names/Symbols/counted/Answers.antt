use Rattle.std.proofs.Common.{◌<◌, sym, ◌∙◌, length, arith}
use Rattle.mcs_plan_source.proofs.Entries.{counted_yes, counted_no}
use Rattle.mcs_plan_source.proofs.names.Symbols.counted.Goals.{then-is_of_kind, else-is_of_kind}
use Rattle.mcs_plan_source.proofs.names.Symbols.counted.Goals as goal

pub loop-index-preserved : goal.loop-index-preserved
loop-index-preserved c =
    let within : c.loop-index.index < length c.args.self.now = omega (arith, c.loop-index-test.true, c.len-index-end.ensures) in
    elim c.if-is_of_kind.branch [
      | then-is_of_kind w ↦
          let one = counted_yes c.args.kind c.args.self.now c.loop-index.index within (sym c.is_of_kind.ensures ∙ w.if-is_of_kind.true) in
          (omega (arith, w.count-is, c.loop-index.invariant.0, one), omega (arith, w.count-is, c.loop-index.invariant.1))
      | else-is_of_kind w ↦
          let none = counted_no c.args.kind c.args.self.now c.loop-index.index within (sym c.is_of_kind.ensures ∙ w.if-is_of_kind.false) in
          (omega (arith, w.count-is, c.loop-index.invariant.0, none), omega (arith, w.count-is, c.loop-index.invariant.1))
    ]
