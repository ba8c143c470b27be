use Rattle.std.proofs.Common.{◌+◌, sym, ◌∙◌, arith}
use Rattle.mcs_book.specs.History.{log_of}
use Rattle.mcs_explore_report.proofs.Slotting.{none-next, none-to}
use Rattle.mcs_explore_report.proofs.slots.slot_in.Goals as goal

pub loop-index-preserved : goal.loop-index-preserved
loop-index-preserved c =
    none-next (log_of c.args.kernel.now) c.args.object c.args.cnode c.loop-index.index (sym c.has_cap.ensures ∙ c.if-has_cap.false) c.loop-index.invariant

pub returns-else-has_cap : goal.returns-else-has_cap
returns-else-has_cap c =
    none-to (log_of c.args.kernel.now) c.args.object c.args.cnode (c.loop-index.index + 1) 256 (omega (arith, c.loop-index-test.true, c.loop-index.auto.index-end))
    (none-next (log_of c.args.kernel.now) c.args.object c.args.cnode c.loop-index.index (sym c.has_cap.ensures ∙ c.if-has_cap.false) c.loop-index.invariant)
