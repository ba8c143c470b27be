use Rattle.mcs_types.specs.declared.id.ObjId.{ObjId}
use Rattle.mcs_book.specs.Logs.{Log}
use Rattle.std.proofs.Common.{ℕ, List, ◌≡◌, ◌+◌, ap, arith, ◌∙◌, ◌++◌}
use Rattle.mcs_book.specs.History.{log_of}
use Rattle.mcs_explore_rows.specs.Numbers.{cap_numbers, option_numbers}
use Rattle.mcs_explore_rows.specs.Rows.{slots_numbers}
use Rattle.mcs_explore_rows.proofs.Naming.{slots-first, slots-next}
use Rattle.mcs_explore_rows.proofs.exact.put_slots.Goals as goal

pub loop-index-preserved : goal.loop-index-preserved
loop-index-preserved g c =
    slots-next c.args.row.now.items c.loop-index.row.items c.put_any_cap.new.row.items (log_of c.args.kernel.now) c.args.cnode c.loop-index.index
    (c.in_ok-put_any_cap.ensures ∙ ap (λ o. c.loop-index.row.items ++ option_numbers cap_numbers o) c.capability.ensures) c.loop-index.invariant

pub loop-index-init : goal.loop-index-init
loop-index-init g c = slots-first c.args.row.now.items (log_of c.args.kernel.now) c.args.cnode

-- src/exact.rt:118:1
pub returns-in_ok-put_any_cap : goal.returns-in_ok-put_any_cap
returns-in_ok-put_any_cap g c =
    up-to c.args.row.now.items c.put_any_cap.new.row.items (log_of c.args.kernel.now) c.args.cnode c.loop-index.index c.args.last
    (omega (arith, c.loop-index-test.true, c.loop-index.auto.index-end))
    (slots-next c.args.row.now.items c.loop-index.row.items c.put_any_cap.new.row.items (log_of c.args.kernel.now) c.args.cnode c.loop-index.index
    (c.in_ok-put_any_cap.ensures ∙ ap (λ o. c.loop-index.row.items ++ option_numbers cap_numbers o) c.capability.ensures) c.loop-index.invariant)
  where
    up-to : (before after : List ℕ) (R : Log) (o : ObjId) (n last : ℕ) → n ≡ last → after ≡ before ++ slots_numbers R o (n + 1) → after ≡ before ++ slots_numbers R o (last + 1)
    up-to before after R o n last e h = h ∙ ap (λ m. before ++ slots_numbers R o (m + 1)) e
