use Rattle.std.proofs.Common.{◌≡◌, ◌+◌, ◌-◌, suc, Some, ap, sym, ◌∙◌, length, arith, ℕ}
use Rattle.std.specs.Prelude.{slice_get}
use Rattle.mcs_turns.specs.declared.program.Saved.{Saved}
use Rattle.mcs_turns.specs.Programs.{settled, op_next}
use Rattle.mcs_turns.proofs.Settling.{settled-on}
use Rattle.mcs_turns.proofs.program.settle.Goals as goal

pub loop-done-preserved : goal.loop-done-preserved
loop-done-preserved c =
    let ops = c.args.ops.now in
    let last = c.args.last.now in
    let op = c.in-Some.op in
    let kept : Saved = c.loop-done.kept in
    let place = c.loop-done.place in
    let left : ℕ = length ops - (c.loop-done.done + 1) in
    let more : length ops - c.loop-done.done ≡ suc left = omega (arith, c.loop-done-test.true) in
    let at : slice_get ops place ≡ Some op = sym c.op_at.ensures ∙ c.in-Some.is in
    c.loop-done.invariant ∙ settled-on ops last (length ops - c.loop-done.done) left kept place op more at (sym c.given.ensures ∙ c.in_default-given.is)
    ∙ ap (λ s. settled left ops last s (op_next last kept place op)) (sym c.saved-kept.ensures)
    ∙ ap (λ p. settled left ops last c.saved-kept.result p) (sym c.next-next.ensures)
