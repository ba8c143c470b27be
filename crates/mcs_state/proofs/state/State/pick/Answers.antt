use Rattle.std.proofs.Common.{◌≡◌, ◌∙◌, ap, sym, subst, arith, Some, None, Option, ℕ}
use Rattle.std.proofs.lemmas.Grind.{common_steps}
use Rattle.mcs_book.specs.Logs.{Log}
use Rattle.mcs_book.specs.Picking.{IsPick}
use Rattle.mcs_state.specs.Now.{so_far}
use Rattle.mcs_state.specs.Picking.{thread_at, picked, best_below}
use Rattle.mcs_state.proofs.Picking.{best-next, pick-is}
use Rattle.mcs_state.proofs.state.State.pick.Goals as goal

pub loop-number-preserved : goal.loop-number-preserved
loop-number-preserved g c = (
  grind (arith, common_steps, c.loop-number-test.true),
  best-next (so_far c.args.self.now) c.args.core c.args.passed.now c.loop-number.number c.loop-number.best c.better-best.result c.loop-number.invariant.1 c.better-best.ensures.better,
  c.better-best.ensures.there,
)

pub returns-in-None : goal.returns-in-None
returns-in-None g c =
    let R : Log = so_far c.args.self.now in
    let all : c.loop-number.number ≡ c.thread_count-count.result = grind (arith, common_steps, c.loop-number-test.false, c.loop-number.invariant.0) in
    let found : best_below R c.args.core c.args.passed.now c.thread_count-count.result ≡ None = ap (λ n. best_below R c.args.core c.args.passed.now n) (sym all) ∙ sym c.loop-number.invariant.1 ∙ c.in-None.is in
    subst (λ (o : Option ℕ). IsPick R c.args.core c.args.passed.now (picked o)) found (pick-is R c.args.core c.args.passed.now c.thread_count-count.result c.is_sound.ensures.sound c.thread_count-count.ensures.count)

pub returns-in-Some : goal.returns-in-Some
returns-in-Some g c =
    let R : Log = so_far c.args.self.now in
    let all : c.loop-number.number ≡ c.thread_count-count.result = grind (arith, common_steps, c.loop-number-test.false, c.loop-number.invariant.0) in
    let found : best_below R c.args.core c.args.passed.now c.thread_count-count.result ≡ Some c.in-Some.number = ap (λ n. best_below R c.args.core c.args.passed.now n) (sym all) ∙ sym c.loop-number.invariant.1 ∙ c.in-Some.is in
    let pick : IsPick R c.args.core c.args.passed.now (Some (thread_at c.in-Some.number)) = subst (λ (o : Option ℕ). IsPick R c.args.core c.args.passed.now (picked o)) found (pick-is R c.args.core c.args.passed.now c.thread_count-count.result c.is_sound.ensures.sound c.thread_count-count.ensures.count) in
    subst (λ t. IsPick R c.args.core c.args.passed.now (Some t)) (sym c.thread_id.ensures) pick
