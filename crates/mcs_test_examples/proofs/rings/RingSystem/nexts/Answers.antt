use Rattle.std.specs.Prelude.{ℕ, Bool, List}
use Rattle.std.proofs.Common.{sym, subst, ◌∙◌, arith}
use Rattle.mcs_explore_search.specs.Search.{AreNexts}
use Rattle.mcs_test_examples.specs.Rings.{StandsAt, Turns}
use Rattle.mcs_test_examples.proofs.Turning.{path-place, pushed, two-turns}
use Rattle.mcs_test_examples.proofs.rings.RingSystem.nexts.Goals as goal

pub returns-clause-nexts : goal.returns-clause-nexts
returns-clause-nexts c = λ s path.
    let n = c.args.self.now.n in
    let at = c.turned_all-at.result in
    let some = c.if-self-eq0.false in
    let items =
    pushed n at c.turned.result c.turned-2.result c.new-nexts.result.items c.push.new.self.items c.push-2.new.self.items
    c.new-nexts.ensures.items c.in_ok-push.ensures.items c.in_ok-push-2.ensures.items c.turned.ensures.place c.turned-2.ensures.place in
    subst (λ (xs : List (Bool × ℕ)). AreNexts (Turns n) StandsAt s xs) (sym items) (two-turns n at s (omega (arith, some)) (path-place n c.args.path.now (0, 0) s path ∙ sym c.turned_all-at.ensures.place))
