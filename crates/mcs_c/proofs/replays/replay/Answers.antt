use Rattle.std.proofs.Common.{ℕ, List, [], sym, subst, ◌∙◌}
use Rattle.std.proofs.lemmas.Result.{IfOk-weaker}
use Rattle.mcs_sim.proofs.FeedTakes.{empty-is}
use Rattle.mcs_c.specs.Replays.{Tells}
use Rattle.mcs_c.proofs.Replayed.{replayed_empty, replayed_on}
use Rattle.mcs_c.proofs.replays.replay.Goals as goal

pub returns-then-is_empty : goal.returns-then-is_empty
returns-then-is_empty c =
    let none = empty-is c.args.script.now (sym c.is_empty.ensures ∙ c.if-is_empty.true) in
    IfOk-weaker c.tell.result _ _
    (λ t output. replayed_empty c.args.script.now c.in_ok-run.run' c.tell.new.run t.text.items t.ended none c.in_ok-run.ensures
    (subst (λ (l : List ℕ). Tells c.in_ok-run.run' [] c.tell.new.run l t.text.items t.ended) c.new-then-is_empty.ensures.items output))
    c.tell.ensures

pub returns : goal.returns
returns c =
    let some = sym c.is_empty.ensures ∙ c.if-is_empty.false in
    let first = c.in_ok-text.field-0 in
    IfOk-weaker c.tell-3.result _ _
    (λ t output. replayed_on c.args.script.now c.in_ok-run.run' c.tell-2.new.run c.tell-3.new.run first.text.items t.text.items first.ended t.ended some c.in_ok-run.ensures
    (subst (λ (l : List ℕ). Tells c.in_ok-run.run' c.args.script.now c.tell-2.new.run l first.text.items first.ended) c.new-2.ensures.items c.in_ok-text.ensures) output)
    c.tell-3.ensures
