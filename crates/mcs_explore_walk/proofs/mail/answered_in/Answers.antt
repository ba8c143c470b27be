use Rattle.std.proofs.Common.{◌≡◌, ◌+◌, ◌<◌, ◌≤◌, None, drop, length, ap, arith, sym, ◌∙◌}
use Rattle.std.specs.Prelude.{slice_get}
use Rattle.std.proofs.lemmas.List.{drop_all}
use Rattle.std.proofs.lemmas.Option.{slice_get-get_or}
use Rattle.mcs_types.specs.declared.record.Rec.TheVariants as rec
use Rattle.mcs_turns.specs.declared.position.Position.{Position}
use Rattle.mcs_turns.specs.Mail.{reaching}
use Rattle.mcs_turns.specs.Turns.{User}
use Rattle.mcs_explore_walk.specs.Mail.{answered_by, answered_from}
use Rattle.mcs_explore_walk.proofs.Telling.{answered-on, answered_one_by_one}
use Rattle.mcs_explore_walk.proofs.mail.answered_in.Goals as goal

pub loop-i-preserved : goal.loop-i-preserved
loop-i-preserved c =
    let rs = c.args.line.now.records in
    let left = drop (c.loop-i.i + 1) rs in
    let u : User = c.args.user.now in
    c.loop-i.invariant
    ∙ answered-on rs c.loop-i.i c.in-Some.fact c.loop-i.got u c.loop-i.now (sym c.kept_record.ensures ∙ c.in-Some.is)
    ∙ ap (λ g. answered_from left g u (answered_by u (reaching g c.in-Some.fact) c.loop-i.now)) (sym c.got_with-got.ensures)
    ∙ ap (λ o. answered_from left c.got_with-got.result u (answered_by u o c.loop-i.now)) (sym c.reaching.ensures)
    ∙ ap (λ (q : Position). answered_from left c.got_with-got.result u q) (sym c.answered_by-now.ensures)

pub unreachable-requires : goal.unreachable-requires
unreachable-requires c =
    let rs = c.args.line.now.records in
    let low : c.loop-i.i < length rs = omega (arith, c.loop-i-test.true, c.record_count-i-end.ensures) in
    let some = slice_get-get_or rs c.loop-i.i (rec.Dropped 0) low in
    let none : slice_get rs c.loop-i.i ≡ None = sym c.kept_record.ensures ∙ c.in_default.is in
    absurd cc

pub returns : goal.returns
returns c =
    let rs = c.args.line.now.records in
    let u : User = c.args.user.now in
    let all : length rs ≤ c.loop-i.i = omega (arith, c.loop-i-test.false, c.record_count-i-end.ensures) in
    sym (ap (λ xs. answered_from xs c.loop-i.got u c.loop-i.now) (drop_all c.loop-i.i rs all)) ∙ sym c.loop-i.invariant ∙ answered_one_by_one rs None u c.args.place
