use Rattle.std.specs.Prelude.{[], map}
use Rattle.std.proofs.Common.{ap, refl, ◌∙◌}
use Rattle.std.proofs.lemmas.Option.{slice_get_read}
use Rattle.mcs_types.specs.declared.entry.Entry.{Entry}
use Rattle.mcs_turns.specs.Turns.{User}
use Rattle.mcs_explore_report.proofs.Telling.{user-more}
use Rattle.mcs_explore_report.proofs.answers.Answers.new.Goals as goal

pub loop-user-preserved : goal.loop-user-preserved
loop-user-preserved c =
    let lists = c.lists-lists.result.now in
    let i = c.loop-user.user-index in
    let u = c.user-item.result in
    let at = slice_get_read lists _ i u refl c.loop-user-test.true c.user-item.is in
    let entries = c.deref.ensures.value ∙ ap (λ (x : User). x.entries) c.user.view_is in
    user-more lists i u c.loop-user.tables.items c.push.new.self.items c.in_ok-new.field-0 at (c.in_ok-new.ensures ∙ ap (λ es. map (λ (e : Entry). []) es) entries) c.loop-user.invariant c.in_ok-push.ensures.items
