use Rattle.std.proofs.Common.{ap, ◌∙◌, ◌++◌, slice_get}
use Rattle.mcs_turns.specs.Due.{choices}
use Rattle.mcs_explore_rows.specs.Numbers.{list_numbers, option_numbers}
use Rattle.mcs_explore_rows.specs.Rows.{choice_list_numbers, pick_numbers}
use Rattle.mcs_explore_rows.proofs.Choosing.{choices-at}
use Rattle.mcs_explore_rows.proofs.exact.choice_row.Goals as goal

pub returns : goal.returns
returns g c =
    let row = c.in_ok-row.row.items in
    c.in_ok-put_any_choices.ensures
    ∙ ap (λ o. row ++ option_numbers (choice_list_numbers c.picked-picks.result.now) o) c.stale.ensures
    ∙ ap (λ p. row ++ option_numbers (choice_list_numbers p) (slice_get c.args.walk.now.stale c.args.core)) c.picked-picks.ensures
    ∙ ap (λ ns. row ++ ns) (choices-at c.args.picks.now c.args.walk.now.stale c.args.core)
    ∙ ap (λ r. r ++ option_numbers (list_numbers pick_numbers) (slice_get (choices c.args.picks.now c.args.walk.now.stale) c.args.core)) c.in_ok-row.ensures.items
