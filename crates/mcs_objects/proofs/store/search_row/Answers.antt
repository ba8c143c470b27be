use Rattle.std.proofs.Common.{rules, ap, sym, ◌∙◌}
use Rattle.std.proofs.lemmas.List.Sorted.{answers_always}
use Rattle.mcs_objects.proofs.SearchLaws.{ok_of, searched}
use Rattle.mcs_objects.proofs.store.search_row.Goals as goal

pub returns-in-Ok : goal.returns-in-Ok
returns-in-Ok c =
    let by_key = c.binary_search_by_key.ensures.position (λ r. r.serial) (answers_always _ _ _ (λ f a r g called. search rules)) in
    ap ok_of (sym c.in-Ok.is) ∙ searched c.args.serial c.args.rows.now c.binary_search_by_key.result c.requires c.binary_search_by_key.ensures.bound by_key

pub returns-in-Err : goal.returns-in-Err
returns-in-Err c =
    let by_key = c.binary_search_by_key.ensures.position (λ r. r.serial) (answers_always _ _ _ (λ f a r g called. search rules)) in
    ap ok_of (sym c.in-Err.is) ∙ searched c.args.serial c.args.rows.now c.binary_search_by_key.result c.requires c.binary_search_by_key.ensures.bound by_key
