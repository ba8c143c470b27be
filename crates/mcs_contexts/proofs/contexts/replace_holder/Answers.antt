use Rattle.std.proofs.Common.{◌≡◌, Some, ap, refl, sym, ◌∙◌}
use Rattle.std.specs.Option.{option_copied_mut}
use Rattle.mcs_objects.specs.Store.{value_at}
use Rattle.mcs_objects.proofs.MapLaws.{shape-written}
use Rattle.mcs_contexts.proofs.HoldingLaws.{holder_written, core_written, home_same}
use Rattle.mcs_contexts.proofs.contexts.replace_holder.Goals as goal

pub returns-clause-shape : goal.returns-clause-shape
returns-clause-shape c = shape-written c.args.rows.now c.args.context _

pub returns-clause-cores : goal.returns-clause-cores
returns-clause-cores c = λ x.
    let was : value_at c.args.rows.now c.args.context ≡ Some c.in-Some.row.now = sym c.get_mut.ensures.value ∙ ap option_copied_mut c.in-Some.is in
    core_written c.args.rows.now c.args.context x c.in-Some.row.now _ was refl

pub returns-clause-holders : goal.returns-clause-holders
returns-clause-holders c = λ x.
    let was : value_at c.args.rows.now c.args.context ≡ Some c.in-Some.row.now = sym c.get_mut.ensures.value ∙ ap option_copied_mut c.in-Some.is in
    rw (← c.replace.ensures.after) (holder_written c.args.rows.now c.args.context x _ (rw was refl))

pub returns-clause-homes : goal.returns-clause-homes
returns-clause-homes c = λ x.
    let was : value_at c.args.rows.now c.args.context ≡ Some c.in-Some.row.now = sym c.get_mut.ensures.value ∙ ap option_copied_mut c.in-Some.is in
    home_same c.args.rows.now c.args.context x c.in-Some.row.now _ was refl

pub returns-clause-before : goal.returns-clause-before
returns-clause-before c =
    let was : value_at c.args.rows.now c.args.context ≡ Some c.in-Some.row.now = sym c.get_mut.ensures.value ∙ ap option_copied_mut c.in-Some.is in
    rw was c.replace.ensures.value
