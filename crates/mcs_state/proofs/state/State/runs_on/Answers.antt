use Rattle.std.proofs.Common.{◌≡◌, true, false, ap, ◌∙◌}
use Rattle.std.specs.Prelude.{is_some}
use Rattle.mcs_types.specs.declared.id.Kind.{Kind}
use Rattle.mcs_book.specs.Sound.{IsThere}
use Rattle.mcs_state.proofs.ContextLaws.{core-there}
use Rattle.mcs_state.proofs.Following.{seen}
use Rattle.mcs_state.proofs.state.State.runs_on.Goals as goal

pub unreachable-requires : goal.unreachable-requires
unreachable-requires g c =
    let there = seen c.self.view_is (λ R. IsThere R Kind.Context c.args.context) c.requires in
    let no : false ≡ true = ap (λ o. is_some o) (c.in-None.ensures ∙ c.self.invariant.1.contexts.cores c.args.context) ∙ core-there _ c.args.context c.self.invariant.1.sound there in
    absurd cc
