use Rattle.std.proofs.Common.{ap, sym, ◌∙◌}
use Rattle.std.specs.Prelude.{Ok}
use Rattle.mcs_types.specs.declared.entry.Refusal.TheVariants.{Missing}
use Rattle.mcs_book.specs.Checks.{needed}
use Rattle.mcs_cspace.proofs.lookups.held.Goals as goal

pub returns-in-None : goal.returns-in-None
unfolding needed
returns-in-None c = ap (λ o. needed o Missing) (sym c.in-None.is ∙ c.slot_in.ensures)

pub returns-in-Some : goal.returns-in-Some
unfolding needed
returns-in-Some c =
    ap Ok c.by_fields.ensures ∙ ap (λ o. needed o Missing) (sym c.in-Some.is ∙ c.slot_in.ensures)
