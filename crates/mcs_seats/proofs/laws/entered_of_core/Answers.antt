use Rattle.std.specs.Prelude.{map, reverse}
use Rattle.std.proofs.Common.{ap, ◌∙◌}
use Rattle.mcs_seats.specs.Settling.{notes_of, entered_entry}
use Rattle.mcs_seats.proofs.Entered.{entered-notes, entered-entries}
use Rattle.mcs_seats.proofs.laws.entered_of_core.Goals as goal

pub returns : goal.returns
returns g c =
    let b = g.it.book in
    let s = g.it.seat in
    ap (λ ns. map (entered_entry s.core) ns) (entered-notes b s.core (notes_of b s.core) 1 (reverse s.calls) g.it.agrees)
    ∙ entered-entries b s.core
