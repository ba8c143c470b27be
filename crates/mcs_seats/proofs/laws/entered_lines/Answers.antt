use Rattle.std.specs.Prelude.{reverse}
use Rattle.mcs_seats.specs.Settling.{notes_of}
use Rattle.mcs_seats.proofs.Entered.{entered-notes}
use Rattle.mcs_seats.proofs.laws.entered_lines.Goals as goal

pub returns : goal.returns
returns g c = let b = g.it.book in let s = g.it.seat in entered-notes b s.core (notes_of b s.core) 1 (reverse s.calls) g.it.agrees
