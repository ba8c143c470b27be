use Rattle.std.proofs.Common.{◌≡◌, ◌+◌, Some, sym, subst, ap, ◌∙◌}
use Rattle.mcs_types.specs.declared.entry.Step.{Step}
use Rattle.mcs_book.specs.History.{Book, Line, line_of_number}
use Rattle.mcs_kernel.specs.Faults.{entered}
use Rattle.mcs_seats.specs.Trails.{StandsAt, Place}
use Rattle.mcs_seats.proofs.Cutting.{IsAgain, stands-again}
use Rattle.mcs_seats.proofs.retrace.Retrace.make_line.Goals as goal

pub invariant_of-self : goal.invariant_of-self
invariant_of-self g c =
    let b : Book = c.self.inside.book.now.book in
    let r : Book = c.self.inside.replay in
    let at = c.self.inside.at in
    let l : Line = c.requires.line in
    let line : line_of_number b at ≡ Some l =
    subst (λ (p : Place). line_of_number p.book p.at ≡ Some l) (sym c.self.view_is) c.requires.is in
    let made : IsAgain b r at l = stands-again b r at l c.self.invariant.0 c.self.invariant.1 line in
    let is = c.in-Ok.ensures.line ∙ ap (λ (s : Step). entered r s) c.requires.step in
    (c.self.invariant.0, subst (λ (x : Book). StandsAt b x (at + 1)) (sym is) made.stands)
