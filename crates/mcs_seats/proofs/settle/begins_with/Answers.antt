use Rattle.std.proofs.Common.{◌≡◌, reverse, ap, sym, ◌∙◌}
use Rattle.mcs_book.specs.Boots.{Boot}
use Rattle.mcs_seats.proofs.Cutting.{same-boots}
use Rattle.mcs_seats.proofs.settle.begins_with.Goals as goal

pub returns-then-cores : goal.returns-then-cores
returns-then-cores c =
    let one : Boot = c.args.book.now.book.boot in
    let other : Boot = c.args.boot.now in
    let cores : one.cores ≡ other.cores = sym c.cores.ensures ∙ c.if-cores.true ∙ c.cores-2.ensures in (
      λ t. same-boots one other cores (sym c.boot.ensures ∙ c.are_same_lines.ensures.0 t ∙ c.lines.ensures),
      λ e. c.are_same_lines.ensures.1 (c.boot.ensures ∙ ap (λ (x : Boot). reverse x.lines) e ∙ sym c.lines.ensures),
    )
