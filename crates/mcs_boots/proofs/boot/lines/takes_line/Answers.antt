use Rattle.std.proofs.Common.{ap, ◌∙◌}
use Rattle.mcs_book.specs.History.{Book}
use Rattle.mcs_boots.proofs.Booting.{boots}
use Rattle.mcs_boots.proofs.boot.lines.takes_line.Goals as goal

pub takes_records-requires-clause-booting : goal.takes_records-requires-clause-booting
takes_records-requires-clause-booting g c =
    boots c.reserve_boot_line.new.self (c.in_ok-reserve_boot_line.ensures.hand ∙ c.in_ok-reserve.ensures.hand ∙ c.requires.hand) (ap (λ (b : Book). b.lines) (c.in_ok-reserve_boot_line.ensures.book ∙ c.in_ok-reserve.ensures.book) ∙ c.requires.boot)
