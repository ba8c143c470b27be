use Rattle.std.proofs.Common.{sym, ◌∙◌}
use Rattle.mcs_book.proofs.Messages.OpenLaws.{open_of-growing}
use Rattle.mcs_explore_equivalence.proofs.Exactly.{with-numbers}
use Rattle.mcs_explore_equivalence.proofs.logs.numbers_alike.Goals as goal

pub returns : goal.returns
returns g c = with-numbers g.at.0 g.at.1 c.requires.0 (λ x. sym (open_of-growing g.at.0 x c.requires.0.left) ∙ c.requires.1.0 x ∙ open_of-growing g.at.1 x c.requires.0.right) c.requires.1.1
