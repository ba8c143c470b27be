use Rattle.std.proofs.Common.{rules}
use Rattle.mcs_replies.proofs.tops.Tops.new.Goals as goal

pub returns-clause-homes : goal.returns-clause-homes
returns-clause-homes c = c.in_ok-from_elem.ensures.items_if_clones_equal (λ y h. search rules)
