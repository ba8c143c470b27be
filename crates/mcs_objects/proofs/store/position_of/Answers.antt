use Rattle.std.proofs.Common.{sym, ◌∙◌}
use Rattle.mcs_objects.proofs.RowLaws.{position-is, position-past}
use Rattle.mcs_objects.proofs.SearchLaws.{found-at}
use Rattle.mcs_objects.proofs.store.position_of.Goals as goal

pub returns-then-rows-first : goal.returns-then-rows-first
returns-then-rows-first c = sym (position-is c.args.serial _ c.args.rows.now (found-at c.args.serial _ c.args.rows.now c.requires c.if-first-rows.true c.if-rows-first.true)).0

pub returns-in-Some : goal.returns-in-Some
returns-in-Some c = sym (position-is c.args.serial c.in-Some.at c.args.rows.now (sym c.in-Some.is ∙ c.search_row.ensures)).0

pub returns-in-None : goal.returns-in-None
returns-in-None c = sym (position-past c.args.serial c.args.rows.now (sym c.in-None.is ∙ c.search_row.ensures))
