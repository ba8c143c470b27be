use Rattle.std.proofs.Common.{sym, ◌∷◌, ◌++◌, [], subst}
use Rattle.mcs_explore_rows.specs.Naming.{Names}
use Rattle.mcs_explore_rows.proofs.Naming.{names-more}
use Rattle.mcs_explore_rows.proofs.interner.RowInterner.put.Goals as goal

pub returns-in-Ok-clause-named : goal.returns-in-Ok-clause-named
returns-in-Ok-clause-named c = λ rows named. subst (λ ns. Names c.number.new.self ns (rows ++ (c.args.row.items ∷ []))) (sym c.in-Ok.ensures.items) (names-more c.args.self.now c.number.new.self c.args.numbers.now.items c.in_ok-number.number c.args.row.items c.number.ensures.kept c.in_ok-number.ensures.number rows named)
