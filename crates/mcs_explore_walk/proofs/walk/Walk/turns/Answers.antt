use Rattle.std.proofs.Common.{◌≡◌, ap, sym, subst, ◌∙◌, List}
use Rattle.std.proofs.lemmas.Result.{IfOk-weaker}
use Rattle.mcs_book.specs.History.{Book, IsLegal}
use Rattle.mcs_explore_walk.specs.declared.walk.Turn.{Turn}
use Rattle.mcs_explore_walk.specs.Walks.{ArePicked, HasEachTurn, turns_below}
use Rattle.mcs_explore_walk.proofs.Turning.{each-below, from-below}
use Rattle.mcs_explore_walk.proofs.walk.Walk.turns.Goals as goal

pub returns-clause-all : goal.returns-clause-all
returns-clause-all g c =
    let all : c.cores-cores.result ≡ c.args.self.now.book.boot.cores = c.cores-cores.ensures ∙ ap (λ (b : Book). b.boot.cores) (c.book.ensures.lent ∙ c.kernel.ensures) in
    let legal : IsLegal c.args.self.now.book = subst (λ (b : Book). IsLegal b) c.kernel.ensures c.book.ensures.legal in
    IfOk-weaker c.turns_below.result _ _ (λ v is.
    subst (λ (ts : List Turn). HasEachTurn c.args.users.now c.args.self.now ts) (sym (is ∙ ap (λ n. turns_below c.args.self.now c.args.picks.now n) all))
    (each-below c.args.users.now c.args.self.now c.args.picks.now legal c.requires)) c.turns_below.ensures

pub returns-clause-picked : goal.returns-clause-picked
returns-clause-picked g c =
    IfOk-weaker c.turns_below.result _ _ (λ v is.
    subst (λ (ts : List Turn). ArePicked c.args.self.now c.args.picks.now ts) (sym is) (from-below c.args.self.now c.args.picks.now c.cores-cores.result)) c.turns_below.ensures
