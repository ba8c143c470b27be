use Rattle.std.specs.Prelude.{◌≡◌, [], length}
use Rattle.std.proofs.Common.{subst, sym}
use Rattle.mcs_explore_orders.specs.Shown.{HasCounted, Tells}
use Rattle.mcs_explore_orders.specs.Watching.{Watching, counting}
use Rattle.mcs_explore_orders.proofs.Nexts.{no-turns}
use Rattle.mcs_explore_orders.proofs.Telling.{nothing-reported}
use Rattle.mcs_explore_orders.proofs.explorer.Explorer.nexts_by.Goals as goal

pub returns-in_default-clause-reported : goal.returns-in_default-clause-reported
returns-in_default-clause-reported g c =
    let users = c.args.self.now.search.users in
    let walk = c.args.walk.value in
    let none : length c.args.turns.now ≡ 0 = c.in_default.ensures.cases in
    subst (λ ts. Tells (HasCounted g.W.Watch.HasSeen) (counting c.args.self.now) (counting c.let_go.new.self) users c.args.place walk ts) (sym (no-turns c.args.turns.now none))
    (subst (λ (e : Watching _). Tells (HasCounted g.W.Watch.HasSeen) (counting c.args.self.now) (counting e) users c.args.place walk []) (sym c.let_go.ensures)
    (nothing-reported (HasCounted g.W.Watch.HasSeen) (counting c.args.self.now) users c.args.place walk))
