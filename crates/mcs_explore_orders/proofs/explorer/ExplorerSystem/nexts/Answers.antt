use Rattle.std.specs.Prelude.{List}
use Rattle.std.proofs.Common.{ap, subst, sym, ◌∙◌}
use Rattle.mcs_explore_walk.specs.declared.walk.Turn.{Turn}
use Rattle.mcs_explore_walk.specs.Walks.{HasEachTurn}
use Rattle.mcs_turns.specs.Turns.{beginning}
use Rattle.mcs_explore_search.specs.Paths.{Path}
use Rattle.mcs_explore_orders.specs.Exploring.{Exploring}
use Rattle.mcs_explore_orders.specs.Trails.{Leads}
use Rattle.mcs_explore_orders.specs.Shown.{HasCounted, IsShownState}
use Rattle.mcs_explore_orders.specs.Watching.{counting}
use Rattle.mcs_explore_orders.proofs.Nexts.{all-nexts}
use Rattle.mcs_explore_orders.proofs.Telling.{seen-nexts}
use Rattle.mcs_explore_orders.proofs.explorer.ExplorerSystem.nexts.Goals as goal

pub report-requires-clause-turns : goal.report-requires-clause-turns
report-requires-clause-turns g c =
    let users = c.self.inside.users.now in
    subst (λ w. HasEachTurn users w c.deref-6.result.now) (c.deref-2.ensures ∙ sym c.deref-4.ensures)
    (subst (λ (ts : List Turn). HasEachTurn users c.deref-2.result.now ts) (sym c.deref-6.ensures.value) c.in_ok-turns.ensures.all)

pub returns-clause-seen : goal.returns-clause-seen
returns-clause-seen g c =
    let users = c.self.inside.users.now in
    let boot = c.self.inside.boot.now in
    let walk = c.in_ok-walk.walk.value in
    let turns = c.deref-7.result.now in
    let reported = c.report.new.self in
    let now = c.nexts_by.new.self in
    let end = subst (λ s. Path (Leads users) s c.args.path.now walk) c.self.invariant.0 c.in_ok-walk.ensures.walk in
    let same_users = ap (λ (e : Exploring). e.users) c.in_ok-report.ensures.search in
    let same_boot = ap (λ (e : Exploring). e.boot) c.in_ok-report.ensures.search in
    let later = c.in_ok-nexts.ensures.later in
    let each = subst (λ us. HasEachTurn us walk turns) (sym same_users) (subst (λ w. HasEachTurn users w turns) c.deref-2.ensures (subst (λ (ts : List Turn). HasEachTurn users c.deref-2.result.now ts) (sym c.deref-7.ensures.value) c.in_ok-turns.ensures.all)) in
    let state = subst (λ w. IsShownState (HasCounted g.W.Watch.HasSeen) (record { watch = c.self.inside.watch; turns = c.self.inside.turns; ends = c.self.inside.ends }) (counting reported) users c.args.place w) c.deref-4.ensures c.in_ok-report.ensures.reported in
    rw (← c.self.view_is) (seen-nexts (HasCounted g.W.Watch.HasSeen) (record { watch = c.self.inside.watch; turns = c.self.inside.turns; ends = c.self.inside.ends }) (counting reported) (counting now) users boot c.args.path.now reported.search now.search c.args.place walk turns
    end same_users (later.search.users ∙ same_users) (later.search.boot ∙ same_boot) each state c.in_ok-nexts.ensures.reported)

pub returns-clause-nexts : goal.returns-clause-nexts
returns-clause-nexts g c =
    let users = c.self.inside.users.now in
    let walk = c.in_ok-walk.walk.value in
    let turns = c.deref-7.result.now in
    let reported = c.report.new.self in
    let end = subst (λ s. Path (Leads users) s c.args.path.now walk) c.self.invariant.0 c.in_ok-walk.ensures.walk in
    let same_users = ap (λ (e : Exploring). e.users) c.in_ok-report.ensures.search in
    let each = subst (λ us. HasEachTurn us walk turns) (sym same_users) (subst (λ w. HasEachTurn users w turns) c.deref-2.ensures (subst (λ (ts : List Turn). HasEachTurn users c.deref-2.result.now ts) (sym c.deref-7.ensures.value) c.in_ok-turns.ensures.all)) in
    rw (← c.self.view_is) (all-nexts users (beginning users c.self.inside.boot.now) c.args.path.now reported.search c.nexts_by.new.self.search walk turns c.in_ok-nexts.nexts.items
    end same_users c.in_ok-nexts.ensures.later.search each c.in_ok-nexts.ensures.nexts)
