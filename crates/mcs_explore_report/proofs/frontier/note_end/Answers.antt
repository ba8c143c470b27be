use Rattle.std.proofs.Common.{List, refl, subst, sym}
use Rattle.mcs_explore_walk.specs.declared.walk.Turn.{Turn}
use Rattle.mcs_explore_walk.specs.Walks.{HasEachTurn}
use Rattle.mcs_explore_report.specs.Standings.{standings}
use Rattle.mcs_explore_report.proofs.Merging.{noted-runs}
use Rattle.mcs_explore_report.proofs.frontier.note_end.Goals as goal

pub is_over-is_over-requires-clause-turns : goal.is_over-is_over-requires-clause-turns
is_over-is_over-requires-clause-turns c = subst (λ (ts : List Turn). HasEachTurn c.args.script.now.users c.in_ok-walk.walk ts) (sym c.deref-3.ensures.value) c.in_ok-next.ensures.all

pub returns : goal.returns
returns c = λ are.
    let users = c.args.script.now.users in
    let boot = c.args.script.now.boot in
    let walk = c.in_ok-walk.walk in
    let run = c.in_ok-walk.ensures.reached in
    noted-runs users boot c.is_over-is_over.result (standings users walk) c.args.place c.args.ends.now c.note_state.new.self c.in_ok-note_state.ensures
    (λ over. record { turns = run.turns; state = walk; run = run.run; over = c.is_over-is_over.ensures.over over; is = refl }) are
