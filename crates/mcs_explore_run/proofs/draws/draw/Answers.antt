use Rattle.std.specs.Prelude.{◌≤◌, length, slice_index_or}
use Rattle.std.proofs.Common.{arith}
use Rattle.mcs_explore_walk.specs.declared.walk.Turn.{Turn}
use Rattle.mcs_explore_walk.proofs.Turning.{none-first, none-over, or-at}
use Rattle.mcs_explore_run.proofs.DrawLaws.{drawn-next, over-none}
use Rattle.mcs_explore_run.proofs.draws.draw.Goals as goal

pub loop-index-init : goal.loop-index-init
loop-index-init g c = record {
  some = tt;
  none = none-first c.args.users.now c.args.walk.now c.args.turns.now;
}

pub loop-index-preserved : goal.loop-index-preserved
loop-index-preserved g c =
    let turns = c.args.turns.now in
    let n = c.loop-index.index in
    let none : Turn = record { core = record { 0 = 0 }; pick = record { user = 0; number = 0 } } in
    drawn-next c.args.users.now c.args.walk.now turns n (slice_index_or turns n none) (or-at turns n none c.loop-index-test.true) c.loop-index.drawn _ c.loop-index.invariant _ c.has_turn-is_possible.ensures.yes c.has_turn-is_possible.ensures.no
    c.redrawn-drawn.ensures.same c.redrawn-drawn.ensures.one

pub returns-clause-some : goal.returns-clause-some
returns-clause-some g c = c.loop-index.invariant.some

pub returns-clause-none : goal.returns-clause-none
returns-clause-none g c =
    let long : length c.args.turns.now ≤ c.loop-index.index = let done = c.loop-index-test.false in omega (arith, done) in
    over-none c.loop-index.drawn (λ below. none-over c.args.users.now c.args.walk.now c.args.turns.now c.loop-index.index c.requires.turns long below) c.loop-index.invariant.none
