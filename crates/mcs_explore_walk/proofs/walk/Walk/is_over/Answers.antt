use Rattle.std.specs.Prelude.{◌≤◌, length, slice_index_or}
use Rattle.std.proofs.Common.{arith}
use Rattle.mcs_explore_walk.specs.declared.walk.Turn.{Turn}
use Rattle.mcs_explore_walk.proofs.Turning.{none-first, none-next, none-over, or-at}
use Rattle.mcs_explore_walk.proofs.walk.Walk.is_over.Goals as goal

pub loop-index-init : goal.loop-index-init
loop-index-init g c = none-first c.args.users.now c.args.self.now c.args.turns.now

pub loop-index-preserved : goal.loop-index-preserved
loop-index-preserved g c =
    let turns = c.args.turns.now in
    let n = c.loop-index.index in
    let none : Turn = record { core = record { 0 = 0 }; pick = record { user = 0; number = 0 } } in
    none-next c.args.users.now c.args.self.now turns n (slice_index_or turns n none) (or-at turns n none c.loop-index-test.true) (c.has_turn.ensures.no c.if-has_turn.false) c.loop-index.invariant

pub returns-clause-over : goal.returns-clause-over
returns-clause-over g c = λ over.
    let long : length c.args.turns.now ≤ c.loop-index.index = let done = c.loop-index-test.false in omega (arith, done) in
    none-over c.args.users.now c.args.self.now c.args.turns.now c.loop-index.index c.requires.turns long c.loop-index.invariant

pub returns-then-has_turn-clause-goes_on : goal.returns-then-has_turn-clause-goes_on
returns-then-has_turn-clause-goes_on g c = λ no.
    let turn = c.has_turn.ensures.yes c.if-has_turn.true in
    (turn.0, record { core = _; pick = _; turn = turn.1 })
