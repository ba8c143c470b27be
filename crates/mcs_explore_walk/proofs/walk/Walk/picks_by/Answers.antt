use Rattle.std.specs.Prelude.{List, [], ◌∷◌, ◌++◌}
use Rattle.std.proofs.Common.{◌≤◌, ◌+◌, ap, arith, length, subst, sym, ◌∙◌}
use Rattle.mcs_turns.specs.declared.position.Pick.{Pick}
use Rattle.mcs_turns.specs.Turns.{User}
use Rattle.mcs_explore_walk.proofs.Scheduled.{ArePickedBelow, picked-all, picked-less, picked-more, picked-serial}
use Rattle.mcs_explore_walk.proofs.walk.Walk.picks_by.Goals as goal
use Rattle.mcs_explore_walk.proofs.walk.Walk.picks_by.Goals.{in-Some+in_ok-push-2, in_default}

pub returns-then-are_serial : goal.returns-then-are_serial
returns-then-are_serial g c =
    picked-serial c.args.users.now c.args.self.now c.args.core c.are_apart.ensures c.args.best c.requires (sym c.are_serial.ensures ∙ c.if-are_serial.true)
    c.push.new.self (c.in_ok-push.ensures ∙ ap (λ ks. ks ++ c.args.best ∷ []) c.new-picks.ensures)

pub loop-user-preserved : goal.loop-user-preserved
loop-user-preserved g c =
    let users = c.args.users.now in
    let walk = c.args.self.now in
    let core = c.args.core in
    let n = c.loop-user.user in
    let now : List Pick = c.loop-user.picks in
    elim c.match-pick_of.branch [
      | in-Some+in_ok-push-2 w ↦
          subst (λ ks. ArePickedBelow users walk core (n + 1) ks) (sym (w.picks-is ∙ w.in_ok-push-2.ensures))
          (picked-more users walk core n now w.in-Some.pick w.in-Some.ensures.some.0 w.in-Some.ensures.some.1 c.loop-user.invariant)
      | in_default w ↦
          subst (λ ks. ArePickedBelow users walk core (n + 1) ks) (sym w.picks-is) (picked-less users walk core n now w.in_default.ensures.none c.loop-user.invariant)
    ]

pub returns : goal.returns
returns g c =
    let done = c.loop-user-test.false in
    let many = ap (λ (us : List User). length us) c.lists-user-end.ensures in
    let long : length c.args.users.now ≤ c.loop-user.user = omega (arith, done, many) in
    picked-all c.args.users.now c.args.self.now c.args.core c.loop-user.user c.loop-user.picks long c.loop-user.invariant
