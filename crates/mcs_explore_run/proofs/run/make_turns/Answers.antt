use Rattle.std.proofs.Common.{◌≡◌, ◌∙◌, true, false, arith, refl, rules, subst, sym}
use Rattle.mcs_turns.specs.Turns.{IsOver, IsRun}
use Rattle.mcs_explore_run.proofs.Lengths.{run-next}
use Rattle.mcs_explore_run.proofs.run.make_turns.Goals as goal

pub loop-turns-init : goal.loop-turns-init
loop-turns-init g c = record { run = c.in_ok-walk.ensures; aim = refl; sees = λ seen. seen }

pub loop-turns-preserved : goal.loop-turns-preserved
loop-turns-preserved g c =
    let script = c.args.script.now in
    let made : c.in_ok-is_made.is_made ≡ true = search rules in
    let kept = c.loop-turns.invariant in
    record {
      run = run-next script.users script.boot c.loop-turns.turns c.loop-turns.walk c.step.new.walk kept.run (c.in_ok-is_made.ensures.made made);
      aim = c.in_ok-is_made.ensures.aim ∙ kept.aim;
      sees = λ seen. c.in_ok-is_made.ensures.sees script.boot c.loop-turns.turns kept.run (kept.sees seen);
    }

pub returns-then-not-is_made-clause-run : goal.returns-then-not-is_made-clause-run
returns-then-not-is_made-clause-run g c =
    let script = c.args.script.now in
    let made : c.in_ok-is_made.is_made ≡ false = search rules in
    let over = c.in_ok-is_made.ensures.over made in
    let low = c.loop-turns-test.true in
    record {
      run = subst (λ x. IsRun script.users script.boot c.loop-turns.turns x) (sym over.0) c.loop-turns.invariant.run;
      few = omega (arith, low);
      over = λ is. subst (λ x. IsOver script.users x) (sym over.0) over.1;
      all = λ is. absurd cc;
    }

pub returns-then-not-is_made-clause-aim : goal.returns-then-not-is_made-clause-aim
returns-then-not-is_made-clause-aim g c = c.in_ok-is_made.ensures.aim ∙ c.loop-turns.invariant.aim

pub returns-then-not-is_made-clause-sees : goal.returns-then-not-is_made-clause-sees
returns-then-not-is_made-clause-sees g c = λ seen. c.in_ok-is_made.ensures.sees c.args.script.now.boot c.loop-turns.turns c.loop-turns.invariant.run (c.loop-turns.invariant.sees seen)

pub returns-clause-run : goal.returns-clause-run
returns-clause-run g c =
    let script = c.args.script.now in
    let past = c.loop-turns-test.false in
    let within = c.loop-turns.auto.turns-end in
    let all : c.loop-turns.turns ≡ c.args.most = omega (arith, past, within) in
    record {
      run = subst (λ n. IsRun script.users script.boot n c.loop-turns.walk) all c.loop-turns.invariant.run;
      few = omega arith;
      over = λ is. absurd cc;
      all = λ is. refl;
    }

pub returns-clause-aim : goal.returns-clause-aim
returns-clause-aim g c = c.in_ok-show_state.ensures.aim ∙ c.loop-turns.invariant.aim

pub returns-clause-sees : goal.returns-clause-sees
returns-clause-sees g c = λ seen. c.in_ok-show_state.ensures.sees c.args.script.now.boot c.loop-turns.turns c.loop-turns.invariant.run (c.loop-turns.invariant.sees seen)
