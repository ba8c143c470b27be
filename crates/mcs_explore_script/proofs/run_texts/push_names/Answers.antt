use Rattle.std.proofs.Common.{ℕ, ◌++◌, Option, ap, ◌∙◌}
use Rattle.mcs_lab_check.specs.Naming.{Naming}
use Rattle.mcs_explore_script.specs.RunTexts.{given_text}
use Rattle.mcs_explore_script.proofs.RunTexts.{names-next}
use Rattle.mcs_explore_script.proofs.run_texts.push_names.Goals as goal

pub loop-number-preserved : goal.loop-number-preserved
loop-number-preserved c =
    names-next c.args.names.now c.loop-number.number c.args.text.now.items c.loop-number.text.items c.push_given.new.text.items (c.in_ok-push_given.ensures ∙ ap (λ (o : Option Naming). c.loop-number.text.items ++ given_text o) c.given.ensures)
    c.loop-number.invariant
