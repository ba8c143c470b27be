use Rattle.std.proofs.Common.{◌≡◌, ◌∙◌, ℕ, List, [], false, length, ap, arith, sym, subst}
use Rattle.std.specs.List.{list_any}
use Rattle.mcs_explore_script.specs.Programs.{is_program_line}
use Rattle.mcs_explore_script.proofs.ProgramLines.{both-ok, none-first, none-left}
use Rattle.mcs_explore_script.proofs.Texts.{lines-few}
use Rattle.mcs_explore_script.proofs.programs.read_programs.Goals as goal

pub loop-line-init : goal.loop-line-init
loop-line-init c = record {
  none = λ h. (c.new-all.ensures.items, subst (λ (ls : List (List ℕ)). list_any is_program_line ls ≡ false) (sym c.new-lines.ensures) h);
  few = let few = lines-few c.args.text.now in let same = ap (λ (ls : List (List ℕ)). length ls) c.new-lines.ensures in omega (arith, few, same);
}

pub loop-line-preserved : goal.loop-line-preserved
loop-line-preserved c =
    let lines = c.in-Some.ensures.some in
    let count = ap (λ (ls : List (List ℕ)). length ls) lines in
    record {
      none = λ h.
          let before = c.loop-line.invariant.none h in
          let split = none-first c.in-Some.line.now c.next_line.new.self (subst (λ (ls : List (List ℕ)). list_any is_program_line ls ≡ false) lines before.1) in
          (c.in_ok-add_line.ensures split.0 ∙ before.0, split.1);
      few = omega (arith, c.loop-line.invariant.few, count);
    }

pub returns : goal.returns
returns c = both-ok c.ended.result _ _ _ (λ programs count each. record {
  none = λ h. none-left programs.items (count ∙ ap length (c.loop-line.invariant.none h).0);
  each = each;
}) c.ended.ensures.count c.ended.ensures.each
