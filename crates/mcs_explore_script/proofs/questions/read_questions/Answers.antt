use Rattle.std.proofs.Common.{ℕ, List, length, ap, arith, rules}
use Rattle.mcs_explore_script.proofs.Texts.{lines-few}
use Rattle.mcs_explore_script.proofs.questions.read_questions.Goals as goal

pub loop-line-init : goal.loop-line-init
loop-line-init c = record {
  said = search rules;
  few = let few = lines-few c.args.text.now in let same = ap (λ (ls : List (List ℕ)). length ls) c.new-lines.ensures in omega (arith, few, same);
}
