use Rattle.std.proofs.Common.{◌≡◌, ◌∷◌, ◌++◌, [], List, length, sym, ap, ◌∙◌, append_assoc, append-nil, arith, rules}
use Rattle.std.specs.Vec.Iter.{into_iter_items}
use Rattle.mcs_explore_programs.specs.declared.program.Label.{Label}
use Rattle.mcs_explore_script.proofs.ProgramLines.{none-left}
use Rattle.mcs_explore_script.proofs.users.add_labels.Goals as goal

pub loop-label-init : goal.loop-label-init
loop-label-init c =
    let begins = c.into_iter-label-iterator.ensures.into_iter_gives in
    record {
      labels = ap (λ (ls : List Label). c.args.all.now.items ++ ls) begins.0;
      count = search rules;
    }

pub loop-label-preserved : goal.loop-label-preserved
loop-label-preserved c =
    let at = c.loop-label in
    let label = c.in-Some.label in
    let steps : into_iter_items at.label-iterator ≡ label ∷ into_iter_items c.next.new.self = c.in-Some.ensures.steps.0 in
    record {
      labels =
          ap (λ (ls : List Label). ls ++ c.next.new.self.rest.items) c.in_ok-add_label.ensures
          ∙ (append_assoc at.all.items (label ∷ []) c.next.new.self.rest.items
          ∙ (sym (ap (λ (ls : List Label). at.all.items ++ ls) steps) ∙ at.invariant.labels));
      count = let was = at.invariant.count in let gone = c.in-Some.ensures.steps.1 in let short = ap (λ (ls : List Label). length ls) steps in omega (arith, was, gone, short);
    }

pub returns : goal.returns
returns c =
    let at = c.loop-label in
    let none = c.in-None.ensures.steps in
    let empty : into_iter_items at.label-iterator ≡ [] = none-left _ (sym at.invariant.count ∙ none.0) in
    sym (append-nil at.all.items) ∙ (sym (ap (λ (ls : List Label). at.all.items ++ ls) empty) ∙ at.invariant.labels)
