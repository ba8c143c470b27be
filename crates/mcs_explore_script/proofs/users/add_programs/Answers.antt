use Rattle.std.proofs.Common.{◌≡◌, ◌∷◌, ◌++◌, [], List, length, sym, ap, ◌∙◌, append_assoc, append-nil, arith, rules}
use Rattle.std.specs.Vec.Iter.{into_iter_items}
use Rattle.mcs_explore_programs.specs.declared.program.Label.{Label}
use Rattle.mcs_explore_programs.specs.declared.program.Program.{Program}
use Rattle.mcs_explore_script.specs.Programs.{labels_of, with_programs}
use Rattle.mcs_explore_script.proofs.ProgramLines.{none-left}
use Rattle.mcs_explore_script.proofs.users.add_programs.Goals as goal

pub loop-program-init : goal.loop-program-init
loop-program-init c =
    let begins = c.into_iter-program-iterator.ensures.into_iter_gives in
    record {
      users = ap (with_programs c.args.users.now) begins.0;
      labels = ap (λ (ps : List Program). c.args.labels.now.items ++ labels_of ps) begins.0;
      count = search rules;
    }

pub loop-program-preserved : goal.loop-program-preserved
loop-program-preserved c =
    let at = c.loop-program in
    let program = c.in-Some.program in
    let steps : into_iter_items at.program-iterator ≡ program ∷ into_iter_items c.next.new.self = c.in-Some.ensures.steps.0 in
    record {
      users = ap (λ us. with_programs us c.next.new.self.rest.items) c.in_ok-add_program.ensures.users ∙ (sym (ap (with_programs at.users) steps) ∙ at.invariant.users);
      labels =
          ap (λ (ls : List Label). ls ++ labels_of c.next.new.self.rest.items) c.in_ok-add_program.ensures.labels
          ∙ (append_assoc at.labels.items program.labels.items (labels_of c.next.new.self.rest.items)
          ∙ (sym (ap (λ (ps : List Program). at.labels.items ++ labels_of ps) steps) ∙ at.invariant.labels));
      count = let was = at.invariant.count in let gone = c.in-Some.ensures.steps.1 in let short = ap (λ (ps : List Program). length ps) steps in omega (arith, was, gone, short);
    }

pub returns : goal.returns
returns c =
    let at = c.loop-program in
    let none = c.in-None.ensures.steps in
    let empty : into_iter_items at.program-iterator ≡ [] = none-left _ (sym at.invariant.count ∙ none.0) in
    record {
      users = sym (ap (with_programs at.users) empty) ∙ at.invariant.users;
      labels = sym (append-nil at.labels.items) ∙ (sym (ap (λ (ps : List Program). at.labels.items ++ labels_of ps) empty) ∙ at.invariant.labels);
    }
