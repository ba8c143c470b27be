use Rattle.std.proofs.Common.{◌≡◌, ◌∷◌, [], List, length, sym, ap, ◌∙◌, arith, rules}
use Rattle.std.specs.Vec.Iter.{into_iter_items}
use Rattle.mcs_explore_programs.specs.declared.code.ProgramEntry.{ProgramEntry}
use Rattle.mcs_explore_script.specs.Programs.{with_program_entries}
use Rattle.mcs_explore_script.proofs.ProgramLines.{none-left}
use Rattle.mcs_explore_script.proofs.users.add_entries.Goals as goal

pub loop-given-init : goal.loop-given-init
loop-given-init c =
    let begins = c.into_iter-given-iterator.ensures.into_iter_gives in
    record {
      users = ap (with_program_entries c.args.users.now c.args.thread) begins.0;
      count = search rules;
    }

pub loop-given-preserved : goal.loop-given-preserved
loop-given-preserved c =
    let at = c.loop-given in
    let given = c.in-Some.given in
    let steps : into_iter_items at.given-iterator ≡ given ∷ into_iter_items c.next.new.self = c.in-Some.ensures.steps.0 in
    record {
      users = ap (λ us. with_program_entries us c.args.thread c.next.new.self.rest.items) c.in_ok-add_entry.ensures ∙ (sym (ap (with_program_entries at.users c.args.thread) steps) ∙ at.invariant.users);
      count = let was = at.invariant.count in let gone = c.in-Some.ensures.steps.1 in let short = ap (λ (es : List ProgramEntry). length es) steps in omega (arith, was, gone, short);
    }

pub returns : goal.returns
returns c =
    let at = c.loop-given in
    let none = c.in-None.ensures.steps in
    let empty : into_iter_items at.given-iterator ≡ [] = none-left _ (sym at.invariant.count ∙ none.0) in
    sym (ap (with_program_entries at.users c.args.thread) empty) ∙ at.invariant.users
