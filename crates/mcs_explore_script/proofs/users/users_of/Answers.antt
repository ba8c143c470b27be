use Rattle.std.proofs.Common.{◌≡◌, ◌∷◌, [], List, length, sym, ap, ◌∙◌, arith, rules}
use Rattle.std.specs.Vec.Iter.{into_iter_items}
use Rattle.mcs_text.specs.declared.steps.UserEntry.{UserEntry}
use Rattle.mcs_turns.specs.Turns.{User}
use Rattle.mcs_explore_script.specs.UserLists.{with_entries}
use Rattle.mcs_explore_script.proofs.ProgramLines.{none-left}
use Rattle.mcs_explore_script.proofs.users.users_of.Goals as goal

pub loop-said-init : goal.loop-said-init
loop-said-init c =
    let begins = c.into_iter-said-iterator.ensures.into_iter_gives in
    record {
      users = ap (with_entries c.new-users.result) begins.0 ∙ ap (λ (us : List User). with_entries us c.args.entries.items) c.new-users.ensures;
      count = search rules;
    }

pub loop-said-preserved : goal.loop-said-preserved
loop-said-preserved c =
    let at = c.loop-said in
    let said = c.in-Some.said in
    let steps : into_iter_items at.said-iterator ≡ said ∷ into_iter_items c.next.new.self = c.in-Some.ensures.steps.0 in
    record {
      users = ap (λ (us : List User). with_entries us c.next.new.self.rest.items) c.in_ok-add.ensures.added ∙ (sym (ap (with_entries at.users) steps) ∙ at.invariant.users);
      count = let was = at.invariant.count in let gone = c.in-Some.ensures.steps.1 in let short = ap (λ (es : List UserEntry). length es) steps in omega (arith, was, gone, short);
    }

pub returns : goal.returns
returns c =
    let at = c.loop-said in
    let none = c.in-None.ensures.steps in
    let empty : into_iter_items at.said-iterator ≡ [] = none-left _ (sym at.invariant.count ∙ none.0) in
    sym (ap (with_entries at.users) empty) ∙ at.invariant.users
