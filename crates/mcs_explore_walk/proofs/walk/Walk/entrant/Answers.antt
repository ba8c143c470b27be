use Rattle.std.proofs.Common.{◌≡◌, true, ap, sym, subst, ◌∙◌}
use Rattle.std.specs.Prelude.{option_copied}
use Rattle.mcs_book.specs.History.{log_of}
use Rattle.mcs_book.specs.Statuses.{may_enter}
use Rattle.mcs_turns.specs.Turns.{User, RunState}
use Rattle.mcs_explore_walk.proofs.Turning.{not-picked}
use Rattle.mcs_explore_walk.proofs.walk.Walk.entrant.Goals as goal

pub returns-then-not-may_take-clause-none : goal.returns-then-not-may_take-clause-none
returns-then-not-may_take-clause-none g c =
    not-picked c.args.users.now c.args.self.now c.args.picks.now c.args.turn.core c.args.turn.pick c.requires (c.may_take.ensures.no c.if-not-may_take.true)

pub returns-clause-some : goal.returns-clause-some
returns-clause-some g c =
    let user = c.in-Some.list.now in
    let turn = c.args.turn in
    record {
      is_user = sym c.at.ensures ∙ ap (λ o. option_copied o) c.in-Some.is;
      is_entry = sym c.at-2.ensures ∙ ap (λ o. option_copied o) c.in-Some-at.is;
      picked = c.may_take.ensures.yes c.if-not-may_take.false;
      enters = subst (λ (w : RunState). may_enter (log_of w.book) turn.core user.thread ≡ true) c.self.view_is
          (subst (λ (u : User). may_enter (log_of c.self.inside.kernel) turn.core u.thread ≡ true) c.list.view_is (sym c.may_enter.ensures ∙ c.if-not-may_enter.false));
    }
