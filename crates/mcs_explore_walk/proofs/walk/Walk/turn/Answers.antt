use Rattle.std.proofs.Common.{◌≡◌, ap, ◌∙◌, List}
use Rattle.mcs_types.specs.declared.entry.Entry.{Entry}
use Rattle.mcs_turns.specs.declared.program.Fill.{Fill}
use Rattle.mcs_turns.specs.declared.program.Saved.{Saved}
use Rattle.mcs_turns.specs.Programs.{filled}
use Rattle.mcs_turns.specs.Turns.{User, RunState, entered, given, saved_at}
use Rattle.mcs_explore_walk.specs.Walks.{step_of}
use Rattle.mcs_explore_walk.proofs.Turning.{within-list}
use Rattle.mcs_explore_walk.proofs.walk.Walk.turn.Goals as goal

pub enter-requires-clause-number : goal.enter-requires-clause-number
enter-requires-clause-number g c = within-list c.in-Some.list.now c.args.turn.pick c.in-Some.entry.now c.in-Some.ensures.some.is_entry

pub returns-clause-turn : goal.returns-clause-turn
returns-clause-turn g c =
    let user : User = c.in-Some.list.now in
    let entry : Entry = c.in-Some.entry.now in
    let is = c.in-Some.ensures.some in
    let turn = c.args.turn in
    let number = turn.pick.number in
    let was : RunState = c.args.self.now in
    let fills : c.as_slice-fills.result.now ≡ user.fills = c.as_slice-fills.ensures.value ∙ ap (λ (u : User). u.fills) c.list.view_is in
    let is_given : c.in_ok-given.given ≡ given was user turn.pick entry =
    c.in_ok-given.ensures ∙ ap (λ (fs : List Fill). filled fs number c.saved-saved.result c.in_ok-entry.entry) fills
    ∙ ap (λ (s : Saved). filled user.fills number s c.in_ok-entry.entry) c.saved-saved.ensures
    ∙ ap (λ (e : Entry). filled user.fills number (saved_at was turn.pick.user) e) c.in_ok-entry.ensures.value in
    record {
      user = user;
      entry = entry;
      picks = c.args.picks.now;
      is_user = is.is_user;
      is_entry = is.is_entry;
      are_picks = c.requires;
      picked = is.picked;
      enters = is.enters;
      after = c.in_ok-answer.ensures.entered ∙ ap (λ (e : Entry). entered c.args.users.now c.args.picks.now user (step_of turn.core user e) turn.pick was) is_given;
    }
