use Rattle.std.proofs.Common.{cond, Some, ap, sym, ◌∙◌}
use Rattle.mcs_types.specs.Ids.{same}
use Rattle.mcs_contexts.specs.Holding.{Holding}
use Rattle.mcs_contexts.proofs.HoldingLaws.{bound, freed, handed-on, holder-thread, still-holding, thread-place}
use Rattle.mcs_contexts.proofs.contexts.Contexts.give.Goals as goal

pub invariant_of-self-in-None-Some : goal.invariant_of-self-in-None-Some
invariant_of-self-in-None-Some c =
    let all = c.self.invariant in
    let v : Holding = record { rows = c.self.inside.rows; held = c.self.inside.held.items } in
    let free = sym c.replace_holder.ensures.before ∙ c.in-None-Some.is-0 in
    let idle = rw (← c.self.view_is, c.in-None-Some.is-1) at c.requires.idle in
    still-holding v _ all c.replace_holder.ensures.shape c.keep.ensures.places
    (bound v _ c.args.context c.in-None-Some.to all.one_to_one free idle (rw c.in-None-Some.is-1 at c.replace_holder.ensures.holders) c.keep.ensures.kept)

pub keep-requires-in-Some-None : goal.keep-requires-in-Some-None
keep-requires-in-Some-None c =
    let v : Holding = record { rows = c.self.inside.rows; held = c.self.inside.held.items } in
    thread-place v c.in-Some-None.from c.self.invariant (holder-thread v c.args.context c.in-Some-None.from c.self.invariant (sym c.replace_holder.ensures.before ∙ c.in-Some-None.is-0))

pub invariant_of-self-in-Some-None : goal.invariant_of-self-in-Some-None
invariant_of-self-in-Some-None c =
    let all = c.self.invariant in
    let v : Holding = record { rows = c.self.inside.rows; held = c.self.inside.held.items } in
    let held = sym c.replace_holder.ensures.before ∙ c.in-Some-None.is-0 in
    still-holding v _ all c.replace_holder.ensures.shape c.keep-in-Some-None.ensures.places
    (freed v _ c.args.context c.in-Some-None.from all.one_to_one held (rw c.in-Some-None.is-1 at c.replace_holder.ensures.holders) c.keep-in-Some-None.ensures.kept)

pub keep-requires-in-Some-Some : goal.keep-requires-in-Some-Some
keep-requires-in-Some-Some c =
    let v : Holding = record { rows = c.self.inside.rows; held = c.self.inside.held.items } in
    thread-place v c.in-Some-Some.from c.self.invariant (holder-thread v c.args.context c.in-Some-Some.from c.self.invariant (sym c.replace_holder.ensures.before ∙ c.in-Some-Some.is-0))

pub invariant_of-self-in-Some-Some : goal.invariant_of-self-in-Some-Some
invariant_of-self-in-Some-Some c =
    let all = c.self.invariant in
    let v : Holding = record { rows = c.self.inside.rows; held = c.self.inside.held.items } in
    let s = c.args.context in
    let t = c.in-Some-Some.to in
    let held = sym c.replace_holder.ensures.before ∙ c.in-Some-Some.is-0 in
    let idle = rw (← c.self.view_is, c.in-Some-Some.is-1) at c.requires.idle in
    still-holding v _ all c.replace_holder.ensures.shape (c.keep-in-Some-Some-2.ensures.places ∙ c.keep-in-Some-Some.ensures.places)
    (handed-on v _ s c.in-Some-Some.from t all.one_to_one held idle (rw c.in-Some-Some.is-1 at c.replace_holder.ensures.holders)
    (λ x. c.keep-in-Some-Some-2.ensures.kept x ∙ ap (λ o. cond (same x t) (Some s) o) (c.keep-in-Some-Some.ensures.kept x)))
