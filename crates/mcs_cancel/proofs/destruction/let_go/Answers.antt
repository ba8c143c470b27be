use Rattle.std.proofs.Common.{ap, sym, ◌∙◌, is_some}
use Rattle.mcs_book.proofs.Firm.Laws.{context-none}
use Rattle.mcs_book.proofs.Threads.HoldingLaws.{context_of-holder}
use Rattle.mcs_state.specs.Now.{so_far}
use Rattle.mcs_cancel.proofs.Releasing.{given-up}
use Rattle.mcs_cancel.proofs.destruction.let_go.Goals as goal

pub holds-requires-clause-allowed : goal.holds-requires-clause-allowed
holds-requires-clause-allowed g c = ap (λ o. is_some o) (context_of-holder (so_far c.args.state.now) c.args.thread c.in-Some.context (sym c.context.ensures.context ∙ c.in-Some.is))

pub returns-in-None-clause-none : goal.returns-in-None-clause-none
returns-in-None-clause-none g c = context-none (so_far c.args.state.now) c.args.thread c.is_sound.ensures.sound (sym c.context.ensures.context ∙ c.in-None.is)

pub returns-in-Some-clause-none : goal.returns-in-Some-clause-none
returns-in-Some-clause-none g c =
    let R = so_far c.args.state.now in
    let held = context_of-holder R c.args.thread c.in-Some.context (sym c.context.ensures.context ∙ c.in-Some.is) in
    rw c.holds.ensures (given-up R c.args.thread c.in-Some.context c.is_sound.ensures.sound held)
