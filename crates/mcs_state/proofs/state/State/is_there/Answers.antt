use Rattle.std.specs.Prelude.{Some, None, is_some, option_copied}
use Rattle.std.proofs.Common.{◌≡◌, ◌∙◌, ◌++◌, ap, refl}
use Rattle.mcs_book.specs.History.{log_of}
use Rattle.mcs_book.specs.Logs.{Log}
use Rattle.mcs_state.proofs.Living.{cnode-there, thread-there, context-there}
use Rattle.mcs_state.proofs.state.State.is_there.Goals as goal

pub returns-in-CNode : goal.returns-in-CNode
returns-in-CNode g c = c.was_made.ensures ∙ cnode-there _ c.args.object c.is_sound.ensures.sound c.in-CNode.is

pub returns-in-Thread : goal.returns-in-Thread
returns-in-Thread g c =
    let R : Log = c.self.inside.book.hand ++ log_of c.self.inside.book.book in
    rw (← c.self.view_is) (c.is_some.ensures ∙ elim c.get.result as (λ o. is_some o ≡ is_some (option_copied o)) [ None ↦ refl | Some row ↦ refl ] ∙ ap is_some (c.get.ensures ∙ c.self.invariant.1.threads.rows c.args.object) ∙ thread-there R c.args.object c.self.invariant.1.sound c.in-Thread.is)

pub returns-in-Context : goal.returns-in-Context
returns-in-Context g c =
    let R : Log = c.self.inside.book.hand ++ log_of c.self.inside.book.book in
    rw (← c.self.view_is) (c.is_some-in-Context.ensures ∙ ap is_some (c.core.ensures ∙ c.self.invariant.1.contexts.cores c.args.object) ∙ context-there R c.args.object c.self.invariant.1.sound c.in-Context.is)
