use Rattle.std.proofs.Common.{◌++◌, ◌∙◌}
use Rattle.mcs_types.specs.declared.id.Kind.TheVariants as kind
use Rattle.mcs_book.specs.History.{log_of}
use Rattle.mcs_book.specs.Logs.{Log}
use Rattle.mcs_book.specs.Sound.{IsThere}
use Rattle.mcs_state.proofs.Answering.{word-pending}
use Rattle.mcs_state.proofs.Following.{seen}
use Rattle.mcs_state.proofs.state.State.pending.Goals as goal

pub returns : goal.returns
returns g c =
    let R : Log = c.self.inside.book.hand ++ log_of c.self.inside.book.book in
    let there = seen c.self.view_is (λ R. IsThere R kind.Notification c.args.notification) c.requires in
    rw (← c.self.view_is) (c.word.ensures ∙ c.self.invariant.1.notifications.words c.args.notification ∙ word-pending R c.args.notification there)
