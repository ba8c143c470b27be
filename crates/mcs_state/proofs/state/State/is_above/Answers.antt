use Rattle.std.proofs.Common.{Option, ℕ, refl, subst, IfSome}
use Rattle.mcs_types.specs.declared.id.Kind.TheVariants as kind
use Rattle.mcs_book.specs.Sound.{IsThere}
use Rattle.mcs_state.specs.Now.{so_far}
use Rattle.mcs_state.specs.Picking.{thread_at}
use Rattle.mcs_state.proofs.state.State.is_above.Goals as goal

pub priority-requires : goal.priority-requires
priority-requires g c = rw c.thread_id.ensures (subst (λ (o : Option ℕ). IfSome o (λ n. IsThere (so_far c.args.self.now) kind.Thread (thread_at n))) c.in-Some.is c.requires.best)

pub returns-in-Some : goal.returns-in-Some
returns-in-Some g c = rw (c.priority.ensures, c.priority-in-Some.ensures, c.thread_id.ensures, c.thread_id-in-Some.ensures, c.in-Some.is) refl
