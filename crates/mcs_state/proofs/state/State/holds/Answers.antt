use Rattle.std.specs.Prelude.{IsSome, Option, Some, None}
use Rattle.std.specs.Option.{IfSome}
use Rattle.mcs_types.specs.declared.id.ObjId.{ObjId}
use Rattle.mcs_types.specs.Ids.{IsThread}
use Rattle.mcs_threads.specs.Tables.{row_of}
use Rattle.mcs_state.proofs.ThreadLaws.{given-thread}
use Rattle.mcs_state.proofs.ContextLaws.{given-made, given-idle}
use Rattle.std.proofs.Common.{refl, arith}
use Rattle.mcs_types.specs.declared.record.Rec.TheVariants as rec
use Rattle.mcs_state.proofs.Following.{follows, inside, inside-room}
use Rattle.mcs_state.proofs.state.State.holds.Goals as goal

pub give-requires-clause-made : goal.give-requires-clause-made
give-requires-clause-made g c = given-made _ _ c.args.context c.args.thread c.self.invariant.1.sound c.self.invariant.1.contexts (inside (rec.Holds c.args.context c.args.thread) c.self.view_is c.requires.allowed)

pub give-requires-clause-thread : goal.give-requires-clause-thread
give-requires-clause-thread g c = go c.args.thread (given-thread _ c.self.inside.threads c.args.context c.args.thread c.self.invariant.1.sound c.self.invariant.1.threads (inside (rec.Holds c.args.context c.args.thread) c.self.view_is c.requires.allowed))
  where
    go : (t : Option ObjId) → IfSome t (λ u. IsSome (row_of c.self.inside.threads u)) → IfSome t IsThread
    go None h = tt
    go (Some t) h = c.are_few.ensures t h

pub give-requires-clause-idle : goal.give-requires-clause-idle
give-requires-clause-idle g c = given-idle _ _ c.args.context c.args.thread c.is_one_to_one.ensures.pairs c.self.invariant.1.contexts (inside (rec.Holds c.args.context c.args.thread) c.self.view_is c.requires.allowed)

pub invariant_of-self : goal.invariant_of-self
invariant_of-self g c = (
  omega (arith, c.self.invariant.0, c.note.ensures.whole),
  follows (rec.Holds c.args.context c.args.thread) _ _ _ _ _ _ c.note.ensures.book c.note.ensures.hand (inside-room c.self.view_is c.requires.room c.self.invariant.0) (inside (rec.Holds c.args.context c.args.thread) c.self.view_is c.requires.allowed)
      (record { threads = refl; letters = refl; contexts = record { counts = c.give.ensures.counts; cores = c.give.ensures.cores; holders = c.give.ensures.holders; homes = c.give.ensures.homes }; queues = refl; replies = refl; notifications = refl; slots = refl; sent = refl }) c.self.invariant.1,
)
