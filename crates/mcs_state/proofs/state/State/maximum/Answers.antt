use Rattle.std.proofs.Common.{◌∙◌}
use Rattle.mcs_types.specs.declared.id.Kind.TheVariants as kind
use Rattle.mcs_book.specs.Sound.{IsThere}
use Rattle.mcs_state.proofs.Answering.{never-rowless}
use Rattle.mcs_state.proofs.Following.{seen}
use Rattle.mcs_state.proofs.state.State.maximum.Goals as goal

pub unreachable-requires : goal.unreachable-requires
unreachable-requires g c = never-rowless _ c.args.thread c.self.invariant.1.sound (seen c.self.view_is (λ R. IsThere R kind.Thread c.args.thread) c.requires) (c.in-None.ensures ∙ c.self.invariant.1.threads.rows c.args.thread)
