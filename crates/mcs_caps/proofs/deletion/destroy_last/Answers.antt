use Rattle.std.proofs.Common.{sym, ◌∙◌}
use Rattle.mcs_book.proofs.Objects.CountLaws.{count-none}
use Rattle.mcs_state.specs.Now.{so_far}
use Rattle.mcs_caps.proofs.Deletions.{ends-last, room-last, leaves-other}
use Rattle.mcs_caps.proofs.deletion.destroy_last.Goals as goal

pub destroy-requires-clause-kind : goal.destroy-requires-clause-kind
destroy-requires-clause-kind g c = c.requires.kind (sym c.count_of.ensures ∙ c.if-count_of-eq0.true)

pub destroy-requires-clause-unnamed : goal.destroy-requires-clause-unnamed
destroy-requires-clause-unnamed g c = λ k i. count-none (so_far c.args.state.now) c.args.object k i (sym c.count_of.ensures ∙ c.if-count_of-eq0.true)

pub destroy-requires-clause-room : goal.destroy-requires-clause-room
destroy-requires-clause-room g c = room-last c.args.object c.args.state.now (sym c.count_of.ensures ∙ c.if-count_of-eq0.true) c.requires.room

pub returns-then-count_of-eq0 : goal.returns-then-count_of-eq0
returns-then-count_of-eq0 g c = ends-last c.args.object c.args.state.now c.destroy.new.state (sym c.count_of.ensures ∙ c.if-count_of-eq0.true) c.destroy.ensures

pub returns-else-count_of-eq0 : goal.returns-else-count_of-eq0
returns-else-count_of-eq0 g c = leaves-other c.args.object c.args.state.now (λ none. c.if-count_of-eq0.false (c.count_of.ensures ∙ none))
