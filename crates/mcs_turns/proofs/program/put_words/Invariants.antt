use Rattle.std.proofs.Common.{◌≡◌, drop}
use Rattle.mcs_turns.specs.Programs.{filled_words}
use Rattle.mcs_turns.proofs.program.put_words.Given as goal

abbrev pub invariant-loop-fill : goal.invariant-loop-fill
invariant-loop-fill l = filled_words l.fills l.number l.saved l.initial.words.items ≡ filled_words (drop l.fill-index l.fills) l.number l.saved l.words.items
