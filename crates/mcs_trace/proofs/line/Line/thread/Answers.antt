use Rattle.std.proofs.Common.{[], ◌∷◌}
use Rattle.mcs_text.specs.declared.token.Token.TheVariants.{Key, Number, Name, Maybe}
use Rattle.mcs_text.specs.declared.key.Key.TheVariants as k
use Rattle.mcs_text.specs.Table.{runs_key}
use Rattle.mcs_trace.proofs.Lines.{line-by-parts}
use Rattle.mcs_trace.proofs.line.Line.thread.Goals as goal

pub returns : goal.returns
returns c =
    let a = c.args in
    let words = Number a.priorities.0.0 ∷ Number a.priorities.1.0 ∷ Name a.root ∷ Number a.guard.bits ∷ Number a.guard.value ∷ [] in
    rw (c.byte.ensures.0, c.spaced_word.ensures.0, c.runs.ensures.0, c.rooted.ensures.0)
    (line-by-parts a.self.now (Key k.Thread) words (runs_key a.runs) (Maybe a.context))
