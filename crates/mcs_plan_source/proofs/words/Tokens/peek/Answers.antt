use Rattle.std.proofs.Common.{ap, slice_get, option_map, ◌∙◌, ℕ, List, Bor}
use Rattle.mcs_plan_source.proofs.Entries.{first_word}
use Rattle.mcs_plan_source.proofs.words.Tokens.peek.Goals as goal

pub returns : goal.returns
returns c =
    ap (λ o. option_map (λ (w : Bor (List ℕ)). w.now) o) c.word_at.ensures
    ∙ first_word c.self.inside.words.now c.self.inside.taken ∙ ap (λ ws. slice_get ws 0) c.self.view_is
