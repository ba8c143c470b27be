use Rattle.std.proofs.Common.{◌≡◌, Some, slice_get, refl, sym, ◌∙◌}
use Rattle.std.proofs.lemmas.Option.{slice_get_read}
use Rattle.mcs_plan_source.proofs.Entries.{next_word}
use Rattle.mcs_plan_source.proofs.words.Tokens.next.Goals as goal

pub returns-in-Some-clause-word : goal.returns-in-Some-clause-word
returns-in-Some-clause-word c =
    let at : slice_get c.self.inside.words.now c.self.inside.taken ≡ Some c.in-Some.word.now =
    slice_get_read c.self.inside.words.now _ _ _ refl c.in-Some.ensures.lookup.3.0 c.in-Some.ensures.lookup.1 in
    sym c.self.view_is ∙ next_word c.self.inside.words.now c.self.inside.taken c.in-Some.word.now at
