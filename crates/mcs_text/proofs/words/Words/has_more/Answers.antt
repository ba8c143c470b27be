use Rattle.std.proofs.Common.{sym, ◌∙◌}
use Rattle.mcs_text.proofs.WordLaws.{left-more}
use Rattle.mcs_text.proofs.words.Words.has_more.Goals as goal

pub returns-clause-more : goal.returns-clause-more
returns-clause-more c some none = left-more c.self.inside.rest (sym c.is_some.ensures ∙ some) (c.self.view_is ∙ none)
