use Rattle.mcs_packing.proofs.HeadLaws.{answer_of-grows, AnswerFits-grows}
use Rattle.mcs_packing.proofs.laws.answers_kept.Goals as goal

pub returns-clause-value : goal.returns-clause-value
returns-clause-value g c = rw c.requires.1.words.is (answer_of-grows g.at.0.form g.at.0.at g.at.1.words.items c.requires.1.words.more c.requires.0)

pub returns-clause-fits : goal.returns-clause-fits
returns-clause-fits g c = rw c.requires.1.words.is (AnswerFits-grows g.at.0.form g.at.0.at g.at.1.words.items c.requires.1.words.more c.requires.0)
