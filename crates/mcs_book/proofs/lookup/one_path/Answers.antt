use Rattle.mcs_book.proofs.Paths.LegalLookup.{legal-one_path}
use Rattle.mcs_book.proofs.lookup.one_path.Goals as goal

pub returns : goal.returns
returns g c = λ root is p q at to. legal-one_path g.at.0 g.at.1 root g.at.2 p q at to c.requires is
