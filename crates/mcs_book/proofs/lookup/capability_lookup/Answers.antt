use Rattle.mcs_book.specs.History.{log_of}
use Rattle.mcs_book.proofs.Paths.LegalLookup.{legal-bits}
use Rattle.mcs_book.proofs.Paths.PathLaws.{capability-named}
use Rattle.mcs_book.proofs.Paths.LookupLaws.{named-found, refused-unnamed, unnamed-refused}
use Rattle.mcs_book.proofs.lookup.capability_lookup.Goals as goal

pub returns : goal.returns
returns g c =
    let R = log_of g.at.0 in
    let bits = legal-bits g.at.0 g.at.1 c.requires in
    record {
      found = λ cap. (capability-named R g.at.1 g.at.2 cap, named-found R g.at.1 g.at.2 cap bits);
      refused = λ why. (refused-unnamed R g.at.1 g.at.2 why bits, unnamed-refused R g.at.1 g.at.2 why bits);
    }
