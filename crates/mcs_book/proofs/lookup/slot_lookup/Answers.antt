use Rattle.mcs_book.specs.History.{log_of}
use Rattle.mcs_book.proofs.Paths.LegalLookup.{legal-bits}
use Rattle.mcs_book.proofs.Paths.SlotLookup.{slot-is_named, slot-found, slot-is_unnamed, slot-refused}
use Rattle.mcs_book.proofs.lookup.slot_lookup.Goals as goal

pub returns : goal.returns
returns g c =
    let R = log_of g.at.0 in
    let bits = legal-bits g.at.0 g.at.1 c.requires in
    record {
      found = λ name. (slot-is_named R g.at.1 g.at.2 name, slot-found R g.at.1 g.at.2 name bits);
      refused = λ why. (slot-is_unnamed R g.at.1 g.at.2 why bits, slot-refused R g.at.1 g.at.2 why bits);
    }
