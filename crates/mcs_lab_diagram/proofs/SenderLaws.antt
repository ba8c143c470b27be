-- Each message that is taken has a sender.
use Rattle.std.proofs.Common.{Bool, not, ◌&&◌, Option, Some, None, IsTrue, [], ◌∷◌, refl}
use Rattle.std.specs.Prelude.{option_map, is_some}
use Rattle.std.specs.List.{list_any}
use Rattle.mcs_types.specs.declared.record.Letter.{Letter}
use Rattle.mcs_types.specs.declared.record.Rec.{Rec}
use Rattle.mcs_types.specs.declared.record.Rec.TheVariants as rec
use Rattle.mcs_book.specs.Logs.{Log}
use Rattle.mcs_book.specs.Messages.{letter, settles}
use Rattle.mcs_book.specs.Each.{Each, EachRecord}
use Rattle.mcs_book.specs.Fair.{EndsOpen, IsFair}
use Rattle.mcs_book.specs.History.{Book, log_of}
use Rattle.mcs_lab_diagram.specs.Ends.{HasSender}

-- an open message has a letter, and its sender
sender-of-open : (o : Option Letter) (b : Bool) → IsTrue (is_some o && b) → IsTrue (is_some (option_map (λ (s : Letter). s.sender) o))
sender-of-open (Some s) b h = refl
sender-of-open None b h = h

has-sender : (R : Log) (r : Rec) → EndsOpen R r → HasSender R r
has-sender R (rec.Took m p) h = sender-of-open (letter R m) (not (list_any (settles m) R)) h
has-sender R _ h = tt

each-sender : (R : Log) → Each EndsOpen R → Each HasSender R
each-sender [] h = tt
each-sender (r ∷ R) h = (has-sender R r h.0, each-sender R h.1)

pub senders_there : (b : Book) → IsFair b → EachRecord HasSender b
senders_there b fair = each-sender (log_of b) fair.taken_once
