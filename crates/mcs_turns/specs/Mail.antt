-- What reaches threads whose entries wait (own).
use Rattle.std.specs.Prelude.{◌++◌, List, [], ◌∷◌, Option, Some, None}
use Rattle.mcs_types.specs.declared.id.ObjId.{ObjId}
use Rattle.mcs_types.specs.declared.entry.Answer.{Answer}
use Rattle.mcs_types.specs.declared.entry.Answer.TheVariants as answer
use Rattle.mcs_types.specs.declared.record.Mode.TheVariants as mode
use Rattle.mcs_types.specs.declared.record.Rec.{Rec}
use Rattle.mcs_types.specs.declared.record.Rec.TheVariants as rec
use Rattle.mcs_book.specs.History.{Book, Line}
use Rattle.mcs_turns.specs.declared.reached.Reached.{Reached}

-- what a taker gets of the message that a line sent last, with a record more
abbrev pub got_with : Option Answer → Rec → Option Answer
got_with got (rec.Sent sender endpoint mode badge message) = Some (answer.Got badge message)
got_with got r = got

-- what reaches a thread that takes this, if the line sent it
abbrev pub taken : ObjId → Option Answer → Option Reached
taken t None = None
taken t (Some a) = Some (record { thread = t; answer = a })

-- what reaches a thread by a record: what it takes, what its call is answered, the word that it
-- hears, or that it goes on
abbrev pub reaching : Option Answer → Rec → Option Reached
reaching got (rec.Took m t) = taken t got
reaching got (rec.Paid r t message) = Some (record { thread = t; answer = answer.Got (record { 0 = 0 }) message })
reaching got (rec.Heard t n word) = Some (record { thread = t; answer = answer.Heard word })
reaching got (rec.Turns t mode.Running) = Some (record { thread = t; answer = answer.Done })
reaching got r = None

abbrev pub listed : Option Reached → List Reached
listed None = []
listed (Some r) = r ∷ []

-- what reaches threads by these records
abbrev pub reached_from : Option Answer → List Rec → List Reached
reached_from got [] = []
reached_from got (r ∷ rs) = listed (reaching (got_with got r) r) ++ reached_from (got_with got r) rs

-- what the newest line of a book brought to threads
abbrev pub brought : Book → List Reached
brought b = brought_by b.lines
  where
    brought_by : List Line → List Reached
    brought_by [] = []
    brought_by (l ∷ ls) = reached_from None l.records
