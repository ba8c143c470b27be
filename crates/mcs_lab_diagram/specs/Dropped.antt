-- Sends that reached no thread.
use Rattle.std.specs.Prelude.{Bool, true, false, not, ◌&&◌, List, [], ◌∷◌}
use Rattle.mcs_types.specs.declared.entry.Entry.{Entry}
use Rattle.mcs_types.specs.declared.entry.Entry.TheVariants.{Send, NbSend, ReplyRecv, NbSendRecv, NbSendWait}
use Rattle.mcs_types.specs.declared.entry.Answer.{Answer}
use Rattle.mcs_types.specs.declared.entry.Answer.TheVariants.{Refused}
use Rattle.mcs_types.specs.declared.record.Rec.{Rec}
use Rattle.mcs_types.specs.declared.record.Rec.TheVariants.{Sent, Paid, Raised}
use Rattle.mcs_book.specs.History.{Line}

-- whether an entry sends what may reach no thread
abbrev pub may_be_dropped : Entry → Bool
may_be_dropped (Send cap message) = true
may_be_dropped (NbSend cap message) = true
may_be_dropped (ReplyRecv cap reply message) = true
may_be_dropped (NbSendRecv cap source reply message) = true
may_be_dropped (NbSendWait cap source message) = true
may_be_dropped _ = false

-- whether an answer is no refusal
abbrev pub is_passed : Answer → Bool
is_passed (Refused why) = false
is_passed _ = true

-- whether a record says that a message, an answer or a signal was accepted
abbrev pub accepts : Rec → Bool
accepts (Sent x e mode badge message) = true
accepts (Paid r x message) = true
accepts (Raised n badge) = true
accepts _ = false

-- whether no record says so
abbrev pub accepts_none : List Rec → Bool
accepts_none [] = true
accepts_none (rec ∷ recs) = not (accepts rec) && accepts_none recs

-- whether the entry of a line sent something that reached no thread
abbrev pub is_dropped : Line → Bool
is_dropped l = may_be_dropped l.step.entry && (is_passed l.answer && accepts_none l.records)
