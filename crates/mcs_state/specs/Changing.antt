-- What an entry changes by one record.
use Rattle.mcs_types.specs.declared.record.Rec.{Rec}
use Rattle.mcs_types.specs.declared.record.Rec.TheVariants as rec
use Rattle.mcs_types.specs.declared.entry.Answer.TheVariants.{Done}
use Rattle.mcs_book.specs.Pieces.{Act, say, answers}
use Rattle.mcs_state.specs.declared.changes.Change.{Change}
use Rattle.mcs_state.specs.declared.changes.Change.TheVariants.{Holds, Homes, Ties, Sets}

-- the record of a change
abbrev pub record_of : Change → Rec
record_of (Holds s holder) = rec.Holds s holder
record_of (Homes s home) = rec.Homed s home
record_of (Ties x notification) = rec.Tied x notification
record_of (Sets x p) = rec.Prio x p

-- a change is made, and is Done
abbrev pub changes : Change → Act
changes change = answers Done (say (record_of change))
