-- What an entry does, by its row.
use Rattle.std.specs.Prelude.{◌≡◌, Ok, Err, []}
use Rattle.std.proofs.Common.{ap}
use Rattle.mcs_types.specs.declared.id.ObjId.{ObjId}
use Rattle.mcs_types.specs.declared.id.CoreId.{CoreId}
use Rattle.mcs_types.specs.declared.entry.Entry.{Entry}
use Rattle.mcs_types.specs.declared.entry.Answer.TheVariants.{Refused}
use Rattle.mcs_types.specs.declared.entry.Refusal.{Refusal}
use Rattle.mcs_book.specs.Logs.{Log}
use Rattle.mcs_book.specs.Threads.{mode_of}
use Rattle.mcs_book.specs.Pieces.{Act, before}
use Rattle.mcs_book.specs.Table.{row, wakes, outcome_of, does}

-- what an entry does whose checks were passed, or not
pub does-refused : (R : Log) (core : CoreId) (t : ObjId) (entry : Entry) (why : Refusal) → row R core t entry ≡ Err why → does R core t entry ≡ record { answer = Refused why; records = [] }
unfolding does
does-refused R core t entry why e = ap (λ m. outcome_of R t m) e

pub does-acts : (R : Log) (core : CoreId) (t : ObjId) (entry : Entry) (act : Act) → row R core t entry ≡ Ok act → does R core t entry ≡ before (wakes (mode_of R t) t) act R
unfolding does
does-acts R core t entry act e = ap (λ m. outcome_of R t m) e
