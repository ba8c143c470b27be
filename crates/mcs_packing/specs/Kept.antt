-- What is asked of a record where it is kept.
use Rattle.std.specs.Prelude.{Bool, true, false}
use Rattle.mcs_types.specs.declared.record.Rec.{Rec}
use Rattle.mcs_types.specs.declared.record.Rec.TheVariants.{Sent}

-- whether a record is that of a message that was sent
abbrev pub is_sent : Rec → Bool
is_sent (Sent sender endpoint mode badge message) = true
is_sent _ = false
