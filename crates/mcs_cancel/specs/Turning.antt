-- The rows of Suspend and Resume, in the parts in which the code does them.
use Rattle.std.specs.Prelude.{Option, Some, None}
use Rattle.mcs_types.specs.declared.id.ObjId.{ObjId}
use Rattle.mcs_types.specs.declared.record.Mode.{Mode}
use Rattle.mcs_types.specs.declared.record.Mode.TheVariants as mode
use Rattle.mcs_types.specs.declared.record.Status.{Status}
use Rattle.mcs_types.specs.declared.record.Status.TheVariants as status
use Rattle.mcs_types.specs.declared.entry.Answer.TheVariants.{Done}
use Rattle.mcs_book.specs.Cancelling.{cancel}
use Rattle.mcs_book.specs.Pieces.{Act, answers, with_any}

-- what x is blocked on is cancelled, and its mode is set, where one is given
abbrev pub sets_mode : ObjId → Option Mode → Act
sets_mode x m = answers Done (with_any m (cancel x))

-- the mode to which a thread of this status is resumed: none where it can run
abbrev pub mode_resumed : Option Status → Option Mode
mode_resumed (Some status.Running) = None
mode_resumed (Some status.Restart) = None
mode_resumed _ = Some mode.Restart
