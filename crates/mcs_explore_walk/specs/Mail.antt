-- Where a user continues, record by record.
use Rattle.std.specs.Prelude.{List, [], ◌∷◌, Option, Some, None}
use Rattle.mcs_types.specs.declared.entry.Answer.{Answer}
use Rattle.mcs_types.specs.declared.record.Rec.{Rec}
use Rattle.mcs_turns.specs.declared.position.Position.{Position}
use Rattle.mcs_turns.specs.declared.reached.Reached.{Reached}
use Rattle.mcs_turns.specs.Mail.{got_with, reaching}
use Rattle.mcs_turns.specs.Turns.{User, answered_if}

-- the position of a user after this result reached a thread, if one did
abbrev pub answered_by : User → Option Reached → Position → Position
answered_by u None p = p
answered_by u (Some r) p = answered_if u r p

-- the position after these records, if a receiver gets this of what was sent last
abbrev pub answered_from : List Rec → Option Answer → User → Position → Position
answered_from [] got u p = p
answered_from (r ∷ rs) got u p = answered_from rs (got_with got r) u (answered_by u (reaching (got_with got r) r) p)
