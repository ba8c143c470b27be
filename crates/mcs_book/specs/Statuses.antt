-- What a thread does, and what last reached it (manual: Threads and Execution).
use Rattle.std.specs.Prelude.{Bool, true, false, cond, Option, Some, None, ◌==◌, ◌&&◌, option_map, option_and_then}
use Rattle.mcs_types.specs.declared.id.ObjId.{ObjId}
use Rattle.mcs_types.specs.declared.id.CoreId.{CoreId}
use Rattle.mcs_types.specs.declared.id.Kind.TheVariants.{Thread}
use Rattle.mcs_types.specs.declared.record.Form.{Form}
use Rattle.mcs_types.specs.declared.record.Form.TheVariants.{OnCore}
use Rattle.mcs_types.specs.declared.record.Mode.{Mode}
use Rattle.mcs_types.specs.declared.record.Mode.TheVariants as mode
use Rattle.mcs_types.specs.declared.record.Queue.{Queue}
use Rattle.mcs_types.specs.declared.record.Status.{Status}
use Rattle.mcs_types.specs.declared.record.Status.TheVariants as status
use Rattle.mcs_types.specs.declared.record.Mail.{Mail}
use Rattle.mcs_types.specs.declared.record.Mail.TheVariants.{Message, Word}
use Rattle.mcs_types.specs.declared.record.Rec.{Rec}
use Rattle.mcs_types.specs.declared.record.Rec.TheVariants.{Took, Paid, Heard}
use Rattle.mcs_types.specs.Ids.{same, same_kind}
use Rattle.mcs_book.specs.Logs.{Log, given, latest_knowing}
use Rattle.mcs_book.specs.Objects.{was_made, was_closed, is_alive, form_of}
use Rattle.mcs_book.specs.Threads.{mode_of}
use Rattle.mcs_book.specs.Queues.{queue_of}
use Rattle.mcs_types.specs.declared.record.Letter.{Letter}
use Rattle.mcs_book.specs.Messages.{letter}
use Rattle.mcs_book.specs.Contexts.{context_of}
use Rattle.mcs_book.specs.Replies.{owing}

-- the status of a mode
abbrev pub mode_status : Mode → Status
mode_status mode.Running = status.Running
mode_status mode.Restart = status.Restart
mode_status mode.Inactive = status.Inactive

-- the status of a living thread: its line, else the reply object that owes it, else its mode
abbrev pub status_by : Option Queue → Option ObjId → Mode → Status
status_by (Some q) owed m = status.Queued q
status_by None (Some r) m = status.OnReply r
status_by None None m = mode_status m

-- what t does; nothing where it is no thread or was never made
unfoldable pub status_of : Log → ObjId → Option Status
status_of R t = cond (same_kind t.kind Thread && was_made R t) (Some (cond (was_closed R t) status.Closed (status_by (queue_of R t) (owing R t) (mode_of R t)))) None

-- whether a thread of this status can run
abbrev pub is_ready : Option Status → Bool
is_ready (Some status.Running) = true
is_ready (Some status.Restart) = true
is_ready _ = false

-- whether it is the form of a context of this core
abbrev pub is_on_core : CoreId → Option Form → Bool
is_on_core core (Some (OnCore c)) = c.0 == core.0
is_on_core core _ = false

-- whether t may enter on this core: it is ready, and holds a context of that core
unfoldable pub may_enter : Log → CoreId → ObjId → Bool
may_enter R core t = is_ready (status_of R t) && is_on_core core (option_and_then (form_of R) (context_of R t))

-- what a taker of a message gets
abbrev pub letter_mail : Letter → Mail
letter_mail s = Message s.badge s.message

-- what a record brings to t; R is before it
abbrev pub mail_brought : ObjId → Log → Rec → Option (Option Mail)
mail_brought t R (Took m p) = given (same t p) (option_map letter_mail (letter R m))
mail_brought t R (Paid r x message) = given (same t x) (Some (Message (record { 0 = 0 }) message))
mail_brought t R (Heard x n word) = given (same t x) (Some (Word word))
mail_brought t R _ = None

-- what last reached the living thread t
unfoldable pub mail_of : Log → ObjId → Option Mail
mail_of R t = cond (is_alive R t) (latest_knowing None (mail_brought t) R) None
