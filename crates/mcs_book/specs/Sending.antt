-- Sends and calls, after their lookup (manual: Message Passing).
use Rattle.std.specs.Prelude.{Option, Some, None, Ok, Err}
use Rattle.mcs_types.specs.Views.{Content}
use Rattle.mcs_types.specs.declared.id.ObjId.{ObjId}
use Rattle.mcs_types.specs.declared.id.Badge.{Badge}
use Rattle.mcs_types.specs.declared.id.Kind.{Kind}
use Rattle.mcs_types.specs.declared.id.Kind.TheVariants.{Endpoint, Notification, Reply}
use Rattle.mcs_types.specs.declared.cap.Cap.{Cap}
use Rattle.mcs_types.specs.declared.record.SendMode.{SendMode}
use Rattle.mcs_types.specs.declared.record.Queue.TheVariants.{Senders, Receivers}
use Rattle.mcs_types.specs.declared.record.Rec.TheVariants.{Sent, Joins}
use Rattle.mcs_types.specs.declared.entry.Answer.{Answer}
use Rattle.mcs_types.specs.declared.entry.Answer.TheVariants.{Done, Waits}
use Rattle.mcs_types.specs.declared.entry.Refusal.TheVariants.{WrongKind, NoRight}
use Rattle.mcs_book.specs.Logs.{Log}
use Rattle.mcs_types.specs.declared.record.Letter.{Letter}
use Rattle.mcs_book.specs.Messages.{next_message}
use Rattle.mcs_book.specs.Queues.{first_in}
use Rattle.mcs_book.specs.Checks.{Checked, ◌>>◌, need}
use Rattle.mcs_book.specs.Rights.{may_write}
use Rattle.mcs_book.specs.Pieces.{Piece, ◌then◌, say, Act, answers}
use Rattle.mcs_book.specs.Taking.{handed, pay}
use Rattle.mcs_book.specs.Signalling.{signal}

-- a message of t to the endpoint e with a badge, as the next of the log
abbrev pub letter_to : ObjId → ObjId → Badge → SendMode → Content → Log → Letter
letter_to t e badge mode message R = record { number = next_message R; sender = t; endpoint = e; mode = mode; badge = badge; message = message }

-- the same over a capability to an endpoint
abbrev pub letter_over : ObjId → Cap → SendMode → Content → Log → Letter
letter_over t cap mode message R = letter_to t cap.obj cap.badge mode message R

-- a message is accepted
abbrev pub sent : Letter → Piece
sent s = say (Sent s.sender s.endpoint s.mode s.badge s.message)

-- the first receiver takes the message, or else the sender does as said
unfoldable pub sends_to : Letter → Answer → Act → Option ObjId → Act
sends_to s answer alone (Some p) = answers answer (sent s then handed s p)
sends_to s answer alone None = alone

-- a message is sent over an endpoint
unfoldable pub sends : (Log → Letter) → Answer → Act → Act
sends letter answer alone R = sends_to (letter R) answer alone (first_in R (Receivers ((letter R).endpoint))) R

-- a message is sent, and its sender is in its queue
unfoldable pub queues : (Log → Letter) → Act
queues letter R = answers Waits (sent (letter R) then say (Joins ((letter R).sender) (Senders ((letter R).endpoint)) None)) R

-- a send over an endpoint, a notification or a reply capability; alone is what it does where no
-- thread receives
unfoldable pub send_by : Kind → SendMode → ObjId → Cap → Content → Act → Checked Act
send_by Endpoint mode t cap message alone = do
  need (may_write cap) NoRight
  Ok (sends (letter_over t cap mode message) Done alone)
send_by Notification mode t cap message alone = do
  need (may_write cap) NoRight
  Ok (answers Done (signal cap.obj cap.badge))
send_by Reply mode t cap message alone = Ok (answers Done (pay cap.obj message))
send_by _ mode t cap message alone = Err WrongKind

-- a send over a capability
unfoldable pub send_over : SendMode → ObjId → Cap → Content → Act → Checked Act
send_over mode t cap message alone = send_by cap.obj.kind mode t cap message alone
