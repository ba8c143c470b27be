-- Messages that were accepted: each has the number of those before it (manual: Message Passing).
use Rattle.std.specs.Prelude.{ℕ, Bool, true, false, not, Option, List, [], ◌∷◌, ◌&&◌, ◌==◌, find, is_some}
use Rattle.std.specs.List.{list_any}
use Rattle.mcs_types.specs.declared.id.ObjId.{ObjId}
use Rattle.mcs_types.specs.declared.record.Letter.{Letter}
use Rattle.mcs_types.specs.declared.record.Rec.{Rec}
use Rattle.mcs_types.specs.declared.record.Rec.TheVariants.{Sent, Took, Dropped}
use Rattle.mcs_types.specs.Ids.{same}
use Rattle.mcs_book.specs.Logs.{Log, counted}

-- whether a record is a message
abbrev pub is_sent : Rec → Bool
is_sent (Sent x e mode badge message) = true
is_sent _ = false

-- the number of the next message
abbrev pub next_message : Log → ℕ
next_message R = counted is_sent R

-- the messages sent, the newest first
abbrev pub letters : Log → List Letter
letters [] = []
letters (Sent x e mode badge message ∷ R) = record { number = next_message R; sender = x; endpoint = e; mode = mode; badge = badge; message = message } ∷ letters R
letters (_ ∷ R) = letters R

-- message m
abbrev pub letter : Log → ℕ → Option Letter
letter R m = find (λ s. s.number == m) (letters R)

-- whether a record takes or drops message m
abbrev pub settles : ℕ → Rec → Bool
settles m (Took m' p) = m == m'
settles m (Dropped m') = m == m'
settles m _ = false

-- whether message m was sent, and is neither taken nor dropped
abbrev pub is_open : Log → ℕ → Bool
is_open R m = is_some (letter R m) && not (list_any (settles m) R)

-- the open message of x
unfoldable pub open_of : Log → ObjId → Option Letter
open_of R x = find (λ s. same s.sender x && is_open R s.number) (letters R)
