-- What entries and answers bring.
use Rattle.std.specs.Prelude.{ℕ, Bool, true, false, List, [], Option, Some, None, IfSome}
use Rattle.mcs_types.specs.Messages.{IsShort}
use Rattle.mcs_types.specs.Views.{Content}
use Rattle.mcs_types.specs.declared.entry.Entry.{Entry}
use Rattle.mcs_types.specs.declared.entry.Entry.TheVariants.{Send, NbSend, Call, Recv, NbRecv, Wait, NbWait, ReplyRecv, NbSendRecv, NbSendWait}
use Rattle.mcs_types.specs.declared.entry.Answer.{Answer}
use Rattle.mcs_types.specs.declared.entry.Answer.TheVariants.{Got}

-- the message that an entry brings
abbrev pub message_of : Entry → Option Content
message_of (Send cap message) = Some message
message_of (NbSend cap message) = Some message
message_of (Call cap message) = Some message
message_of (ReplyRecv cap reply message) = Some message
message_of (NbSendRecv cap source reply message) = Some message
message_of (NbSendWait cap source message) = Some message
message_of _ = None

-- a message that it brings has so few words that they take no memory
abbrev pub BringsShort : Entry → Type 0
BringsShort entry = IfSome (message_of entry) (λ m. IsShort m.words)

-- whether it may be answered with a message
abbrev pub receives : Entry → Bool
receives (Recv cap reply) = true
receives (NbRecv cap reply) = true
receives (Wait cap) = true
receives (NbWait cap) = true
receives (ReplyRecv cap reply message) = true
receives (NbSendRecv cap source reply message) = true
receives (NbSendWait cap source message) = true
receives _ = false

-- the words of the message that an answer brings; none where it brings no message
abbrev pub answer_words : Answer → List ℕ
answer_words (Got badge message) = message.words
answer_words _ = []

-- an answer brings no message
abbrev pub IsPlain : Answer → Type 0
IsPlain (Got badge message) = ⊥
IsPlain _ = Unit {0}
