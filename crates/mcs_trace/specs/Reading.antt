-- Messages whose text was read.
use Rattle.std.specs.Prelude.{◌≡◌, ℕ, ◌≤◌, List, ◌∷◌, ◌++◌, decimal, length, drop}
use Rattle.std.specs.List.{flat_map}
use Rattle.mcs_packing.specs.declared.entries.Sending.{Sending}
use Rattle.mcs_packing.specs.declared.entries.Sending.TheVariants as sends
use Rattle.mcs_text.specs.declared.key.Key.{Key}
use Rattle.mcs_text.specs.declared.key.Key.TheVariants as k
use Rattle.mcs_text.specs.declared.token.Entrant.{Entrant}
use Rattle.mcs_text.specs.Keys.{key_text}
use Rattle.mcs_text.specs.Spelling.{name_text, then_text}
use Rattle.mcs_trace.specs.declared.rooms.TheConstants.{MESSAGE}

-- the label and the words of a message, with a space before each
abbrev pub message_text : ℕ → List ℕ → List ℕ
message_text label words = flat_map (λ n. then_text (decimal n)) (label ∷ words)

-- the text of a message, for which there is room where there is room for any
abbrev pub IsMessageText : List ℕ → ℕ → List ℕ → Type 0
IsMessageText text label words = (text ≡ message_text label words) × (length text ≤ MESSAGE)

-- the text of a message is in a line after this many bytes
abbrev pub IsAfter : List ℕ → ℕ → ℕ → List ℕ → Type 0
IsAfter line front label words = (front ≤ length line) × (drop front line ≡ message_text label words)

-- what is before the message of an entry: who enters, the word of the entry, and an address
abbrev pub front_text : Entrant → Key → ℕ → List ℕ
front_text from key address = decimal from.core.0 ++ then_text (name_text from.thread) ++ then_text (key_text key) ++ then_text (decimal address)

-- the key of an entry that sends a message
abbrev pub sending_key : Sending → Key
sending_key sends.Send = k.Send
sending_key sends.NbSend = k.NbSend
sending_key sends.Call = k.Call
