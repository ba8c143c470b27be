-- Programs: what a user does between its entries, by the result of the last one (own).
use Rattle.std.specs.Prelude.{ℕ, zero, suc, ◌+◌, ◌%◌, ◌^◌, ◌==◌, ◌&&◌, Bool, true, false, cond, nat_lt, bit_and, set, position, option_map, unwrap_or, is_none, List, [], ◌∷◌, Option, Some, None, length, slice_get}
use Rattle.mcs_types.specs.Limits.{label_bits}
use Rattle.mcs_types.specs.Refusals.{refusal_number}
use Rattle.mcs_types.specs.Views.{Content}
use Rattle.mcs_types.specs.declared.entry.Answer.{Answer}
use Rattle.mcs_types.specs.declared.entry.Answer.TheVariants as answer
use Rattle.mcs_types.specs.declared.entry.Entry.{Entry}
use Rattle.mcs_types.specs.declared.entry.Entry.TheVariants as entry
use Rattle.mcs_turns.specs.declared.program.Slot.{Slot}
use Rattle.mcs_turns.specs.declared.program.Slot.TheVariants as slot
use Rattle.mcs_turns.specs.declared.program.Saved.{Saved}
use Rattle.mcs_turns.specs.declared.program.Source.{Source}
use Rattle.mcs_turns.specs.declared.program.Source.TheVariants as source
use Rattle.mcs_turns.specs.declared.program.Test.{Test}
use Rattle.mcs_turns.specs.declared.program.Test.TheVariants as test
use Rattle.mcs_turns.specs.declared.program.Op.{Op}
use Rattle.mcs_turns.specs.declared.program.Op.TheVariants as op
use Rattle.mcs_turns.specs.declared.program.Fill.{Fill}
use Rattle.mcs_turns.specs.declared.program.Settled.{Settled}

-- no word is kept
abbrev pub nothing_saved : Saved
nothing_saved = record { a = 0; b = 0; c = 0; d = 0 }

-- a word that is kept
abbrev pub saved_in : Saved → Slot → ℕ
saved_in s slot.A = s.a
saved_in s slot.B = s.b
saved_in s slot.C = s.c
saved_in s slot.D = s.d

-- the words that are kept, with another one in a slot
abbrev pub with_saved : Saved → Slot → ℕ → Saved
with_saved s slot.A n = record s { a = n }
with_saved s slot.B n = record s { b = n }
with_saved s slot.C n = record s { c = n }
with_saved s slot.D n = record s { d = n }

-- the badge of the result, or the word that was heard
abbrev pub answer_badge : Answer → ℕ
answer_badge (answer.Got badge message) = badge.0
answer_badge (answer.Heard word) = word
answer_badge a = 0

-- the label of the result
abbrev pub answer_label : Answer → ℕ
answer_label (answer.Got badge message) = message.label
answer_label a = 0

-- a word of the message of the result, by its number from 0
abbrev pub answer_word : Answer → ℕ → ℕ
answer_word (answer.Got badge message) i = unwrap_or (slice_get message.words i) 0
answer_word a i = 0

-- the number for which something stands
abbrev pub read : Answer → Saved → Source → ℕ
read t s (source.Number n) = n
read t s source.Badge = answer_badge t
read t s source.Label = answer_label t
read t s (source.Word i) = answer_word t i
read t s (source.Saved x) = saved_in s x

abbrev pub is_got : Answer → Bool
is_got (answer.Got badge message) = true
is_got a = false

abbrev pub is_heard : Answer → Bool
is_heard (answer.Heard word) = true
is_heard a = false

abbrev pub is_empty : Answer → Bool
is_empty answer.Empty = true
is_empty a = false

abbrev pub is_done : Answer → Bool
is_done answer.Done = true
is_done a = false

-- the number of the refusal; 0 where none was
abbrev pub refused_by : Answer → ℕ
refused_by (answer.Refused r) = refusal_number r
refused_by a = 0

-- whether a test holds
abbrev pub holds : Answer → Saved → Test → Bool
holds t s test.Got = is_got t
holds t s test.Heard = is_heard t
holds t s test.Empty = is_empty t
holds t s test.Done = is_done t
holds t s test.Refused = nat_lt 0 (refused_by t)
holds t s (test.RefusedBy k) = refused_by t == k
holds t s (test.Is x y) = read t s x == read t s y
holds t s (test.IsLess x y) = nat_lt (read t s x) (read t s y)
holds t s (test.Has x y) = bit_and (read t s x) (read t s y) == read t s y

-- the entry that a line gives
abbrev pub op_given : Op → Option ℕ
op_given (op.Give n) = Some n
op_given o = None

-- whether it is the line that gives an entry
abbrev pub gives : ℕ → Op → Bool
gives n (op.Give m) = m == n
gives n o = false

-- the words that are kept after a line
abbrev pub op_saved : Answer → Saved → Op → Saved
op_saved t s (op.Keep x from) = with_saved s x (read t s from)
op_saved t s (op.Add x n) = with_saved s x ((saved_in s x + n) % 2 ^ 64)
op_saved t s o = s

-- where a program continues after the line in a place
abbrev pub op_next : Answer → Saved → ℕ → Op → ℕ
op_next t s at (op.Unless x to) = cond (holds t s x) (at + 1) to
op_next t s at (op.Jump to) = to
op_next t s at o = at + 1

-- the entry that a program gives next, from a place on, within this many lines; none where it stops
abbrev pub settled : ℕ → List Op → Answer → Saved → ℕ → Settled
settled zero ops t s at = record { number = None; saved = s }
settled (suc n) ops t s at = elim (slice_get ops at) [
  | None ↦ record { number = None; saved = s }
  | Some o ↦ elim (op_given o) [
    | Some number ↦ record { number = Some number; saved = s }
    | None ↦ settled n ops t (op_saved t s o) (op_next t s at o)
  ]
]

-- the entry that a program gives next where this one was told something; none where it has no such
-- entry
abbrev pub goes_on : List Op → ℕ → Saved → Answer → Option Settled
goes_on ops number s t = option_map (λ (i : ℕ). settled (length ops) ops t s (i + 1)) (position (gives number) ops)

-- the first one, before any result; none if there is no program
abbrev pub starts : List Op → Option Settled
starts [] = None
starts (o ∷ os) = Some (settled (length (o ∷ os)) (o ∷ os) answer.Waits nothing_saved 0)

-- a label with what is kept, where this is of it
abbrev pub label_by : Fill → ℕ → Saved → ℕ → ℕ
label_by f number s l = cond (is_none f.word && (f.number == number)) (saved_in s f.from % 2 ^ label_bits) l

-- the label of an entry's message, with what is kept
abbrev pub filled_label : List Fill → ℕ → Saved → ℕ → ℕ
filled_label [] number s l = l
filled_label (f ∷ fs) number s l = filled_label fs number s (label_by f number s l)

-- words with what is kept, where this is of one
abbrev pub words_by : Fill → ℕ → Saved → List ℕ → List ℕ
words_by f number s ws = cond (f.number == number) (elim f.word [ None ↦ ws | Some i ↦ set ws i (saved_in s f.from % 2 ^ 64) ]) ws

-- the words of an entry's message, with what is kept
abbrev pub filled_words : List Fill → ℕ → Saved → List ℕ → List ℕ
filled_words [] number s ws = ws
filled_words (f ∷ fs) number s ws = filled_words fs number s (words_by f number s ws)

abbrev pub filled_message : List Fill → ℕ → Saved → Content → Content
filled_message fs number s m = record { label = filled_label fs number s m.label; words = filled_words fs number s m.words }

-- an entry of this number, with what is kept in its message
abbrev pub filled : List Fill → ℕ → Saved → Entry → Entry
filled fs number s (entry.Send cap m) = entry.Send cap (filled_message fs number s m)
filled fs number s (entry.NbSend cap m) = entry.NbSend cap (filled_message fs number s m)
filled fs number s (entry.Call cap m) = entry.Call cap (filled_message fs number s m)
filled fs number s (entry.ReplyRecv cap reply m) = entry.ReplyRecv cap reply (filled_message fs number s m)
filled fs number s (entry.NbSendRecv cap source reply m) = entry.NbSendRecv cap source reply (filled_message fs number s m)
filled fs number s (entry.NbSendWait cap source m) = entry.NbSendWait cap source (filled_message fs number s m)
filled fs number s e = e
