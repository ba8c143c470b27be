-- Where a question fails: in a state, or by a turn (own).
use Rattle.std.specs.Prelude.{ℕ, ◌≡◌, ◌+◌, ◌-◌, ◌==◌, ◌&&◌, Bool, false, not, nat_lt, nat_le, unwrap_or, List, [], ◌∷◌, Option, Some, None, length, take, slice_get, bytes_eq, decimal}
use Rattle.std.specs.List.{list_all, list_any}
use Rattle.mcs_types.specs.declared.record.Rec.{Rec}
use Rattle.mcs_types.specs.declared.record.Status.{Status}
use Rattle.mcs_types.specs.declared.record.Status.TheVariants as status
use Rattle.mcs_book.specs.Boots.{boot_log}
use Rattle.mcs_book.specs.History.{Book, Line, log_of, past}
use Rattle.mcs_book.specs.Logs.{Log}
use Rattle.mcs_book.specs.Messages.{next_message}
use Rattle.mcs_book.specs.Statuses.{status_of}
use Rattle.mcs_text.specs.Reading.{words_of}
use Rattle.mcs_text.specs.Table.{answer_text, record_text}
use Rattle.mcs_sim.specs.Trace.{sent_with}
use Rattle.mcs_turns.specs.declared.position.Position.{Position}
use Rattle.mcs_turns.specs.Turns.{User, RunState}
use Rattle.mcs_explore_walk.specs.declared.walk.Turn.{Turn}
use Rattle.mcs_explore_questions.specs.declared.questions.Asked.{Asked}
use Rattle.mcs_explore_questions.specs.declared.questions.Asked.TheVariants as asked
use Rattle.mcs_explore_questions.specs.declared.questions.Event.{Event}
use Rattle.mcs_explore_questions.specs.declared.questions.Span.{Span}
use Rattle.mcs_explore_questions.specs.declared.questions.Until.{Until}
use Rattle.mcs_explore_questions.specs.declared.questions.Until.TheVariants as until
use Rattle.mcs_explore_questions.specs.Patterns.{is_match}
use Rattle.mcs_explore_script.specs.UserLists.{user_of}

-- how many entries a user at this position was answered for good, by the status of its thread: one
-- that waits is not among them
abbrev pub answered_by : Option Status → Position → ℕ
answered_by (Some status.Running) p = p.next
answered_by st p = unwrap_or p.waited p.next

-- how many the user in a place was
abbrev pub answered : List User → RunState → ℕ → ℕ
answered users g i = elim (slice_get users i) [
  | None ↦ 0
  | Some u ↦ elim (slice_get g.places i) [ None ↦ 0 | Some p ↦ answered_by (status_of (log_of g.book) u.thread) p ]
]

-- how many it gave: one that waits is among them
abbrev pub given_by : Option Status → Position → ℕ
given_by (Some status.Running) p = p.next
given_by st p = elim p.waited [ None ↦ p.next | Some last ↦ last + 1 ]

-- how many of its entries came by which a span ends
abbrev pub ended_by : Until → Option Status → Position → ℕ
ended_by until.Given st p = given_by st p
ended_by until.Answered st p = answered_by st p

-- whether a user at this position is in a span, by the status of its thread
abbrev pub is_within : Span → Option Status → Position → Bool
is_within s st p = nat_le s.from (answered_by st p) && nat_lt (ended_by s.until st p) s.to

-- whether the user in a place is
abbrev pub is_at : List User → RunState → Span → ℕ → Bool
is_at users g s i = elim (slice_get users i) [
  | None ↦ false
  | Some u ↦ elim (slice_get g.places i) [ None ↦ false | Some p ↦ is_within s (status_of (log_of g.book) u.thread) p ]
]

-- whether the user of a span is in it
abbrev pub is_in : List User → RunState → Span → Bool
is_in users g s = elim (user_of users s.thread) [ None ↦ false | Some i ↦ is_at users g s i ]

-- whether a turn gives an entry
abbrev pub gives : List User → Turn → Event → Bool
gives users t e = elim (user_of users e.thread) [ None ↦ false | Some i ↦ (i == t.pick.user) && (e.number == t.pick.number + 1) ]

-- how many entries a user at this position gave: of a program that waits, up to that with which it
-- waits
abbrev pub gave_by : Position → ℕ
gave_by p = elim p.waited [ None ↦ p.next | Some last ↦ last + 1 ]

-- whether a user has given an entry
abbrev pub has_given : List User → RunState → Event → Bool
has_given users g e = elim (user_of users e.thread) [
  | None ↦ false
  | Some i ↦ elim (slice_get g.places i) [ None ↦ false | Some p ↦ nat_le e.number (gave_by p) ]
]

-- the lines of a trace for these records, before which this many messages were sent
abbrev pub record_lines : ℕ → List Rec → List (List ℕ)
record_lines n [] = []
record_lines n (r ∷ rs) = record_text n r ∷ record_lines (sent_with n r) rs

-- the lines of a trace after the step of a line of the book: its answer and its records
abbrev pub line_texts : ℕ → Line → List (List ℕ)
line_texts n l = answer_text l.answer ∷ record_lines n l.records

-- those of the newest line of a book
abbrev pub newest_texts : Log → List Line → List (List ℕ)
newest_texts B [] = []
newest_texts B (l ∷ ls) = line_texts (next_message (past B ls)) l

abbrev pub last_texts : Book → List (List ℕ)
last_texts b = newest_texts (boot_log b.boot.lines) b.lines

-- a line without its newline, which is its last byte
abbrev pub bare : List ℕ → List ℕ
bare line = take (length line - 1) line

-- whether a pattern matches a line
abbrev pub is_line : List ℕ → List ℕ → Bool
is_line pattern line = is_match pattern (bare line)

-- whether a question fails in a state
abbrev pub fails_in : List User → Asked → RunState → Bool
fails_in users (asked.Apart spans) g = list_all (is_in users g) spans.items
fails_in users _ g = false

-- whether it fails by a turn that led to this state
abbrev pub fails_by : List User → Asked → Turn → RunState → Bool
fails_by users (asked.Never pattern) t h = list_any (is_line pattern.items) (last_texts h.book)
fails_by users (asked.Before first second) t h = gives users t second && not (has_given users h first)
fails_by users _ t h = false

-- whether it fails in a state, or by the turn that led there
abbrev pub fails : List User → Asked → Option Turn → RunState → Bool
fails users q None g = fails_in users q g
fails users q (Some t) g = fails_by users q t g

-- no word of a list is the name of a message, as m4
abbrev pub NameNone : List (List ℕ) → Type 0
NameNone [] = Unit {0}
NameNone (w ∷ ws) = ((n : ℕ) → bytes_eq w (109 ∷ decimal n) ≡ false) × NameNone ws

-- states in which the numbers of messages are distinguished decide each question; others do, but
-- for patterns that name a message
abbrev pub IsDecided : Bool → Asked → Type 0
IsDecided false (asked.Never pattern) = NameNone (words_of pattern.items)
IsDecided numbered q = Unit {0}
