-- What the words of a question ask (own).
use Rattle.std.specs.Prelude.{ℕ, zero, suc, ◌≡◌, ◌+◌, ◌-◌, ◌==◌, ◌&&◌, ◌||◌, ◌++◌, Bool, true, false, not, cond, nat_lt, nat_le, length, take, drop, List, [], ◌∷◌, Option, Some, None, bytes_eq, codes, is_some, if◌then◌else◌}
use Rattle.mcs_types.specs.declared.id.ObjId.{ObjId}
use Rattle.mcs_turns.specs.Turns.{User, is_program}
use Rattle.mcs_turns.specs.declared.position.Schedule.{Schedule}
use Rattle.mcs_turns.specs.declared.position.Schedule.TheVariants as schedule
use Rattle.mcs_lab_forms.specs.Numbers.{number_of}
use Rattle.mcs_explore_questions.specs.declared.questions.Asked.{Asked}
use Rattle.mcs_explore_questions.specs.declared.questions.Asked.TheVariants as asked
use Rattle.mcs_explore_questions.specs.declared.questions.Entries.{Entries}
use Rattle.mcs_explore_questions.specs.declared.questions.Event.{Event}
use Rattle.mcs_explore_questions.specs.declared.questions.Rule.{Rule}
use Rattle.mcs_explore_questions.specs.declared.questions.Rule.TheVariants as rule
use Rattle.mcs_explore_questions.specs.declared.questions.Span.{Span}
use Rattle.mcs_explore_questions.specs.declared.questions.Until.{Until}
use Rattle.mcs_explore_questions.specs.declared.questions.Until.TheVariants as until
use Rattle.mcs_explore_questions.specs.declared.parser.Ends.{Ends}
use Rattle.mcs_explore_questions.specs.declared.parser.Range.{Range}
use Rattle.mcs_explore_questions.specs.declared.forms.Lines.{Lines}
use Rattle.mcs_explore_questions.specs.declared.forms.Lines.TheVariants as lines
use Rattle.mcs_explore_questions.specs.Forms.{pattern_of}
use Rattle.mcs_explore_questions.specs.Reading.{◌>>=◌, ◌>>◌, after_word, end_of, need, word_then}
use Rattle.mcs_explore_questions.specs.There.{Scene, entries_by, entry_by, labelled, user_by, user_of}

-- what is asked, with the text of a pattern
pub data Said : Type 0 where
  idle : ObjId → Entries → Said
  live : ObjId → Option ℕ → Said
  answer : Event → List ℕ → Said
  answer_if : Event → List ℕ → Said
  some : Event → List ℕ → Said
  never : List ℕ → Said
  apart : List Span → Said
  before : Event → Event → Said
  again : Event → Said
  ruled : Rule → Said

abbrev pub said_of : Asked → Said
said_of (asked.Idle thread entries) = idle thread entries
said_of (asked.Live thread number) = live thread number
said_of (asked.Answer event pattern) = answer event pattern.items
said_of (asked.AnswerIf event pattern) = answer_if event pattern.items
said_of (asked.Some event pattern) = some event pattern.items
said_of (asked.Never pattern) = never pattern.items
said_of (asked.Apart spans) = apart spans.items
said_of (asked.Before first second) = before first second
said_of (asked.Again event) = again event
said_of (asked.Ruled rule) = ruled rule

-- the user that the first word names
unfoldable pub user_then : Scene → List (List ℕ) → Option (User × List (List ℕ))
user_then s words = do
  (word, rest) ← word_then words
  user ← user_by s word
  Some (user, rest)

-- the entry that the first two words name: a user, and one of its entries
unfoldable pub event_then : Scene → List (List ℕ) → Option (Event × List (List ℕ))
event_then s words = do
  (user, rest) ← user_then s words
  (word, left) ← word_then rest
  event ← entry_by s user word
  Some (event, left)

-- how many bytes are before the second of the first two dots that are together; all where there are
-- none: the flag says whether a dot is before them
abbrev pub dots_len : Bool → List ℕ → ℕ
dots_len dotted [] = 0
dots_len dotted (b ∷ bs) = cond (dotted && b == 46) 0 (1 + dots_len (b == 46) bs)

-- the words at the ends of a range, and when it ends
pub record RangeWords : Type 0 where
  pub from : List ℕ
  pub to : List ℕ
  pub until : Until

abbrev pub range_words : Ends → RangeWords
range_words e = record { from = e.from.now; to = e.to.now; until = e.until }

-- a range whose second word begins after the dots, or after `=` there
abbrev pub range_to : List ℕ → List ℕ → RangeWords
range_to from [] = record { from = from; to = []; until = until.Given }
range_to from (b ∷ bs) =
    cond (b == 61) (record { from = from; to = bs; until = until.Answered }) (record { from = from; to = b ∷ bs; until = until.Given })

-- the range that a word writes: `A..B`, or `A..=B`
abbrev pub range_of : List ℕ → Option RangeWords
range_of word =
    let n = dots_len false word in
    cond (nat_lt n (length word)) (Some (range_to (take (n - 1) word) (drop (n + 1) word))) None

-- the number of an entry that a word of at most 9 digits writes
abbrev pub small_number : List ℕ → Option ℕ
small_number word = cond (nat_lt 9 (length word)) None (number_of word)

-- the one entry that has a name, or the number that the word writes
abbrev pub bound_of : Option Entries → List ℕ → Option ℕ
bound_of None word = small_number word
bound_of (Some es) word = cond (es.first == es.last) (Some es.first) None

-- the number that a word of a range gives: the number itself, or that of the entry with this name
abbrev pub bound_by : Scene → User → List ℕ → Option ℕ
bound_by s u word = bound_of (labelled s u word) word

-- the range of entries that a word gives
unfoldable pub bounds_by : Scene → User → List ℕ → Option Range
bounds_by s u word = do
  range ← range_of word
  from ← bound_by s u range.from
  to ← bound_by s u range.to
  Some (record { from = from; to = to; until = range.until })

-- the span from an entry to another, which is after it
abbrev pub span_from : User → Range → Option Span
span_from u b =
    cond (nat_lt (length u.entries) b.to) None
    (cond (nat_lt b.from b.to) (Some (record { thread = u.thread; from = b.from; to = b.to; until = b.until })) None)

-- the span of entries that have a name: from before the first until after the last was given
abbrev pub span_of : Scene → User → List ℕ → Option Entries → Option Span
span_of s u word None = bounds_by s u word >>= span_from u
span_of s u word (Some es) = Some (record { thread = u.thread; from = es.first - 1; to = es.last; until = until.Given })

-- the span of a user that the first two words name: `in 1..2`, or `in NAME`
unfoldable pub span_after : Scene → User → List (List ℕ) → Option (Span × List (List ℕ))
span_after s user words = do
  rest ← after_word (codes "in") words
  (word, left) ← word_then rest
  span ← span_of s user word (labelled s user word)
  Some (span, left)

-- the span that the first three words name: `t2 in 1..2`
unfoldable pub span_then : Scene → List (List ℕ) → Option (Span × List (List ℕ))
span_then s words = do
  (user, rest) ← user_then s words
  span_after s user rest

-- `and`, and a span
unfoldable pub and_span : Scene → List (List ℕ) → Option (Span × List (List ℕ))
and_span s words = after_word (codes "and") words >>= span_then s

-- a span is added to others, which the words after `and` name
pub record AddsSpan (s : Scene) (words left : List (List ℕ)) (old new : List Span) : Type 0 where
  pub span : Span
  pub reads : and_span s words ≡ Some (span, left)
  pub adds : new ≡ old ++ span ∷ []

-- spans, and those that the words add, each after `and`; each takes a word at least, so there are
-- no more turns than words
abbrev pub spans_from : ℕ → Scene → List Span → List (List ℕ) → Option (List Span)
spans_from turns s spans [] = Some spans
spans_from zero s spans (word ∷ words) = None
spans_from (suc turns) s spans (word ∷ words) = do
  (span, left) ← and_span s (word ∷ words)
  spans_from turns s (spans ++ span ∷ []) left

-- users in spans at once
unfoldable pub spans_of : Scene → List (List ℕ) → Option (List Span)
spans_of s words = do
  (span, left) ← span_then s words
  spans_from (length left) s (span ∷ []) left

-- the last entry until which a range goes
abbrev pub last_until : Until → ℕ → ℕ
last_until until.Given to = to - 1
last_until until.Answered to = to

-- the last entry of a range
abbrev pub last_of : Range → ℕ
last_of b = last_until b.until b.to

-- the entries of a range
abbrev pub entries_from : User → Range → Option Entries
entries_from u b =
    cond (b.from == 0 || nat_lt (length u.entries) (last_of b)) None
    (cond (nat_lt (last_of b) b.from) None (Some (record { first = b.from; last = last_of b })))

-- whether a byte of a word is a dot
abbrev pub has_dot : List ℕ → Bool
has_dot [] = false
has_dot (b ∷ bs) = (b == 46) || has_dot bs

-- the entries of a user that a word names: those with this name, the one with this number, or a
-- range
abbrev pub entries_of : Scene → User → List ℕ → Option Entries → Option Entries
entries_of s u word (Some es) = Some es
entries_of s u word None = cond (has_dot word) (bounds_by s u word >>= entries_from u) (entries_by s u word)

-- the entries that the words name, or all if there is none
unfoldable pub entries_then : Scene → User → List (List ℕ) → Option (Entries × List (List ℕ))
entries_then s u [] = Some (record { first = 1; last = length u.entries }, [])
entries_then s u (word ∷ words) = do
  entries ← entries_of s u word (labelled s u word)
  Some (entries, words)

-- `idle t1`, `idle t1 2`, `idle t1 1..=2`
unfoldable pub idle_asked : Scene → List (List ℕ) → Option Said
idle_asked s words = do
  (user, rest) ← user_then s words
  (entries, left) ← entries_then s user rest
  end_of left
  Some (idle user.thread entries)

-- the number of the entry that the words name, if there is one
unfoldable pub number_then : Scene → User → List (List ℕ) → Option (Option ℕ × List (List ℕ))
number_then s u [] = Some (None, [])
number_then s u (word ∷ words) = do
  event ← entry_by s u word
  Some (Some event.number, words)

-- `live t1`, `live t1 2`
unfoldable pub live_asked : Scene → List (List ℕ) → Option Said
live_asked s words = do
  (user, rest) ← user_then s words
  (number, left) ← number_then s user rest
  end_of left
  Some (live user.thread number)

-- whether the first word is the answer of an entry that waits
abbrev pub begin_with_waits : List (List ℕ) → Bool
begin_with_waits [] = false
begin_with_waits (word ∷ words) = bytes_eq word (codes "waits")

-- a pattern of answers, of which none waits
unfoldable pub answer_pattern : Scene → List (List ℕ) → Option (List ℕ)
answer_pattern s words = cond (begin_with_waits words) None (pattern_of s lines.Answers words)

-- an entry, and the pattern of its answers: `t1 2 got 9 *`
pub record EventAnswer : Type 0 where
  pub event : Event
  pub pattern : List ℕ

unfoldable pub answer_then : Scene → List (List ℕ) → Option EventAnswer
answer_then s words = do
  (event, rest) ← event_then s words
  pattern ← answer_pattern s rest
  Some (record { event = event; pattern = pattern })

-- of which lines a pattern is, by the word with which it begins
abbrev pub lines_of : List ℕ → Option Lines
lines_of word = cond (bytes_eq word (codes "=")) (Some lines.Answers) (cond (bytes_eq word (codes "+")) (Some lines.Records) None)

-- a line of a pattern, after its sign
unfoldable pub never_of : Scene → List ℕ → List (List ℕ) → Lines → Option Said
never_of s sign words kind = do
  pattern ← pattern_of s kind words
  Some (never (sign ++ 32 ∷ pattern))

-- users that are never in these spans at once
unfoldable pub apart_asked : Scene → List (List ℕ) → Option Said
apart_asked s words = do
  spans ← spans_of s words
  Some (apart spans)

-- a line that begins with a sign, or users in spans
abbrev pub never_by : Scene → Option Lines → List ℕ → List (List ℕ) → Option Said
never_by s (Some kind) word words = never_of s word words kind
never_by s None word words = apart_asked s (word ∷ words)

-- `never = refused *`, `never + void * *`, `never t2 in 1..2 and t3 in 1..2`
unfoldable pub never_asked : Scene → List (List ℕ) → Option Said
never_asked s [] = None
never_asked s (word ∷ words) = never_by s (lines_of word) word words

-- `before t1 2 t2 3`
unfoldable pub before_asked : Scene → List (List ℕ) → Option Said
before_asked s words = do
  (first, rest) ← event_then s words
  (second, left) ← event_then s rest
  end_of left
  Some (before first second)

-- `again t1 2`
unfoldable pub again_asked : Scene → List (List ℕ) → Option Said
again_asked s words = do
  (event, left) ← event_then s words
  end_of left
  Some (again event)

-- the schedule that a word names
abbrev pub schedule_by : List ℕ → Option Schedule
schedule_by word =
    if bytes_eq word (codes "serial") then Some schedule.Serial
    else if bytes_eq word (codes "equal") then Some schedule.Equal
    else if bytes_eq word (codes "any") then Some schedule.Any
    else None

-- `schedule equal`
unfoldable pub schedule_asked : List (List ℕ) → Option Said
schedule_asked words = do
  (word, left) ← word_then words
  by ← schedule_by word
  end_of left
  Some (ruled (rule.By by))

-- `resumed goes on`
unfoldable pub resumed_asked : List (List ℕ) → Option Said
resumed_asked words = do
  rest ← after_word (codes "goes") words
  left ← after_word (codes "on") rest
  end_of left
  Some (ruled rule.ResumedGoesOn)

-- what a first word asks of the answers of an entry
abbrev pub answered_asked : List ℕ → EventAnswer → Said
answered_asked first a =
    if bytes_eq first (codes "answer") then answer a.event a.pattern
    else if bytes_eq first (codes "answer?") then answer_if a.event a.pattern
    else some a.event a.pattern

-- `answer t1 2 got 9 *`, `answer? t1 2 got 9 *`, `some t1 2 got 9 *`
unfoldable pub answers_asked : Scene → List ℕ → List (List ℕ) → Option Said
answers_asked s first words = do
  a ← answer_then s words
  Some (answered_asked first a)

-- whether a first word asks something of the answers of an entry
abbrev pub is_of_answers : List ℕ → Bool
is_of_answers first = bytes_eq first (codes "answer") || (bytes_eq first (codes "answer?") || bytes_eq first (codes "some"))

-- what is asked, by the word with which it begins and those after it
unfoldable pub asked_by : Scene → List ℕ → List (List ℕ) → Option Said
asked_by s first words =
    if bytes_eq first (codes "idle") then idle_asked s words
    else if bytes_eq first (codes "live") then live_asked s words
    else if is_of_answers first then answers_asked s first words
    else if bytes_eq first (codes "never") then never_asked s words
    else if bytes_eq first (codes "before") then before_asked s words
    else if bytes_eq first (codes "again") then again_asked s words
    else if bytes_eq first (codes "schedule") then schedule_asked words
    else if bytes_eq first (codes "resumed") then resumed_asked words
    else None

-- whether the user of a thread has a program
abbrev pub user_is_program : Option User → Bool
user_is_program None = false
user_is_program (Some u) = is_program u.ops

-- whether an entry is one of a list, or of no user
abbrev pub is_of_list : List User → Event → Bool
is_of_list us e = not (user_is_program (user_of us e.thread))

abbrev pub are_of_lists : List User → Event → Event → Bool
are_of_lists us first second = is_of_list us first && is_of_list us second

-- a state does not record whether a program came to an entry before: so its entries are none of
-- `answer` and `before`, and it does not repeat
abbrev pub fits : List User → Said → Bool
fits us (answer event pattern) = is_of_list us event
fits us (before first second) = are_of_lists us first second
fits us (again event) = is_of_list us event
fits us said = true

-- what the words of a question ask, if they ask something
unfoldable pub asks : Scene → List (List ℕ) → Option Said
asks s words = do
  (first, rest) ← word_then words
  said ← asked_by s first rest
  need (fits s.users said)
  Some said

-- how many bytes are before the blanks at the end of a text, where it is this many before these
-- bytes of it, of which the first has this place
abbrev pub ink_len : ℕ → ℕ → List ℕ → ℕ
ink_len kept place [] = kept
ink_len kept place (b ∷ bs) = ink_len (cond (b == 32 || b == 9) kept (place + 1)) (place + 1) bs

-- a text without the blanks at its end
abbrev pub trimmed : List ℕ → List ℕ
trimmed text = take (ink_len 0 0 text) text

-- the text after a blank
abbrev pub after_blank : List ℕ → Option (List ℕ)
after_blank [] = None
after_blank (b ∷ bs) = cond (b == 32) (Some bs) None

-- the text of the question of a line `#!`
abbrev pub question_of : List ℕ → Option (List ℕ)
question_of (a ∷ b ∷ text) = after_blank (trimmed text)
question_of line = None
