-- The patterns of answers and records (own): which words a pattern may have, by the form of the
-- lines that it matches, and the text that it becomes, with ids in place of names.
use Rattle.std.specs.Prelude.{ℕ, zero, suc, ◌+◌, ◌-◌, ◌==◌, ◌&&◌, ◌||◌, ◌++◌, Bool, true, false, not, cond, nat_le, length, take, drop, List, [], ◌∷◌, Option, Some, None, bytes_eq, codes, is_some, if◌then◌else◌}
use Rattle.mcs_types.specs.declared.id.Kind.{Kind}
use Rattle.mcs_types.specs.declared.id.Kind.TheVariants.{CNode, Thread, Endpoint, Notification, Reply, Context}
use Rattle.mcs_types.specs.declared.id.ObjId.{ObjId}
use Rattle.mcs_types.specs.Ids.{same_kind}
use Rattle.mcs_text.specs.Reading.{words_of}
use Rattle.mcs_text.specs.Spelling.{name_text}
use Rattle.mcs_lab_check.specs.Names.{queue_of}
use Rattle.mcs_lab_forms.specs.Numbers.{number_of}
use Rattle.mcs_explore_questions.specs.declared.forms.Lines.{Lines}
use Rattle.mcs_explore_questions.specs.declared.forms.Lines.TheVariants as lines
use Rattle.mcs_explore_questions.specs.declared.forms.Pattern.{Pattern}
use Rattle.mcs_explore_questions.specs.declared.forms.WordKind.{WordKind}
use Rattle.mcs_explore_questions.specs.declared.forms.WordKind.TheVariants as sort
use Rattle.mcs_explore_questions.specs.Patterns.{is_rest}
use Rattle.mcs_explore_questions.specs.Reading.{◌>>=◌, ◌>>◌, either, has_words, need}
use Rattle.mcs_explore_questions.specs.There.{Scene, can_be, object_by}

-- a wildcard for one word
abbrev pub is_any : List ℕ → Bool
is_any word = bytes_eq word (codes "*")

-- what is read of a pattern: the last word that was taken, the words that are left, the text so
-- far, and whether a word for the rest was taken
pub record Fit : Type 0 where
  pub last : List ℕ
  pub left : List (List ℕ)
  pub text : List ℕ
  pub ended : Bool

-- a pattern that is read, and the words that are left
abbrev pub fit_of : Pattern → List (List ℕ) → Fit
fit_of p words = record { last = p.last.now; left = words; text = p.text.items; ended = p.ended }

-- a word that was taken, and what it becomes
abbrev pub put : Fit → List ℕ → List (List ℕ) → List ℕ → Fit
put f word words text = record { last = word; left = words; text = f.text ++ 32 ∷ text; ended = f.ended }

-- a word for the rest that was taken
abbrev pub put_rest : Fit → List ℕ → List (List ℕ) → Fit
put_rest f word words = record { last = word; left = words; text = f.text ++ 32 ∷ word; ended = true }

-- whether an object is of a kind, where that matters
abbrev pub is_of : Option Kind → ObjId → Bool
is_of None o = true
is_of (Some k) o = same_kind k o.kind

-- the object of a kind that a word names, and that can be there
unfoldable pub object_there : Scene → Option Kind → List ℕ → Option ObjId
object_there s kind word = do
  found ← object_by s word
  o ← found
  need (is_of kind o)
  need (can_be s o)
  Some o

-- the text that the name of an object becomes
unfoldable pub object_text : Scene → Option Kind → List ℕ → Option (List ℕ)
object_text s kind word = do
  o ← object_there s kind word
  Some (name_text o)

-- the front of a word, and its last five bytes
abbrev pub front_of : List ℕ → List ℕ
front_of word = take (length word - 5) word

abbrev pub end_of : List ℕ → List ℕ
end_of word = drop (length word - 5) word

-- the text that the name of a queue becomes
unfoldable pub queue_text : Scene → List ℕ → Option (List ℕ)
queue_text s word = do
  found ← object_by s (front_of word)
  o ← found
  need (is_some (queue_of (name_text o ++ end_of word)))
  need (can_be s o)
  Some (name_text o ++ end_of word)

-- a number from one to another
abbrev pub is_between : ℕ → ℕ → Option ℕ → Bool
is_between least most None = false
is_between least most (Some n) = nat_le least n && nat_le n most

-- a message, as `m4`
abbrev pub is_message : List ℕ → Bool
is_message [] = false
is_message (b ∷ bs) = b == 109 && is_some (number_of bs)

-- the bytes after a letter, if it is the first
abbrev pub after_letter : ℕ → List ℕ → List ℕ
after_letter letter [] = []
after_letter letter (b ∷ bs) = cond (b == letter) bs (b ∷ bs)

-- rights: letters of `rwgp` in this order, or a dash
abbrev pub are_rights : List ℕ → Bool
are_rights word = bytes_eq word (codes "-") || (not (length word == 0) && length (after_letter 112 (after_letter 103 (after_letter 119 (after_letter 114 word)))) == 0)

-- one of three words, or of four
abbrev pub is_status : List ℕ → Bool
is_status word = bytes_eq word (codes "running") || (bytes_eq word (codes "restart") || bytes_eq word (codes "inactive"))

abbrev pub is_mode : List ℕ → Bool
is_mode word = (bytes_eq word (codes "send") || bytes_eq word (codes "call")) || (bytes_eq word (codes "mute") || bytes_eq word (codes "give"))

abbrev pub is_ending : List ℕ → Bool
is_ending word = bytes_eq word (codes "deleted") || bytes_eq word (codes "cancelled")

-- a word, if it may stay as it is
abbrev pub kept : Bool → List ℕ → Option (List ℕ)
kept true word = Some word
kept false word = None

-- the text in a pattern for a word of a sort
unfoldable pub sort_text : Scene → WordKind → List ℕ → Option (List ℕ)
sort_text s (sort.Object kind) word = object_text s kind word
sort_text s (sort.Maybe kind) word = cond (bytes_eq word (codes "-")) (Some word) (object_text s (Some kind) word)
sort_text s (sort.Number least most) word = kept (is_between least most (number_of word)) word
sort_text s sort.Message word = kept (is_message word) word
sort_text s sort.Queue word = queue_text s word
sort_text s sort.Rights word = kept (are_rights word) word
sort_text s sort.Either word = kept (are_rights word || is_between 0 64 (number_of word)) word
sort_text s sort.Status word = kept (is_status word) word
sort_text s sort.Mode word = kept (is_mode word) word
sort_text s sort.Ending word = kept (is_ending word) word

-- a word of a sort, or a wildcard, was taken
abbrev pub taken : Scene → WordKind → Fit → List ℕ → List (List ℕ) → Option Fit
taken s sort f word words =
    if is_rest word then Some (put_rest f word words)
    else if is_any word then Some (put f word words word)
    else (sort_text s sort word >>= λ text. Some (put f word words text))

-- such a word is taken
abbrev pub take_word : Scene → WordKind → Fit → List (List ℕ) → Option Fit
take_word s sort f [] = None
take_word s sort f (word ∷ words) = taken s sort f word words

-- nothing is taken after a word for the rest
abbrev pub take_sort : Scene → WordKind → Fit → Option Fit
take_sort s sort f = cond f.ended (Some f) (take_word s sort f f.left)

-- the words of a message: at most this many
abbrev pub take_numbers : Scene → ℕ → Fit → List (List ℕ) → Option Fit
take_numbers s room f [] = Some f
take_numbers s room f (word ∷ words) =
    cond (room == 0 || f.ended) (Some f)
    (take_sort s (sort.Number 0 18446744073709551615) f >>= λ next. take_numbers s (room - 1) next words)

-- rights or the bits of a guard, and a badge or a guard, of an object that is any
unfoldable pub take_any_rights : Scene → Fit → List (List ℕ) → Option Fit
take_any_rights s f [] = Some f
take_any_rights s f (word ∷ words) = do
  next ← taken s sort.Either f word words
  take_sort s (sort.Number 0 18446744073709551615) next

-- two words of these sorts
unfoldable pub take_two : Scene → WordKind → WordKind → Fit → Option Fit
take_two s first second f = do
  next ← take_sort s first f
  take_sort s second next

-- what follows the object of a capability, by its kind
unfoldable pub take_rest_of : Scene → Kind → Fit → Option Fit
take_rest_of s Thread f = Some f
take_rest_of s Reply f = Some f
take_rest_of s Context f = Some f
take_rest_of s Endpoint f = take_two s sort.Rights (sort.Number 0 18446744073709551615) f
take_rest_of s Notification f = take_two s sort.Rights (sort.Number 0 18446744073709551615) f
take_rest_of s CNode f = take_two s (sort.Number 0 64) (sort.Number 0 18446744073709551615) f

-- a capability that begins with the object of a word
unfoldable pub object_taken : Scene → Fit → List ℕ → List (List ℕ) → Option Fit
object_taken s f word words = do
  o ← object_there s None word
  take_rest_of s o.kind (put f word words (name_text o))

-- a capability that begins with a word: a dash, any, or an object with two words more where its
-- kind has them
unfoldable pub held : Scene → Fit → List ℕ → List (List ℕ) → Option Fit
held s f word words =
    if is_rest word then Some (put_rest f word words)
    else if is_any word then take_any_rights s (put f word words word) words
    else if bytes_eq word (codes "-") then Some (put f word words word)
    else object_taken s f word words

abbrev pub take_held : Scene → Fit → List (List ℕ) → Option Fit
take_held s f [] = None
take_held s f (word ∷ words) = held s f word words

unfoldable pub take_capability : Scene → Fit → Option Fit
take_capability s f = cond f.ended (Some f) (take_held s f f.left)

-- whether a word is a queue of receivers, by its end; whether it is one of other threads
abbrev pub is_of_receivers : List ℕ → Bool
is_of_receivers word = bytes_eq (end_of word) (codes ".recv")

abbrev pub is_of_others : List ℕ → Bool
is_of_others word = bytes_eq (end_of word) (codes ".send") || bytes_eq (end_of word) (codes ".wait")

-- the reply object of a thread that joins a queue: only a receiver has one, or a dash
unfoldable pub take_reply : Scene → Fit → Option Fit
take_reply s f =
    if is_of_receivers f.last then take_sort s (sort.Maybe Reply) f
    else if is_of_others f.last || length f.left == 0 then Some f
    else take_sort s (sort.Maybe Reply) f

-- the names of the words of an answer after its first, if it is the first of one
unfoldable pub answer_form : List ℕ → Option (List ℕ)
answer_form word =
    if bytes_eq word (codes "done") then Some []
    else if bytes_eq word (codes "got") then Some (codes "badge label words")
    else if bytes_eq word (codes "heard") then Some (codes "word")
    else if bytes_eq word (codes "empty") then Some []
    else if bytes_eq word (codes "waits") then Some []
    else if bytes_eq word (codes "refused") then Some (codes "reason")
    else None

-- those of a record, in three parts
unfoldable pub object_record : List ℕ → Option (List ℕ)
object_record word =
    if bytes_eq word (codes "made") then Some (codes "object")
    else if bytes_eq word (codes "closed") then Some (codes "object")
    else if bytes_eq word (codes "slot") then Some (codes "cnode index capability")
    else if bytes_eq word (codes "prio") then Some (codes "thread priority")
    else if bytes_eq word (codes "turns") then Some (codes "thread mode")
    else None

unfoldable pub message_record : List ℕ → Option (List ℕ)
message_record word =
    if bytes_eq word (codes "joins") then Some (codes "thread queue reply")
    else if bytes_eq word (codes "parts") then Some (codes "thread queue")
    else if bytes_eq word (codes "sent") then Some (codes "message thread endpoint mode badge label words")
    else if bytes_eq word (codes "took") then Some (codes "message thread")
    else if bytes_eq word (codes "dropped") then Some (codes "message")
    else if bytes_eq word (codes "owes") then Some (codes "reply thread context")
    else None

unfoldable pub other_record : List ℕ → Option (List ℕ)
other_record word =
    if bytes_eq word (codes "paid") then Some (codes "reply thread label words")
    else if bytes_eq word (codes "void") then Some (codes "reply thread ending")
    else if bytes_eq word (codes "holds") then Some (codes "context thread")
    else if bytes_eq word (codes "raised") then Some (codes "notification badge")
    else if bytes_eq word (codes "heard") then Some (codes "thread notification word")
    else if bytes_eq word (codes "tied") then Some (codes "thread notification")
    else if bytes_eq word (codes "homed") then Some (codes "context notification")
    else None

unfoldable pub record_form : List ℕ → Option (List ℕ)
record_form word = either (object_record word) (either (message_record word) (other_record word))

-- the names of the words of a line after its first
unfoldable pub form_of : Lines → List ℕ → Option (List ℕ)
form_of lines.Answers word = answer_form word
form_of lines.Records word = record_form word

-- the first words of answers and of records, in the order in which a pattern that begins with a
-- word for any is tried
abbrev pub firsts_of : Lines → List ℕ
firsts_of lines.Answers = codes "done got heard empty waits refused"
firsts_of lines.Records = codes "made closed slot prio turns joins parts sent took dropped owes paid void holds raised heard tied homed"

-- the kind of the objects that words of this name name
unfoldable pub kind_named : List ℕ → Option Kind
kind_named name =
    if bytes_eq name (codes "thread") then Some Thread
    else if bytes_eq name (codes "endpoint") then Some Endpoint
    else if bytes_eq name (codes "notification") then Some Notification
    else if bytes_eq name (codes "reply") then Some Reply
    else if bytes_eq name (codes "context") then Some Context
    else if bytes_eq name (codes "cnode") then Some CNode
    else None

-- whether a dash may mean that there is no such object, in a line with this first word
unfoldable pub may_be_none : List ℕ → List ℕ → Bool
may_be_none first name =
    if bytes_eq first (codes "owes") then bytes_eq name (codes "context")
    else if bytes_eq first (codes "holds") then bytes_eq name (codes "thread")
    else if bytes_eq first (codes "tied") || bytes_eq first (codes "homed") then bytes_eq name (codes "notification")
    else false

-- the sort of the words of this name that name no object of one kind
unfoldable pub plain_sort : List ℕ → List ℕ → WordKind
plain_sort first name =
    if bytes_eq name (codes "object") then sort.Object None
    else if bytes_eq name (codes "message") then sort.Message
    else if bytes_eq name (codes "queue") then sort.Queue
    else if bytes_eq name (codes "ending") then sort.Ending
    else if bytes_eq name (codes "mode") then (if bytes_eq first (codes "turns") then sort.Status else sort.Mode)
    else if bytes_eq name (codes "priority") || bytes_eq name (codes "index") then sort.Number 0 255
    else if bytes_eq name (codes "label") then sort.Number 0 4503599627370495
    else if bytes_eq name (codes "reason") then sort.Number 1 13
    else sort.Number 0 18446744073709551615

-- the sort of words that name an object of a kind, if there is one
abbrev pub sort_by : Option Kind → List ℕ → List ℕ → WordKind
sort_by None first name = plain_sort first name
sort_by (Some kind) first name = if may_be_none first name then sort.Maybe kind else sort.Object (Some kind)

-- the sort of the words of this name in the form of lines with this first word
unfoldable pub sort_of : List ℕ → List ℕ → WordKind
sort_of first name = sort_by (kind_named name) first name

-- the words of this name are taken
unfoldable pub take_field : Scene → List ℕ → List ℕ → Fit → Option Fit
take_field s first name f =
    if bytes_eq name (codes "words") then take_numbers s 120 f f.left
    else if bytes_eq name (codes "capability") then take_capability s f
    else if bytes_eq name (codes "reply") && bytes_eq first (codes "joins") then take_reply s f
    else take_sort s (sort_of first name) f

-- the words of all these names are taken
abbrev pub take_fields : Scene → List ℕ → List (List ℕ) → Fit → Option Fit
take_fields s first [] f = Some f
take_fields s first (name ∷ names) f = take_field s first name f >>= take_fields s first names

-- after all, nothing is left, or a word for the rest
abbrev pub text_of : Fit → List (List ℕ) → Option (List ℕ)
text_of f [] = Some f.text
text_of f (word ∷ words) = cond (is_rest word) (Some (f.text ++ 32 ∷ word)) None

abbrev pub whole_of : Fit → Option (List ℕ)
whole_of f = text_of f f.left

-- the names in a form
abbrev pub names_in : List ℕ → List (List ℕ)
names_in [] = []
names_in (b ∷ bs) = words_of (b ∷ bs)

-- what is read of a pattern before its second word
abbrev pub begun : List ℕ → List (List ℕ) → Fit
begun word words = record { last = word; left = words; text = word; ended = false }

-- the text of a pattern of lines with this first word and these names
unfoldable pub fitted_by : Scene → List ℕ → List ℕ → Fit → Option (List ℕ)
fitted_by s first form f = take_fields s first (names_in form) f >>= whole_of

-- the text of a pattern of lines with this first word, or with a wildcard in its place
unfoldable pub fitted : Scene → Lines → List ℕ → Fit → Option (List ℕ)
fitted s kind first f = do
  form ← form_of kind first
  fitted_by s first form f

-- the text by the first of these that it fits
abbrev pub fitted_any : Scene → Lines → List (List ℕ) → Fit → Option (List ℕ)
fitted_any s kind [] f = None
fitted_any s kind (first ∷ firsts) f = either (fitted s kind first f) (fitted_any s kind firsts f)

-- whether no word follows one for the rest
abbrev pub is_rest_last : List (List ℕ) → Bool
is_rest_last [] = true
is_rest_last (word ∷ words) = if is_rest word then not (has_words words) else is_rest_last words

-- the text of a pattern that begins with this word
unfoldable pub pattern_by : Scene → Lines → List ℕ → List (List ℕ) → Option (List ℕ)
pattern_by s kind word words =
    if is_rest word then Some word
    else if is_any word then fitted_any s kind (words_of (firsts_of kind)) (begun word words)
    else fitted s kind word (begun word words)

-- the text of a pattern of these words for lines, without their sign
unfoldable pub pattern_of : Scene → Lines → List (List ℕ) → Option (List ℕ)
pattern_of s kind [] = None
pattern_of s kind (word ∷ words) = cond (is_rest_last (word ∷ words)) (pattern_by s kind word words) None
