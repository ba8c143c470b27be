-- What is expected of a step, as a script has it, or why it is refused (own).
use Rattle.std.specs.Prelude.{◌++◌, ◌==◌, ◌&&◌, ◌||◌, ℕ, Bool, false, List, [], ◌∷◌, Option, Some, None, Ok, is_some, is_none, decimal, codes, bytes_eq, option_map, if◌then◌else◌}
use Rattle.std.specs.Option.{ok_or}
use Rattle.mcs_types.specs.declared.id.ObjId.{ObjId}
use Rattle.mcs_types.specs.declared.id.Kind.{Kind}
use Rattle.mcs_types.specs.declared.id.Kind.TheVariants.{CNode, Thread, Endpoint, Notification, Reply, Context}
use Rattle.mcs_plan_source.specs.Naming.{NameList, find, with_word}
use Rattle.mcs_plan_source.specs.Numbers.{number_of}
use Rattle.mcs_plan_source.specs.Refusals.{Read, ◌>>=◌, ◌>>◌, need, no_name, not_wanted}
use Rattle.mcs_plan_source.specs.Words.{word_then, end_of}
use Rattle.mcs_plan_compile.specs.Entries.{numbers_more}
use Rattle.mcs_plan_compile.specs.Heads.{object_text}

-- whether a word is the first of an answer
abbrev pub begins_answer : List ℕ → Bool
begins_answer word =
    bytes_eq word (codes "done") || bytes_eq word (codes "got") || bytes_eq word (codes "heard") || bytes_eq word (codes "empty")
    || bytes_eq word (codes "waits") || bytes_eq word (codes "refused")

-- whether a word of a question follows what that asks of
abbrev pub asks_state : List ℕ → Bool
asks_state word =
    bytes_eq word (codes "waits") || bytes_eq word (codes "owed") || bytes_eq word (codes "running") || bytes_eq word (codes "restart")
    || bytes_eq word (codes "inactive") || bytes_eq word (codes "closed") || bytes_eq word (codes "got") || bytes_eq word (codes "heard")

abbrev pub asks_tie : List ℕ → Bool
asks_tie word =
    bytes_eq word (codes "answered") || bytes_eq word (codes "bound") || bytes_eq word (codes "holds") || bytes_eq word (codes "priority")
    || bytes_eq word (codes "held") || bytes_eq word (codes "chain") || bytes_eq word (codes "homed")

abbrev pub asks_debt : List ℕ → Bool
asks_debt word = bytes_eq word (codes "owes") || bytes_eq word (codes "with") || bytes_eq word (codes "pending")

abbrev pub is_asked : List ℕ → Bool
is_asked word = asks_state word || asks_tie word || asks_debt word

-- what is in front of the last dot of a word, and after it
abbrev pub dot_or : ℕ → List ℕ → Option (List ℕ × List ℕ) → Option (List ℕ × List ℕ)
dot_or b bs None = if b == 46 then Some ([], bs) else None
dot_or b bs (Some p) = Some (b ∷ p.0, p.1)

abbrev pub cut_at_dot : List ℕ → Option (List ℕ × List ℕ)
cut_at_dot [] = None
cut_at_dot (b ∷ bs) = dot_or b bs (cut_at_dot bs)

-- whether an object of a kind has a queue of this name
abbrev pub has_queue : Kind → List ℕ → Bool
has_queue CNode end = false
has_queue Thread end = false
has_queue Endpoint end = bytes_eq end (codes "send") || bytes_eq end (codes "recv")
has_queue Notification end = bytes_eq end (codes "wait")
has_queue Reply end = false
has_queue Context end = false

-- a queue of an object, as a script names it
abbrev pub queue_text : List ℕ → Option ObjId → Option (List ℕ)
queue_text end None = None
queue_text end (Some object) =
    if has_queue object.kind end then Some ((object_text object ++ codes ".") ++ end) else None

abbrev pub queue_named : NameList → Option (List ℕ × List ℕ) → Option (List ℕ)
queue_named names None = None
queue_named names (Some p) = queue_text p.1 (find names p.0)

-- the object or the queue that a word names, as a script names it
abbrev pub subject_or : NameList → List ℕ → Option ObjId → Option (List ℕ)
subject_or names word None = queue_named names (cut_at_dot word)
subject_or names word (Some object) = Some (object_text object)

abbrev pub subject_text : NameList → List ℕ → Option (List ℕ)
subject_text names word = subject_or names word (find names word)

-- what a question asks of more
abbrev pub subject_more : NameList → List ℕ → List ℕ → Read (List ℕ)
subject_more names word line = ok_or (option_map (λ text. with_word line text) (subject_text names word)) (no_name word)

-- a word after a question more: a number, `-`, `nothing`, or a name
abbrev pub answer_or : NameList → List ℕ → List ℕ → Option ℕ → Read (List ℕ)
answer_or names word line (Some n) = Ok (with_word line (decimal n))
answer_or names word line None =
    if bytes_eq word (codes "-") || bytes_eq word (codes "nothing") then Ok (with_word line word) else subject_more names word line

abbrev pub answer_more : NameList → List ℕ → List ℕ → Read (List ℕ)
answer_more names word line = answer_or names word line (number_of word)

-- all words more
abbrev pub answers_more : NameList → List (List ℕ) → List ℕ → Read (List ℕ)
answers_more names [] line = Ok line
answers_more names (word ∷ words) line = answer_more names word line >>= λ more. answers_more names words more

-- an answer: its words are numbers
abbrev pub answer_read : List ℕ → List (List ℕ) → Read (List ℕ)
answer_read first words = numbers_more words (codes "= " ++ first)

-- the word of a question, and those after it
abbrev pub asked_more : NameList → List (List ℕ) → List ℕ → Read (List ℕ)
asked_more names words line = do
  (word, rest) ← word_then words
  need (is_asked word) (not_wanted word)
  answers_more names rest (with_word line word)

-- a question: what it asks of; after the name of an object a word of questions; then names and
-- numbers
abbrev pub question_read : NameList → List ℕ → List (List ℕ) → Read (List ℕ)
question_read names first words = do
  line ← subject_more names first (codes "#?")
  if is_some (find names first) then asked_more names words line else answers_more names words line

-- whether a word is why a step is skipped
abbrev pub is_reason : List ℕ → Bool
is_reason word = bytes_eq word (codes "NotRunning") || bytes_eq word (codes "NoContext") || bytes_eq word (codes "WrongCore")

-- that the step is skipped, and why
abbrev pub away_text : List ℕ
away_text = codes "#? away"

abbrev pub away_read : List (List ℕ) → Read (List ℕ)
away_read [] = Ok away_text
away_read (reason ∷ words) = do
  need (is_reason reason) (not_wanted reason)
  end_of words
  Ok (with_word away_text reason)

-- what follows `?`, which begins with this word
abbrev pub wanted_by : NameList → List ℕ → List (List ℕ) → Read (List ℕ)
wanted_by names first rest =
    if bytes_eq first (codes "away") then away_read rest
    else if begins_answer first && is_none (find names first) then answer_read first rest
    else question_read names first rest

-- what follows `?`
abbrev pub wanted_read : NameList → List (List ℕ) → Read (List ℕ)
wanted_read names words = do
  (first, rest) ← word_then words
  wanted_by names first rest
