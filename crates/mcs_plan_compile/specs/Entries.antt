-- What the line of a step has for the words of a plan, or why they are refused (own).
use Rattle.std.specs.Prelude.{◌++◌, ◌==◌, ℕ, Bool, cond, List, [], ◌∷◌, length, Option, Some, None, Ok, nat_le, decimal, codes, bit_and, bytes_eq, ◌||◌}
use Rattle.std.specs.Option.{ok_or}
use Rattle.mcs_types.specs.declared.id.ObjId.{ObjId}
use Rattle.mcs_types.specs.declared.cap.Place.{Place}
use Rattle.mcs_types.specs.declared.limits.TheConstants.{MESSAGE_WORDS}
use Rattle.mcs_plan_source.specs.Naming.{with_word}
use Rattle.mcs_plan_source.specs.Numbers.{number_of}
use Rattle.mcs_plan_source.specs.Capabilities.{rights_of}
use Rattle.mcs_plan_source.specs.Refusals.{Read, ◌>>=◌, ◌>>◌, need, limit, not_wanted}
use Rattle.mcs_plan_source.specs.Words.{word_then, number_then, end_of}
use Rattle.mcs_plan_layout.specs.Laid.{LaidPlan}
use Rattle.mcs_plan_layout.specs.Unnamed.{named_read}
use Rattle.mcs_plan_compile.specs.declared.fields.Field.{Field}
use Rattle.mcs_plan_compile.specs.declared.fields.Field.TheVariants as field
use Rattle.mcs_plan_compile.specs.Fields.{fields_of}

-- a line with more in it, and the words that are left
abbrev pub Line : Type 0
Line = List ℕ × List (List ℕ)

-- the address that a word gives: a number, or the address of what the thread names with the word; a
-- CNode has none
abbrev pub address_or : LaidPlan → ObjId → List ℕ → Option ℕ → Read ℕ
address_or laid t word (Some n) = Ok n
address_or laid t word None = named_read laid t word >>= λ named. ok_or named.address (not_wanted word)

abbrev pub address_read : LaidPlan → ObjId → List ℕ → Read ℕ
address_read laid t word = address_or laid t word (number_of word)

-- the place of an index, with the depth that follows it
abbrev pub place_with : ℕ → List (List ℕ) → Read (Place × List (List ℕ))
place_with index words = do
  (depth, left) ← number_then 255 words
  Ok (record { index = index; depth = depth }, left)

-- the place of what the thread names by a word
abbrev pub place_named : LaidPlan → ObjId → List ℕ → Read Place
place_named laid t word = named_read laid t word >>= λ named. Ok named.place

-- the place that words give: an index and a depth, or a name
abbrev pub place_or : LaidPlan → ObjId → List ℕ → List (List ℕ) → Option ℕ → Read (Place × List (List ℕ))
place_or laid t word rest (Some index) = place_with index rest
place_or laid t word rest None = place_named laid t word >>= λ place. Ok (place, rest)

abbrev pub place_read : LaidPlan → ObjId → List (List ℕ) → Read (Place × List (List ℕ))
place_read laid t words = do
  (word, rest) ← word_then words
  place_or laid t word rest (number_of word)

-- an address more, in decimal
abbrev pub address_more : LaidPlan → ObjId → List (List ℕ) → List ℕ → Read Line
address_more laid t words line = do
  (word, left) ← word_then words
  address ← address_read laid t word
  Ok (with_word line (decimal address), left)

-- a place more, as two numbers
abbrev pub with_place : List ℕ → Place → List ℕ
with_place line place = with_word (with_word line (decimal place.index)) (decimal place.depth)

abbrev pub place_more : LaidPlan → ObjId → List (List ℕ) → List ℕ → Read Line
place_more laid t words line = do
  (place, left) ← place_read laid t words
  Ok (with_place line place, left)

-- a number more, which is not above a limit
abbrev pub number_more : ℕ → List (List ℕ) → List ℕ → Read Line
number_more most words line = do
  (n, left) ← number_then most words
  Ok (with_word line (decimal n), left)

-- a letter, if the rights have this right
abbrev pub right_letter : ℕ → ℕ → List ℕ → List ℕ
right_letter rights right letter = cond (bit_and rights right == 0) [] letter

-- rights as a script has them
abbrev pub rights_text : ℕ → List ℕ
rights_text rights =
    cond (rights == 0) (codes "-")
    (right_letter rights 2 (codes "r") ++ right_letter rights 1 (codes "w") ++ right_letter rights 4 (codes "g") ++ right_letter rights 8 (codes "p"))

-- rights more
abbrev pub rights_more : List (List ℕ) → List ℕ → Read Line
rights_more words line = do
  (word, left) ← word_then words
  rights ← ok_or (rights_of word) (not_wanted word)
  Ok (with_word line (rights_text rights), left)

-- whether a word is the kind of what is made
abbrev pub is_made : List ℕ → Bool
is_made word =
    bytes_eq word (codes "endpoint") || bytes_eq word (codes "notification") || bytes_eq word (codes "reply") || bytes_eq word (codes "context")

-- the kind of what is made more
abbrev pub kind_more : List (List ℕ) → List ℕ → Read Line
kind_more words line = do
  (word, left) ← word_then words
  need (is_made word) (not_wanted word)
  Ok (with_word line word, left)

-- a number of 64 bits more for each word
abbrev pub numbers_more : List (List ℕ) → List ℕ → Read (List ℕ)
numbers_more [] line = Ok line
numbers_more (word ∷ words) line = number_more 18446744073709551615 (word ∷ words) line >>= λ more. numbers_more words more.0

-- a label and the words after it, which are not too many
abbrev pub message_more : List (List ℕ) → List ℕ → Read Line
message_more words line = do
  (labelled, left) ← number_more 4503599627370495 words line
  need (nat_le (length left) MESSAGE_WORDS) (limit MESSAGE_WORDS)
  new ← numbers_more left labelled
  Ok (new, [])

-- a field of an entry more
abbrev pub field_more : LaidPlan → ObjId → Field → List (List ℕ) → List ℕ → Read Line
field_more laid t field.Address words line = address_more laid t words line
field_more laid t field.Place words line = place_more laid t words line
field_more laid t field.Priority words line = number_more 255 words line
field_more laid t field.Rights words line = rights_more words line
field_more laid t field.Badge words line = number_more 18446744073709551615 words line
field_more laid t field.Kind words line = kind_more words line
field_more laid t field.Message words line = message_more words line
field_more laid t field.End words line = Ok (line, words)

-- all fields more, in order
abbrev pub fields_more : LaidPlan → ObjId → List Field → List (List ℕ) → List ℕ → Read Line
fields_more laid t [] words line = Ok (line, words)
fields_more laid t (f ∷ fs) words line = field_more laid t f words line >>= λ more. fields_more laid t fs more.1 more.0

-- an entry more: its word, and then each of its fields; no word is left
abbrev pub entry_more : LaidPlan → ObjId → List (List ℕ) → List ℕ → Read (List ℕ)
entry_more laid t words line = do
  (key, rest) ← word_then words
  fields ← ok_or (fields_of key) (not_wanted key)
  (new, left) ← fields_more laid t fields rest (with_word line key)
  end_of left
  Ok new
