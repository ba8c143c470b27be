-- What patterns name (own).
use Rattle.std.specs.Prelude.{ℕ, ◌==◌, ◌&&◌, Bool, false, not, nat_lt, List, [], ◌∷◌, Option, Some, None, length}
use Rattle.std.specs.List.{list_all, list_any}
use Rattle.mcs_types.specs.declared.id.ObjId.{ObjId}
use Rattle.mcs_book.specs.Boots.{Boot, boot_log}
use Rattle.mcs_book.specs.Logs.{counted}
use Rattle.mcs_book.specs.Objects.{makes_kind}
use Rattle.mcs_lab_check.specs.Names.{object_of, queue_of}
use Rattle.mcs_text.specs.Reading.{is_digit, words_of}
use Rattle.mcs_text.specs.Spelling.{queue_name}
use Rattle.mcs_explore_questions.specs.declared.questions.Asked.{Asked}
use Rattle.mcs_explore_questions.specs.declared.questions.Asked.TheVariants as asked

-- whether a word is the name of a message: an m and digits
abbrev pub is_message : List ℕ → Bool
is_message [] = false
is_message (b ∷ ds) = (b == 109) && (not (length ds == 0) && list_all is_digit ds)

-- whether a question names a message
abbrev pub names_message : Asked → Bool
names_message (asked.Never pattern) = list_any is_message (words_of pattern.items)
names_message q = false

-- the object that a word names, by itself or as one of its queues
abbrev pub named : List ℕ → Option ObjId
named w = elim (queue_of w) [ None ↦ object_of w | Some q ↦ Some (queue_name q) ]

-- whether it names an object that a boot did not make
abbrev pub is_later : Boot → List ℕ → Bool
is_later boot w = elim (named w) [ None ↦ false | Some o ↦ nat_lt (counted (makes_kind o.kind) (boot_log boot.lines)) o.serial ]

-- whether a question does
abbrev pub names_later : Boot → Asked → Bool
names_later boot (asked.Never pattern) = list_any (is_later boot) (words_of pattern.items)
names_later boot q = false
