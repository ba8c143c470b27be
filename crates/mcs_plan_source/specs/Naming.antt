-- Objects by their names.
use Rattle.std.specs.Prelude.{ℕ, ◌+◌, Bool, false, not, ◌&&◌, ◌||◌, ◌==◌, nat_le, cond, List, [], ◌∷◌, ◌++◌, Option, Some, None, String, map, count_by, string_bytes, bytes_eq}
use Rattle.std.specs.List.{list_all}
use Rattle.std.specs.Map.{lookup}
use denote.Ref.{Bor}
use Rattle.mcs_types.specs.declared.id.ObjId.{ObjId}
use Rattle.mcs_types.specs.declared.id.Kind.{Kind}
use Rattle.mcs_types.specs.declared.id.Kind.TheVariants.{CNode, Thread, Endpoint, Notification, Reply, Context}
use Rattle.mcs_types.specs.Ids.{same, same_kind}
use Rattle.mcs_types.specs.Limits.{cnode_limit, object_limit}

-- things by their names, in the order in which they were given
abbrev pub ByName : Type 0 → Type 0
ByName X = List (List ℕ × X)

-- objects by their names
abbrev pub NameList : Type 0
NameList = ByName ObjId

-- a letter
abbrev pub is_letter : ℕ → Bool
is_letter b = (nat_le 65 b && nat_le b 90) || (nat_le 97 b && nat_le b 122)

-- a digit
abbrev pub is_digit : ℕ → Bool
is_digit b = nat_le 48 b && nat_le b 57

-- whether a word begins with a digit, as a number does
abbrev pub begins_with_digit : List ℕ → Bool
begins_with_digit [] = false
begins_with_digit (b ∷ bs) = is_digit b

-- a letter, a digit, `-`, `.` or `_`
abbrev pub is_name_byte : ℕ → Bool
is_name_byte b = is_letter b || is_digit b || b == 45 || b == 46 || b == 95

-- a letter, and such bytes
abbrev pub is_name_text : List ℕ → Bool
is_name_text [] = false
is_name_text (b ∷ bs) = is_letter b && list_all is_name_byte bs

-- the letter of a kind of objects: `c`, `e`, `n`, `r`, `s` or `t`
abbrev pub is_kind_letter : ℕ → Bool
is_kind_letter b = b == 99 || b == 101 || b == 110 || b == 114 || b == 115 || b == 116

-- whether a word has the shape of an object's id, as `t1`
abbrev pub is_like_id : List ℕ → Bool
is_like_id (l ∷ d ∷ ds) = is_kind_letter l && (is_digit d && list_all is_digit ds)
is_like_id _ = false

-- whether a word may be a name: it is no id
abbrev pub is_name : List ℕ → Bool
is_name word = is_name_text word && not (is_like_id word)

-- how many objects of a kind there may be
abbrev pub limit_of : Kind → ℕ
limit_of CNode = cnode_limit
limit_of Thread = object_limit
limit_of Endpoint = object_limit
limit_of Notification = object_limit
limit_of Reply = object_limit
limit_of Context = object_limit

-- what has a name
abbrev pub find : {X : Type 0} → ByName X → List ℕ → Option X
find names word = lookup (bytes_eq word) names

-- the first name of an object; empty if it has none
abbrev pub name_of : NameList → ObjId → List ℕ
name_of [] object = []
name_of (n ∷ names) object = cond (same n.1 object) n.0 (name_of names object)

-- how many objects of a kind have names
abbrev pub count_of : Kind → NameList → ℕ
count_of kind names = count_by (λ n. same_kind n.1.kind kind) names

-- whether a name is there, and that of an object of this kind
abbrev pub is_of_kind : Kind → Option (List ℕ × ObjId) → Bool
is_of_kind kind None = false
is_of_kind kind (Some n) = same_kind n.1.kind kind

-- the next object of a kind
abbrev pub next_of : Kind → NameList → ObjId
next_of kind names = record { kind = kind; serial = count_of kind names + 1 }

-- the entries of a map, by their names
abbrev pub named_in : {A X : Type 0} → List (String A × X) → ByName X
named_in entries = map (λ e. (string_bytes e.0, e.1)) entries

-- the texts of words
abbrev pub texts : List (Bor (List ℕ)) → List (List ℕ)
texts words = map (λ w. w.now) words

-- a text with a word more, after a space where it is not the first
abbrev pub with_word : List ℕ → List ℕ → List ℕ
with_word [] word = word
with_word (b ∷ bs) word = (b ∷ bs) ++ 32 ∷ word
