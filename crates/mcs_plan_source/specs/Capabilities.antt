-- The capability that a word spells.
use Rattle.std.specs.Prelude.{◌==◌, ◌&&◌, ◌||◌, ℕ, Bool, true, false, cond, not, nat_lt, List, [], ◌∷◌, length, Option, Some, None, is_none, bit_and, bit_or, bytes_eq, option_map, option_and_then}
use Rattle.std.specs.Option.{ok_or}
use Rattle.std.specs.List.{before_first, after_first, position_or_len}
use Rattle.mcs_types.specs.declared.id.ObjId.{ObjId}
use Rattle.mcs_types.specs.declared.id.Kind.{Kind}
use Rattle.mcs_types.specs.declared.id.Kind.TheVariants.{CNode, Thread, Endpoint, Notification, Reply, Context}
use Rattle.mcs_types.specs.declared.cap.Cap.{Cap}
use Rattle.mcs_plan_source.specs.Naming.{NameList, find}
use Rattle.mcs_plan_source.specs.Numbers.{number_of}
use Rattle.mcs_plan_source.specs.Refusals.{Read, ◌>>=◌, no_name, not_wanted}

-- the bit of a letter of rights: `w`, `r`, `g`, `p`; 0 for any other
abbrev pub bit_of : ℕ → ℕ
bit_of c = cond (c == 119) 1 (cond (c == 114) 2 (cond (c == 103) 4 (cond (c == 112) 8 0)))

-- rights with those of a letter, which is one of them and was not there
abbrev pub with_letter : ℕ → ℕ → Option ℕ
with_letter bits c = cond (bit_of c == 0 || not (bit_and bits (bit_of c) == 0)) None (Some (bit_or bits (bit_of c)))

-- rights with those of letters
abbrev pub bits_after : ℕ → List ℕ → Option ℕ
bits_after bits [] = Some bits
bits_after bits (c ∷ cs) = option_and_then (λ more. bits_after more cs) (with_letter bits c)

-- the rights that a word spells: none as `-`, or letters, each once
abbrev pub rights_of : List ℕ → Option ℕ
rights_of word = cond (bytes_eq word (45 ∷ [])) (Some 0) (cond (length word == 0) None (bits_after 0 word))

-- what is in a text in front of the first such byte, and what follows it, where it has one
abbrev pub front_of : ℕ → List ℕ → List ℕ
front_of mark text = before_first (λ b. b == mark) text

abbrev pub rest_of : ℕ → List ℕ → Option (List ℕ)
rest_of mark text =
    cond (nat_lt (position_or_len (λ b. b == mark) text) (length text)) (Some (after_first (λ b. b == mark) text)) None

-- the parts of the word of a capability: `name:rights=badge`
abbrev pub name_in : List ℕ → List ℕ
name_in word = front_of 58 (front_of 61 word)

abbrev pub rights_in : List ℕ → Option (List ℕ)
rights_in word = rest_of 58 (front_of 61 word)

abbrev pub badge_in : List ℕ → Option (List ℕ)
badge_in word = rest_of 61 word

-- whether a capability to this kind carries rights and a badge
abbrev pub is_badged : Kind → Bool
is_badged CNode = false
is_badged Thread = false
is_badged Endpoint = true
is_badged Notification = true
is_badged Reply = false
is_badged Context = false

-- the rights that are said: all of them where none are, for what carries rights
abbrev pub rights_said : Kind → Option (List ℕ) → Option ℕ
rights_said kind None = Some (cond (is_badged kind) 15 0)
rights_said kind (Some word) = rights_of word

-- the badge that is said: 0 where none is
abbrev pub badge_said : Option (List ℕ) → Option ℕ
badge_said None = Some 0
badge_said (Some word) = number_of word

-- a word has only what a capability to this kind carries
abbrev pub may_say : Kind → List ℕ → Bool
may_say kind word = is_badged kind || (is_none (rights_in word) && is_none (badge_in word))

-- a capability without a guard
abbrev pub cap_with : ObjId → ℕ → ℕ → Cap
cap_with obj rights badge =
    record { obj = obj; rights = rights; badge = record { 0 = badge }; guard = record { bits = 0; value = 0 } }

-- the capability to an object that a word spells
abbrev pub cap_to : ObjId → List ℕ → Option Cap
cap_to obj word = cond (may_say obj.kind word)
    (option_and_then (λ rights. option_map (λ badge. cap_with obj rights badge) (badge_said (badge_in word)))
    (rights_said obj.kind (rights_in word))) None

-- the capability that a word spells: to the object of its name
abbrev pub cap_read : NameList → List ℕ → Read Cap
cap_read names word = do
  obj ← ok_or (find names (name_in word)) (no_name (name_in word))
  ok_or (cap_to obj word) (not_wanted word)
