-- The names that the lines of a script give to objects, and what has a name.
use Rattle.std.specs.Prelude.{ℕ, ◌-◌, Bool, true, false, ◌&&◌, ◌||◌, not, ◌==◌, cond, List, [], ◌∷◌, length, take, Option, Some, None, map, slice_get, slice_index, bytes_eq, is_some, option_to_list, option_map}
use Rattle.std.specs.Char.{is_ascii_alphanumeric}
use Rattle.std.specs.List.{filter, flat_map, list_all}
use denote.Ref.{Bor}
use Rattle.mcs_types.specs.declared.id.ObjId.{ObjId}
use Rattle.mcs_types.specs.Ids.{same}
use Rattle.mcs_plan_source.specs.Naming.{is_like_id}
use Rattle.mcs_text.specs.Reading.{lines_of, words_of}
use Rattle.mcs_lab_check.specs.Names.{object_of}
use Rattle.mcs_lab_check.specs.declared.names.Named.{Named}
use Rattle.mcs_lab_check.specs.declared.names.Named.TheVariants as named

-- an object, and a name that it was given
pub record Naming : Type 0 where
  pub object : ObjId
  pub name : List ℕ

-- a text without its newline
abbrev pub bare : List ℕ → List ℕ
bare text = cond (slice_index text (length text - 1) == 10) (take (length text - 1) text) text

-- the text after `#@ ` of a line that begins so
abbrev pub name_text : List ℕ → Option (List ℕ)
name_text (a ∷ b ∷ c ∷ text) = cond (a == 35 && b == 64 && c == 32) (Some (bare text)) None
name_text _ = None

-- a letter, a digit, `-`, `_` or `.`
abbrev pub is_of_name : ℕ → Bool
is_of_name b = is_ascii_alphanumeric b || b == 45 || b == 95 || b == 46

-- whether a word may be a name: it is not empty, and has not the shape of an object's id
abbrev pub is_name : List ℕ → Bool
is_name [] = false
is_name (b ∷ bs) = list_all is_of_name (b ∷ bs) && not (is_like_id (b ∷ bs))

-- a name that an object is given, if there is the object and the word may be a name
abbrev pub naming : Option ObjId → List ℕ → Option Naming
naming None word = None
naming (Some o) word = cond (is_name word) (Some (record { object = o; name = word })) None

-- what the words after `#@` say: an object, and its name
abbrev pub naming_of : List (List ℕ) → Option Naming
naming_of (first ∷ word ∷ []) = naming (object_of first) word
naming_of _ = None

-- whether a line that gives a name has that form
abbrev pub is_formed : List ℕ → Bool
is_formed line = elim (name_text line) [ None ↦ true | Some text ↦ is_some (naming_of (words_of text)) ]

-- the name that a line gives, if it gives one
abbrev pub line_names : List ℕ → List Naming
line_names line = elim (name_text line) [ None ↦ [] | Some text ↦ option_to_list (naming_of (words_of text)) ]

-- the names that the lines of a text give, in their order
abbrev pub text_names : List ℕ → List Naming
text_names text = flat_map line_names (lines_of text)

-- the name that an object has after these are given, where it had this one, or none
abbrev pub name_after : Option (List ℕ) → List Naming → ObjId → Option (List ℕ)
name_after last [] o = last
name_after last (g ∷ gs) o = name_after (cond (same g.object o) (Some g.name) last) gs o

-- the name of an object: the last that it was given
abbrev pub name_of : List Naming → ObjId → Option (List ℕ)
name_of gs o = name_after None gs o

-- whether it is this name
abbrev pub is_this : Option (List ℕ) → List ℕ → Bool
is_this None word = false
is_this (Some name) word = bytes_eq name word

-- whether an object was given this name, and has it still
abbrev pub gives : List Naming → List ℕ → Naming → Bool
gives gs word g = bytes_eq g.name word && is_this (name_of gs g.object) word

-- what is named where these objects have a name: the one that all of them are
abbrev pub named_of : List ObjId → Named
named_of [] = named.Nothing
named_of (o ∷ os) = cond (list_all (same o) os) (named.One o) named.Several

-- what a word names
abbrev pub what_named : List Naming → List ℕ → Named
what_named gs word = named_of (map (λ (g : Naming). g.object) (filter (gives gs word) gs))

-- the name that was given as this one, from 0, where its object has it still
abbrev pub given_at : List Naming → ℕ → Option Naming
given_at gs i = elim (slice_get gs i) [ None ↦ None | Some g ↦ cond (is_this (name_of gs g.object) g.name) (Some g) None ]

-- an object and a name that it has, as they are answered
abbrev pub answered : Option (ObjId × Bor (List ℕ)) → Option Naming
answered found = option_map (λ (p : ObjId × Bor (List ℕ)). record { object = p.0; name = p.1.now }) found
