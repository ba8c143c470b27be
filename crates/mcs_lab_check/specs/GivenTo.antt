-- The objects that have each name.
use Rattle.std.specs.Prelude.{◌≡◌, ℕ, ◌-◌, Bool, false, not, cond, List, [], ◌∷◌, ◌++◌, length, take, Option, Some, None, bytes_eq, unwrap_or}
use Rattle.std.specs.List.{filter, list_any}
use Rattle.std.specs.Map.{lookup}
use Rattle.mcs_types.specs.declared.id.ObjId.{ObjId}
use Rattle.mcs_types.specs.Ids.{same}
use Rattle.mcs_lab_check.specs.declared.names.Named.{Named}
use Rattle.mcs_lab_check.specs.declared.names.Named.TheVariants as named
use Rattle.mcs_lab_check.specs.Naming.{Naming, is_this, name_of}
use Rattle.mcs_lab_check.specs.NamesHad.{name_in}

-- the objects that have a name, in a table by names
abbrev pub given_to : List (List ℕ × List ObjId) → List ℕ → List ObjId
given_to lists name = unwrap_or (lookup (bytes_eq name) lists) []

-- the objects of a name after those, when one more is given this name
abbrev pub with_last : List ℕ → ObjId → List ObjId → List ℕ → List ObjId
with_last given object before name = cond (bytes_eq given name) (before ++ object ∷ []) before

-- the objects of a name without the last, where it is this name
abbrev pub but_last : List ℕ → List ObjId → List ℕ → List ObjId
but_last given before name = cond (bytes_eq given name) (take (length before - 1) before) before

-- objects without one
abbrev pub without_object : ObjId → List ObjId → List ObjId
without_object object os = filter (λ (o : ObjId). not (same object o)) os

-- the objects of a name without one, where it is this name
abbrev pub without : List ℕ → ObjId → List ObjId → List ℕ → List ObjId
without given object before name = cond (bytes_eq given name) (without_object object before) before

-- and where it is the name that an object had, if it had one
abbrev pub without_maybe : Option (List ℕ) → ObjId → List ObjId → List ℕ → List ObjId
without_maybe None object before name = before
without_maybe (Some had) object before name = without had object before name

-- the objects of a name when one that had another name is given a name
abbrev pub moved : Option (List ℕ) → List ℕ → ObjId → List ObjId → List ℕ → List ObjId
moved had given object before name = without_maybe had object (with_last given object before name) name

-- the objects of a name when one is given a name, which may be the one that it has
abbrev pub renamed : Option (List ℕ) → List ℕ → ObjId → List ObjId → List ℕ → List ObjId
renamed had given object before name = cond (is_this had given) before (moved had given object before name)

-- whether an object is among these
abbrev pub is_among : List ObjId → ObjId → Bool
is_among os o = list_any (same o) os

-- none of these stands among them twice
abbrev pub AreApart : List ObjId → Type 0
AreApart [] = Unit {0}
AreApart (o ∷ os) = (is_among os o ≡ false) × AreApart os

-- what is named by the objects that have a name
abbrev pub named_by : List ObjId → Named
named_by [] = named.Nothing
named_by (o ∷ []) = named.One o
named_by (o ∷ p ∷ os) = named.Several

-- the tables of the names given: by object, and by name the objects that have it now, each once
pub record AreIndexed (latest : List (ℕ × List ℕ)) (by_name : List (List ℕ × List ObjId)) (gs : List Naming) : Type 0 where
  pub names : (o : ObjId) → name_in latest o ≡ name_of gs o
  pub objects : (name : List ℕ) (o : ObjId) → is_among (given_to by_name name) o ≡ is_this (name_of gs o) name
  pub apart : (name : List ℕ) → AreApart (given_to by_name name)
