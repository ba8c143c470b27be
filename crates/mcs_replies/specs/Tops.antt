-- The tops of chains, a row for each chain that is not empty. No public clause cites this module.
use Rattle.std.specs.Prelude.{ℕ, ◌≡◌, ◌%◌, Bool, true, false, cond, List, [], ◌∷◌, length, slice_index_or, slice_set, Option, Some, None, is_none}
use Rattle.std.specs.List.{list_any}
use Rattle.mcs_types.specs.declared.id.ObjId.{ObjId}
use Rattle.mcs_types.specs.Ids.{same}
use Rattle.mcs_types.specs.Limits.{object_limit}
use Rattle.mcs_replies.specs.declared.tops.Top.{Top}
use Rattle.mcs_replies.specs.Places.{place_at_number}

-- the rows at their homes, and the others
pub record TopRows : Type 0 where
  pub homes : List (Option Top)
  pub others : List Top

-- whether a row is of a context
abbrev pub is_for : ObjId → Top → Bool
is_for s x = same x.context s

-- the top of a chain whose row is among others
abbrev pub top_among : List Top → ObjId → Option ℕ
top_among [] s = None
top_among (x ∷ xs) s = cond (is_for s x) (Some x.top.0) (top_among xs s)

-- no context has two rows among others
abbrev pub AreSingle : List Top → Type 0
AreSingle [] = Unit {0}
AreSingle (x ∷ xs) = (list_any (is_for x.context) xs ≡ false) × AreSingle xs

-- a row
abbrev pub row_of : ObjId → ℕ → List Top
row_of s p = record { context = s; top = place_at_number p } ∷ []

-- the others with this top of s
abbrev pub entered_among : ObjId → ℕ → List Top → List Top
entered_among s p [] = record { context = s; top = place_at_number p } ∷ []
entered_among s p (x ∷ xs) = cond (is_for s x) (record x { top = place_at_number p } ∷ xs) (x ∷ entered_among s p xs)

-- the others without the row of s
abbrev pub left_among : ObjId → List Top → List Top
left_among s [] = []
left_among s (x ∷ xs) = cond (is_for s x) xs (x ∷ left_among s xs)

-- where the row of a context is at home
abbrev pub home : ObjId → ℕ
home s = s.serial % object_limit

-- the row at the home of s
abbrev pub home_row : TopRows → ObjId → Option Top
home_row ts s = slice_index_or ts.homes (home s) None

-- whether a row at a home is that of s
abbrev pub is_row_of : Option Top → ObjId → Bool
is_row_of None s = false
is_row_of (Some x) s = is_for s x

-- whether the row of s is at home
abbrev pub is_home : TopRows → ObjId → Bool
is_home ts s = is_row_of (home_row ts s) s

-- the top in a row if that is of s, else another
abbrev pub top_or : Option Top → ObjId → Option ℕ → Option ℕ
top_or None s o = o
top_or (Some x) s o = cond (is_for s x) (Some x.top.0) o

-- the top of the chain of a context
abbrev pub top_at : TopRows → ObjId → Option ℕ
top_at ts s = top_or (home_row ts s) s (top_among ts.others s)

-- whether a row of s, with that top among the others, is to be at a home where that row is
abbrev pub takes : Option Top → ObjId → Option ℕ → Bool
takes None s o = is_none o
takes (Some x) s o = is_for s x

abbrev pub takes_home : TopRows → ObjId → Bool
takes_home ts s = takes (home_row ts s) s (top_among ts.others s)

-- the rows with another one, or none, at the home of s
abbrev pub with_home : ObjId → Option Top → TopRows → TopRows
with_home s row ts = record ts { homes = slice_set ts.homes (home s) row }

-- the rows with this top of s
abbrev pub entered : ObjId → ℕ → TopRows → TopRows
entered s p ts = cond (takes_home ts s) (with_home s (Some (record { context = s; top = place_at_number p })) ts) (record ts { others = entered_among s p ts.others })

-- the rows without that of s
abbrev pub left : ObjId → TopRows → TopRows
left s ts = cond (is_home ts s) (with_home s None ts) (record ts { others = left_among s ts.others })

-- the rows with another top of s, or with none
abbrev pub moved : ObjId → Option ℕ → TopRows → TopRows
moved s None ts = left s ts
moved s (Some p) ts = entered s p ts

-- each home has its place, and no context has two rows
pub record AreTops (ts : TopRows) : Type 0 where
  pub homes : length ts.homes ≡ object_limit
  pub single : AreSingle ts.others
  pub apart : (s : ObjId) → is_home ts s ≡ true → top_among ts.others s ≡ None
