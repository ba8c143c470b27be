-- How many links of chains differ: those of places, and the tops of contexts.
use Rattle.std.specs.Prelude.{ℕ, ◌+◌, ◌==◌, ◌&&◌, Bool, true, false, cond, List, [], ◌∷◌, length, Option, Some, None}
use Rattle.mcs_types.specs.Ids.{same}
use Rattle.mcs_replies.specs.declared.links.Link.{Link}
use Rattle.mcs_replies.specs.declared.tops.Top.{Top}
use Rattle.mcs_replies.specs.Places.{place_number}
use Rattle.mcs_replies.specs.Tops.{TopRows, is_for}

abbrev pub same_place : Option ℕ → Option ℕ → Bool
same_place None None = true
same_place None (Some b) = false
same_place (Some a) None = false
same_place (Some a) (Some b) = a == b

abbrev pub same_link : Option Link → Option Link → Bool
same_link None None = true
same_link None (Some m) = false
same_link (Some l) None = false
same_link (Some l) (Some m) = same l.context m.context && same l.reply m.reply && same_place (place_number l.above) (place_number m.above) && same_place (place_number l.below) (place_number m.below)

abbrev pub same_top : Top → Top → Bool
same_top x y = is_for y.context x && (x.top.0 == y.top.0)

abbrev pub same_row : Option Top → Option Top → Bool
same_row None None = true
same_row None (Some y) = false
same_row (Some x) None = false
same_row (Some x) (Some y) = same_top x y

-- how many members of two lists differ, place by place
abbrev pub differences : {A : Type 0} → (A → A → Bool) → List A → List A → ℕ
differences f [] [] = 0
differences f [] (y ∷ ys) = 1 + differences f [] ys
differences f (x ∷ xs) [] = 1 + differences f xs []
differences f (x ∷ xs) (y ∷ ys) = cond (f x y) 0 1 + differences f xs ys

-- how many rows that are not at home went, came, or have another top, where what stays keeps its
-- order
abbrev pub row_changes : List Top → List Top → ℕ
row_changes [] ys = length ys
row_changes (x ∷ xs) [] = 1 + row_changes xs []
row_changes (x ∷ xs) (y ∷ ys) = cond (same_top x y) (row_changes xs ys) (cond (is_for y.context x) (1 + row_changes xs ys) (1 + row_changes xs (y ∷ ys)))

-- how many rows of tops differ
abbrev pub top_changes : TopRows → TopRows → ℕ
top_changes ts us = differences same_row ts.homes us.homes + row_changes ts.others us.others

-- how many links differ: those of places, and the tops of contexts
abbrev pub changes : List (Option Link) → TopRows → List (Option Link) → TopRows → ℕ
changes ls ts ms us = differences same_link ls ms + top_changes ts us
