-- The strokes of one record more, and of one line more.
use Rattle.std.proofs.Common.{◌≡◌, ℕ, zero, suc, Bool, false, cond, ◌==◌, Some, None, inl, inr, slice_get, reverse, ◌-◌, ◌+◌, ◌<◌, List, [], ◌∷◌, ◌++◌, length, get_or, take, refl, sym, ap, ◌∙◌, arith}
use Rattle.std.proofs.lemmas.List.{take_more, get_or-reverse, length-reverse}
use Rattle.std.proofs.lemmas.Bool.{ne_eqb}
use Rattle.std.proofs.lemmas.Option.{slice_get_cases, slice_get_read, slice_get_within}
use Rattle.mcs_types.specs.declared.record.Rec.{Rec}
use Rattle.mcs_lab_diagram.specs.declared.arrows.Point.{Point}
use Rattle.mcs_types.specs.declared.id.ObjId.{ObjId}
use Rattle.mcs_book.specs.History.{Book, Line, line_of_number}
use Rattle.mcs_lab_diagram.specs.Arrows.{Strokes, with_record, with_records, strokes_of}
use Rattle.mcs_lab_diagram.specs.Drawn.{IsDrawnBefore}

-- what is within a list is there
pub none-past : {X : Type 0} (xs : List X) (i : ℕ) → None ≡ slice_get xs i → i < length xs → ⊥
none-past xs i none lt =
    elim (slice_get_cases xs i).1 [
      | inl there ↦ let both : None ≡ Some there.0 = none ∙ there.2 in cc
      | inr past ↦ omega (arith, past.0)
    ]

-- the record at a number
pub get_or-at : (rs : List Rec) (i : ℕ) (r : Rec) → slice_get rs i ≡ Some r → r ≡ get_or rs i r
get_or-at [] i r at = absurd cc
get_or-at (q ∷ rs) zero r at = let it : q ≡ r = cc in sym it
get_or-at (q ∷ rs) (suc i) r at = get_or-at rs i r at

with_records-end : (here : Point) (s : Strokes) (rs : List Rec) (r : Rec) → with_records here s (rs ++ r ∷ []) ≡ with_record here (with_records here s rs) r
with_records-end here s [] r = refl
with_records-end here s (q ∷ rs) r = with_records-end here (with_record here s q) rs r

-- a record more of a list
pub with_records-next : (here : Point) (s : Strokes) (rs : List Rec) (i : ℕ) (r : Rec) → i < length rs → r ≡ get_or rs i r
    → with_record here (with_records here s (take i rs)) r ≡ with_records here s (take (i + 1) rs)
with_records-next here s rs i r lt at =
    ap (with_record here (with_records here s (take i rs))) at
    ∙ sym (ap (with_records here s) (take_more rs i r lt) ∙ with_records-end here s (take i rs) (get_or rs i r))

-- the same, of the record at a number
pub with_records_at : (here : Point) (s : Strokes) (rs : List Rec) (i : ℕ) (r : Rec) → slice_get rs i ≡ Some r
    → with_record here (with_records here s (take i rs)) r ≡ with_records here s (take (i + 1) rs)
with_records_at here s rs i r at = with_records-next here s rs i r (slice_get_within rs i r at) (get_or-at rs i r at)

-- the newest line is the last
reversed-last : (l : Line) (ls : List Line) → slice_get (reverse (l ∷ ls)) (length ls) ≡ Some l
reversed-last l ls =
    let at : get_or (reverse (l ∷ ls)) (length ls) l ≡ get_or (l ∷ ls) (length (l ∷ ls) - 1 - length ls) l = get_or-reverse (l ∷ ls) (length ls) l (omega arith) in
    let none : length (l ∷ ls) - 1 - length ls ≡ 0 = omega arith in
    slice_get_read (reverse (l ∷ ls)) (length (l ∷ ls)) (length ls) l (sym (length-reverse (l ∷ ls))) (omega arith)
    (sym (at ∙ ap (λ n. get_or (l ∷ ls) n l) none))

same-some : {A : Type 0} (x y : A) → Some x ≡ Some y → x ≡ y
same-some x y e = cc

-- the newest line is the line of its number
newest : (b : Book) (k : Line) (ls : List Line) (row : ℕ) → b.lines ≡ k ∷ ls → row ≡ length (k ∷ ls) → line_of_number b row ≡ Some k
newest b k ls row is count =
    let some : (row == 0) ≡ false = ne_eqb row 0 (λ z. omega (arith, count, z)) in
    let here : row - 1 ≡ length ls = omega (arith, count) in
    ap (λ (c : Bool). cond c None (slice_get (reverse b.lines) (row - 1))) some
    ∙ ap (λ (xs : List Line). slice_get (reverse xs) (row - 1)) is
    ∙ ap (λ n. slice_get (reverse (k ∷ ls)) n) here
    ∙ reversed-last k ls

-- the strokes of the last line more
last-of : (s : Strokes) (t : ObjId) (b : Book) (lines : List Line) (row : ℕ) (l : Line) → b.lines ≡ lines → IsDrawnBefore s t lines → row ≡ length lines
    → line_of_number b row ≡ Some l → with_records (record { row = row; thread = t }) s l.records ≡ strokes_of lines
last-of s t b [] row l is drawn count at = absurd drawn
last-of s t b (k ∷ ls) row l is drawn count at =
    let it : k ≡ l = same-some k l (sym (newest b k ls row is count) ∙ at) in
    let number : row ≡ length ls + 1 = omega (arith, count) in
    ap (λ (x : Line). with_records (record { row = row; thread = t }) s x.records) (sym it)
    ∙ ap (λ (x : Strokes). with_records (record { row = row; thread = t }) x k.records) drawn.0
    ∙ ap (λ (x : ObjId). with_records (record { row = row; thread = x }) (strokes_of ls) k.records) drawn.1
    ∙ ap (λ (n : ℕ). with_records (record { row = n; thread = k.step.thread }) (strokes_of ls) k.records) number

pub drawn_last : (s : Strokes) (t : ObjId) (b : Book) (row : ℕ) (l : Line) → IsDrawnBefore s t b.lines → row ≡ length b.lines
    → line_of_number b row ≡ Some l → with_records (record { row = row; thread = t }) s l.records ≡ strokes_of b.lines
drawn_last s t b row l drawn count at = last-of s t b b.lines row l refl drawn count at

-- a line that is drawn next is there
none-of : (s : Strokes) (t : ObjId) (b : Book) (lines : List Line) (row : ℕ) → b.lines ≡ lines → IsDrawnBefore s t lines → row ≡ length lines → line_of_number b row ≡ None → ⊥
none-of s t b [] row is drawn count none = drawn
none-of s t b (k ∷ ls) row is drawn count none = let both : Some k ≡ None = sym (newest b k ls row is count) ∙ none in cc

pub drawn_none : (s : Strokes) (t : ObjId) (b : Book) (row : ℕ) → IsDrawnBefore s t b.lines → row ≡ length b.lines → line_of_number b row ≡ None → ⊥
drawn_none s t b row drawn count none = none-of s t b b.lines row refl drawn count none
