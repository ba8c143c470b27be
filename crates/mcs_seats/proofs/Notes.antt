-- What is reported to a core about the lines of a book, from one line on.
use Rattle.std.specs.Prelude.{ℕ, ◌≡◌, ◌<◌, ◌≤◌, ◌+◌, ◌-◌, ◌==◌, Bool, true, false, if◌then◌else◌, List, [], ◌∷◌, ◌++◌, length, drop, reverse, Some}
use Rattle.std.proofs.Common.{refl, ap, sym, ◌∙◌, arith}
use Rattle.std.proofs.lemmas.List.{drop_all, drop_more, length-drop, length-reverse}
use Rattle.std.proofs.lemmas.Option.{slice_get_within, get_or_from_slice_get}
use Rattle.mcs_types.specs.declared.id.CoreId.{CoreId}
use Rattle.mcs_book.specs.History.{Book, Line, line_of_number}
use Rattle.mcs_seats.specs.Settling.{Note, note_of, own_note, notes_of_lines, notes_from, next_line}
use Rattle.mcs_seats.proofs.Cutting.{numbered, one-on}

-- a line more
pub notes-step : (b : Book) (c : CoreId) (at : ℕ) (l : Line) → 1 ≤ at → line_of_number b at ≡ Some l
    → notes_from b c at ≡ own_note c at l ++ notes_from b c (at + 1)
notes-step b c at l some e =
    let ls : List Line = reverse b.lines in
    let is = sym (numbered b at some) ∙ e in
    ap (λ xs. notes_of_lines c at xs) (drop_more ls (at - 1) l (slice_get_within ls (at - 1) l is))
    ∙ ap (λ x. own_note c at x ++ notes_of_lines c (at + 1) (drop (at - 1 + 1) ls)) (get_or_from_slice_get ls (at - 1) l l is)
    ∙ ap (λ k. own_note c at l ++ notes_of_lines c (at + 1) (drop k ls)) (one-on at some)

-- one of another core
pub notes-foreign : (b : Book) (c : CoreId) (at : ℕ) (l : Line) → 1 ≤ at → line_of_number b at ≡ Some l
    → (l.step.core.0 == c.0) ≡ false
    → notes_from b c at ≡ notes_from b c (at + 1)
notes-foreign b c at l some e other = notes-step b c at l some e ∙ rw other refl

-- one of its own
pub notes-own : (b : Book) (c : CoreId) (at : ℕ) (l : Line) → 1 ≤ at → line_of_number b at ≡ Some l
    → (l.step.core.0 == c.0) ≡ true
    → notes_from b c at ≡ note_of at l ∷ notes_from b c (at + 1)
notes-own b c at l some e own = notes-step b c at l some e ∙ rw own refl

-- after the last line there is no note
pub notes-none : (b : Book) (c : CoreId) (at : ℕ) → length b.lines < at → notes_from b c at ≡ []
notes-none b c at past =
    let whole = length-reverse b.lines in
    ap (λ ls. notes_of_lines c at ls) (drop_all (at - 1) (reverse b.lines) (omega (arith, past, whole)))

-- the next line of lines, of which the first has this number
abbrev AtOrAfter : ℕ → ℕ → List Note → Type 0
AtOrAfter n end [] = Unit {0}
AtOrAfter n end (x ∷ xs) = (n ≤ x.line) × (x.line < end)

at-or-after : (c : CoreId) (n : ℕ) (ls : List Line) (end : ℕ) → n + length ls ≤ end → AtOrAfter n end (notes_of_lines c n ls)
at-or-after c n [] end le = tt
at-or-after c n (l ∷ ls) end le = go (l.step.core.0 == c.0) (at-or-after c (n + 1) ls end (omega (arith, le)))
  where
    later : (xs : List Note) → AtOrAfter (n + 1) end xs → AtOrAfter n end xs
    later [] h = tt
    later (x ∷ xs) h = (omega (arith, h.0), h.1)

    go : (v : Bool) → AtOrAfter (n + 1) end (notes_of_lines c (n + 1) ls)
        → AtOrAfter n end ((if v then note_of n l ∷ [] else []) ++ notes_of_lines c (n + 1) ls)
    go true h = (omega arith, omega (arith, le))
    go false h = later (notes_of_lines c (n + 1) ls) h

-- the bounds of the next line's number
pub record IsBounded (b : Book) (notes : List Note) (at : ℕ) : Type 0 where
  pub least : at ≤ next_line b notes
  pub most : next_line b notes ≤ length b.lines + 1

pub notes-bounded : (b : Book) (c : CoreId) (at : ℕ) → 1 ≤ at → at ≤ length b.lines + 1 → IsBounded b (notes_from b c at) at
notes-bounded b c at some few =
    go (notes_from b c at) (at-or-after c at (drop (at - 1) (reverse b.lines)) (length b.lines + 1) short)
  where
    short : at + length (drop (at - 1) (reverse b.lines)) ≤ length b.lines + 1
    short = omega (arith, length-drop (at - 1) (reverse b.lines), length-reverse b.lines, few, some)

    go : (xs : List Note) → AtOrAfter at (length b.lines + 1) xs → IsBounded b xs at
    go [] h = record { least = few; most = omega arith }
    go (x ∷ xs) h = record { least = h.0; most = omega (arith, h.1) }
