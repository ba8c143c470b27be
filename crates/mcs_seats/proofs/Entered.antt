-- Calls that are right told what there was to tell.
use Rattle.std.specs.Prelude.{ℕ, Bool, true, false, cond, ◌≡◌, ◌+◌, ◌==◌, if◌then◌else◌, List, [], ◌∷◌, ◌++◌, filter, map, reverse}
use Rattle.std.proofs.Common.{refl, ap, sym, ◌∙◌, arith, append-nil}
use Rattle.std.proofs.lemmas.Bool.Decides.{nat_tests}
use Rattle.std.proofs.lemmas.List.{reverse-append}
use Rattle.std.proofs.lemmas.List.Elements.{filter-append}
use Rattle.mcs_types.specs.declared.id.CoreId.{CoreId}
use Rattle.mcs_book.specs.History.{Book, Line, of_core}
use Rattle.mcs_seats.specs.declared.call.Outcome.{Outcome}
use Rattle.mcs_seats.specs.declared.call.Outcome.TheVariants.{Entered, Away}
use Rattle.mcs_seats.specs.declared.call.Call.{Call}
use Rattle.mcs_seats.specs.Settling.{Note, note_of, notes_of_lines, notes_of, entered_entry, entry_of, IsRightAt, AreRight, notes_after, lines_after, entered_note, outcome_notes, entered_notes}

pub entered-notes : (b : Book) (c : CoreId) (notes : List Note) (lines : ℕ) (xs : List Call) → AreRight b c notes lines xs
    → entered_notes xs ≡ notes
entered-notes b c notes lines [] h = sym h
entered-notes b c notes lines (x ∷ xs) h =
    go x.outcome notes h.0 (entered-notes b c (notes_after x.outcome notes) (lines_after x.outcome) xs h.1)
  where
    go : (o : Outcome) (ns : List Note) → IsRightAt b c ns lines x o → entered_notes xs ≡ notes_after o ns
        → outcome_notes x o ++ entered_notes xs ≡ ns
    go (Entered a) [] right later = absurd cc
    go (Entered a) (n ∷ ns) right later =
        let it : n ≡ entered_note x a = cc in
        ap (λ ms. entered_note x a ∷ ms) later ∙ ap (λ m. m ∷ ns) (sym it)
    go (Away n f) ns right later = later

-- the entries of the core's lines
own-entries : (c : CoreId) (n : ℕ) (ls : List Line)
    → map (entered_entry c) (notes_of_lines c n ls) ≡ map entry_of (filter (λ (l : Line). l.step.core.0 == c.0) ls)
own-entries c n [] = refl
own-entries c n (l ∷ ls) = go (l.step.core.0 == c.0) refl (own-entries c (n + 1) ls)
  where
    p : Line → Bool
    p k = k.step.core.0 == c.0

    same : (l.step.core.0 == c.0) ≡ true → entered_entry c (note_of n l) ≡ entry_of l
    same own =
        let number : l.step.core.0 ≡ c.0 = grind (arith, nat_tests, own) in
        let core : l.step.core ≡ c = ap (λ (k : ℕ). record { 0 = k }) number in
        ap (λ (k : CoreId). (record { core = k; thread = l.step.thread; entry = l.step.entry }, l.answer)) (sym core)

    go : (v : Bool) → (l.step.core.0 == c.0) ≡ v
        → map (entered_entry c) (notes_of_lines c (n + 1) ls) ≡ map entry_of (filter p ls)
        → map (entered_entry c) ((if v then note_of n l ∷ [] else []) ++ notes_of_lines c (n + 1) ls)
        ≡ map entry_of (cond v (l ∷ filter p ls) (filter p ls))
    go true own h = ap (λ e. e ∷ map (entered_entry c) (notes_of_lines c (n + 1) ls)) (same own) ∙ ap (λ es. entry_of l ∷ es) h
    go false own h = h

-- those of a core in the other order
filter-reverse : (p : Line → Bool) (ls : List Line) → filter p (reverse ls) ≡ reverse (filter p ls)
filter-reverse p [] = refl
filter-reverse p (l ∷ ls) =
    ap (λ xs. filter p xs) (reverse-append (l ∷ []) ls)
    ∙ filter-append p (reverse ls) (l ∷ [])
    ∙ go (p l) (filter-reverse p ls)
  where
    go : (v : Bool) → filter p (reverse ls) ≡ reverse (filter p ls)
        → filter p (reverse ls) ++ cond v (l ∷ []) [] ≡ reverse (cond v (l ∷ filter p ls) (filter p ls))
    go true h = ap (λ xs. xs ++ l ∷ []) h ∙ sym (reverse-append (l ∷ []) (filter p ls))
    go false h = append-nil (filter p (reverse ls)) ∙ h

pub entered-entries : (b : Book) (c : CoreId) → map (entered_entry c) (notes_of b c) ≡ map entry_of (reverse (of_core b c))
entered-entries b c =
    own-entries c 1 (reverse b.lines)
    ∙ ap (λ ls. map entry_of ls) (filter-reverse (λ (l : Line). l.step.core.0 == c.0) b.lines)
