-- The lines of a core, and those of the others, are the lines of the book.
use Rattle.std.specs.Prelude.{Bool, true, false, not, cond, ◌==◌, ◌≡◌, ◌≢◌, List, [], ◌∷◌, filter, refl}
use Rattle.std.proofs.Common.{sym, ◌∙◌, ap, inl, inr}
use Rattle.std.proofs.lemmas.Bool.{eq-eqb, eqb-true}
use Rattle.mcs_types.specs.declared.id.CoreId.{CoreId}
use Rattle.mcs_book.specs.History.{Line, Book, of_core}
use Rattle.mcs_book.specs.Merging.{AreOfCore, AreOfOthers, AreMerged, HasLinesOf, IsLineOf}

-- whether a line is of this core
abbrev is_of : CoreId → Line → Bool
is_of core l = l.step.core.0 == core.0

-- a line that passes the test is of the core
of-core : (core : CoreId) (l : Line) → is_of core l ≡ true → l.step.core ≡ core
of-core core l e = λ i. record { 0 = eqb-true l.step.core.0 core.0 e i }

-- a line that fails it is of another
of-other : (core : CoreId) (l : Line) → is_of core l ≡ false → l.step.core ≢ core
of-other core l e same = let clash : true ≡ false = sym (eq-eqb l.step.core.0 core.0 (ap (λ (c : CoreId). c.0) same)) ∙ e in absurd cc

-- the lines of another core
abbrev others_of : CoreId → List Line → List Line
others_of core ls = filter (λ l. not (is_of core l)) ls

-- the lines that are kept are of the core
lines-own : (core : CoreId) (ls : List Line) → AreOfCore core (filter (is_of core) ls)
lines-own core [] = tt
lines-own core (l ∷ ls) = go (is_of core l) refl (lines-own core ls)
  where
    go : (b : Bool) → is_of core l ≡ b → AreOfCore core (filter (is_of core) ls) → AreOfCore core (cond b (l ∷ filter (is_of core) ls) (filter (is_of core) ls))
    go true e h = (of-core core l e, h)
    go false e h = h

-- the others are of others
lines-others : (core : CoreId) (ls : List Line) → AreOfOthers core (others_of core ls)
lines-others core [] = tt
lines-others core (l ∷ ls) = go (is_of core l) refl (lines-others core ls)
  where
    go : (b : Bool) → is_of core l ≡ b → AreOfOthers core (others_of core ls) → AreOfOthers core (cond (not b) (l ∷ others_of core ls) (others_of core ls))
    go true e h = h
    go false e h = (of-other core l e, h)

-- one more line of the first list
merged-first : (l : Line) (ms ns ls : List Line) → AreMerged ms ns ls → AreMerged (l ∷ ms) ns (l ∷ ls)
merged-first l ms [] ls h = (refl, h)
merged-first l ms (b ∷ ns) ls h = inl (refl, h)

-- one more line of the second
merged-second : (l : Line) (ms ns ls : List Line) → AreMerged ms ns ls → AreMerged ms (l ∷ ns) (l ∷ ls)
merged-second l [] ns ls h = (refl, h)
merged-second l (a ∷ ms) ns ls h = inr (refl, h)

-- both together are all lines
lines-merged : (core : CoreId) (ls : List Line) → AreMerged (filter (is_of core) ls) (others_of core ls) ls
lines-merged core [] = tt
lines-merged core (l ∷ ls) = go (is_of core l) (lines-merged core ls)
  where
    go : (b : Bool) → AreMerged (filter (is_of core) ls) (others_of core ls) ls
        → AreMerged (cond b (l ∷ filter (is_of core) ls) (filter (is_of core) ls)) (cond (not b) (l ∷ others_of core ls) (others_of core ls)) (l ∷ ls)
    go true h = merged-first l (filter (is_of core) ls) (others_of core ls) ls h
    go false h = merged-second l (filter (is_of core) ls) (others_of core ls) ls h

-- the law: the lines of a core are those of the book in their order, and none of it is left out
pub core-lines : (b : Book) (core : CoreId) → HasLinesOf b core
core-lines b core = record { own = lines-own core b.lines; others = others_of core b.lines; of_others = lines-others core b.lines; merged = lines-merged core b.lines }

-- a line of the list is among those of its core
line-own : (l : Line) (ls : List Line) → IsLineOf l ls → IsLineOf l (filter (is_of l.step.core) ls)
line-own l [] h = absurd h
line-own l (k ∷ ls) h = go (is_of l.step.core k) refl h (line-own l ls)
  where
    go : (b : Bool) → is_of l.step.core k ≡ b → IsLineOf l (k ∷ ls) → (IsLineOf l ls → IsLineOf l (filter (is_of l.step.core) ls)) → IsLineOf l (cond b (k ∷ filter (is_of l.step.core) ls) (filter (is_of l.step.core) ls))
    go true e (inl same) later = inl same
    go true e (inr i) later = inr (later i)
    go false e (inl same) later = let clash : true ≡ false = sym (eq-eqb k.step.core.0 l.step.core.0 (ap (λ (z : Line). z.step.core.0) (sym same))) ∙ e in absurd cc
    go false e (inr i) later = later i

-- the law: each line of a book is among the lines of its core
pub own-core : (b : Book) (l : Line) → IsLineOf l b.lines → IsLineOf l (of_core b l.step.core)
own-core b l h = line-own l b.lines h
