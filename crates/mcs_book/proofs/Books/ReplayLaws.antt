-- A legal book is the book of its steps, and the book of any steps in range is legal.
use Rattle.std.specs.Prelude.{Bool, true, false, ◌≡◌, List, [], ◌∷◌, ◌++◌, refl, map, reverse, fold}
use Rattle.std.proofs.Common.{ap, sym, ◌∙◌}
use Rattle.std.proofs.lemmas.List.{reverse-append}
use Rattle.mcs_types.specs.declared.entry.Step.{Step}
use Rattle.mcs_book.specs.Boots.{Boot, boot_log, IsFaultless}
use Rattle.mcs_book.specs.Statuses.{may_enter}
use Rattle.mcs_book.specs.Pieces.{Outcome}
use Rattle.mcs_types.specs.Ranges.{InRange}
use Rattle.mcs_book.specs.Table.{does}
use Rattle.mcs_book.specs.History.{Line, Book, log_of, AreLegal, IsLegal, AllInRange, steps_of, line_for, with_step, book_of}

-- a last step comes last
fold-end : (b : Book) (ss : List Step) (s : Step) → fold with_step b (ss ++ s ∷ []) ≡ with_step (fold with_step b ss) s
fold-end b [] s = refl
fold-end b (r ∷ ss) s = fold-end (with_step b r) ss s

-- a line that may follow is the one that its step adds
step-adds : (b : Book) (l : Line) → may_enter (log_of b) l.step.core l.step.thread ≡ true
    → l.answer ≡ (does (log_of b) l.step.core l.step.thread l.step.entry).answer → l.records ≡ (does (log_of b) l.step.core l.step.thread l.step.entry).records
    → with_step b l.step ≡ record b { lines = l ∷ b.lines }
step-adds b l enters answer records = go (may_enter (log_of b) l.step.core l.step.thread) enters
  where
    o : Outcome
    o = does (log_of b) l.step.core l.step.thread l.step.entry

    go : (c : Bool) → c ≡ true → (elim c [ true ↦ record b { lines = line_for l.step o ∷ b.lines } | false ↦ b ]) ≡ record b { lines = l ∷ b.lines }
    go true e = λ i. record b { lines = (record { step = l.step; answer = sym answer i; records = sym records i }) ∷ b.lines }
    go false e = absurd cc

-- legal lines are those of their steps
lines-replayed : (boot : Boot) (ls : List Line) → AreLegal (boot_log boot.lines) ls → fold with_step (record { boot = boot; lines = [] }) (steps_of (record { boot = boot; lines = ls })) ≡ record { boot = boot; lines = ls }
lines-replayed boot [] h = refl
lines-replayed boot (l ∷ ls) h =
    ap (fold with_step (record { boot = boot; lines = [] })) (reverse-append (l.step ∷ []) (map (λ (k : Line). k.step) ls))
    ∙ fold-end (record { boot = boot; lines = [] }) (reverse (map (λ (k : Line). k.step) ls)) l.step
    ∙ ap (λ b. with_step b l.step) (lines-replayed boot ls h.1)
    ∙ step-adds (record { boot = boot; lines = ls }) l h.0.enters h.0.answer h.0.records

-- the law: replaying a legal book's steps gives the book
pub legal-replayed : (b : Book) → IsLegal b → book_of b.boot (steps_of b) ≡ b
unfolding book_of
legal-replayed b h = lines-replayed b.boot b.lines h.lines

-- a step keeps a book legal
step-legal : (b : Book) (s : Step) → InRange s.entry → IsLegal b → IsLegal (with_step b s)
step-legal b s in_range h = go (may_enter (log_of b) s.core s.thread) refl
  where
    o : Outcome
    o = does (log_of b) s.core s.thread s.entry

    go : (c : Bool) → may_enter (log_of b) s.core s.thread ≡ c → IsLegal (elim c [ true ↦ record b { lines = line_for s o ∷ b.lines } | false ↦ b ])
    go true e = record { boot = h.boot; lines = (record { enters = e; in_range = in_range; answer = refl; records = refl }, h.lines) }
    go false e = h

-- so do all steps
steps-legal : (b : Book) (ss : List Step) → AllInRange ss → IsLegal b → IsLegal (fold with_step b ss)
steps-legal b [] r h = h
steps-legal b (s ∷ ss) r h = steps-legal (with_step b s) ss r.1 (step-legal b s r.0 h)

-- the law: the book of any steps in range, after a boot without fault, is legal
pub replayed-legal : (boot : Boot) (ss : List Step) → IsFaultless boot → AllInRange ss → IsLegal (book_of boot ss)
unfolding book_of
replayed-legal boot ss faultless r = steps-legal (record { boot = boot; lines = [] }) ss r (record { boot = faultless; lines = tt })
