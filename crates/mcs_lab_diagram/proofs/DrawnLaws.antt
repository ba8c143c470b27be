-- What is drawn of a book with a line more.
use Rattle.std.proofs.Common.{◌≡◌, ℕ, Bool, true, false, Option, Some, None, List, [], ◌∷◌, ◌++◌, refl, sym, ap, ◌∙◌, subst}
use Rattle.mcs_types.specs.declared.id.ObjId.{ObjId}
use Rattle.mcs_types.specs.declared.entry.Step.{Step}
use Rattle.mcs_book.specs.Logs.{Log}
use Rattle.mcs_book.specs.Boots.{Boot, boot_log}
use Rattle.mcs_book.specs.History.{Book, Line, past, log_of, with_step}
use Rattle.mcs_kernel.specs.declared.fault.EnterFault.{EnterFault}
use Rattle.mcs_kernel.specs.Faults.{fault_of, entered}
use Rattle.mcs_kernel.specs.Runs.{is_book_full}
use Rattle.mcs_kernel.proofs.Stepping.{step-taken, turned-away}
use Rattle.mcs_lab_diagram.specs.declared.looks.Look.{Look}
use Rattle.mcs_lab_diagram.specs.Arrows.{Strokes, no_strokes, strokes_of}
use Rattle.mcs_lab_diagram.specs.Looks.{looks_in, looks_of, looks_before}
use Rattle.mcs_lab_diagram.specs.Picks.{AddsPicks, ArePicks, ArePicksBefore}
use Rattle.mcs_lab_diagram.specs.Drawn.{AreDrawn, IsDrawnBefore, AreDrawnBefore}

-- what was drawn of a book is what was drawn before a step that is accepted
pub drawn_before : (s : Strokes) (looks : List Look) (picks : List (Option ObjId)) (b c : Book) (step : Step) → AreDrawn s looks picks b → c ≡ entered b step
    → AreDrawnBefore s looks picks step.thread c
drawn_before s looks picks b c step drawn is =
    subst (λ (x : Book). AreDrawnBefore s looks picks step.thread x) (sym is) (record { strokes = (drawn.strokes, refl); looks = drawn.looks; picks = drawn.picks })

looks-row : (B : Log) (s : Strokes) (t : ObjId) (ls : List Line) (old : List Look) → IsDrawnBefore s t ls → old ≡ looks_before B ls → old ++ looks_in (past B ls) ≡ looks_of B ls
looks-row B s t [] old before e = absurd before
looks-row B s t (l ∷ ls) old before e = ap (λ (x : List Look). x ++ looks_in (past B (l ∷ ls))) e

picks-row : (cores : ℕ) (B : Log) (ls : List Line) (old new : List (Option ObjId)) → ArePicksBefore cores B ls old → AddsPicks (past B ls) cores old new → ArePicks cores B ls new
picks-row cores B [] old new before row = absurd before
picks-row cores B (l ∷ ls) old new before row = (old, before, row)

-- a row more
pub drawn_row : (s t : Strokes) (old new : List Look) (picks more : List (Option ObjId)) (u : ObjId) (b : Book) → AreDrawnBefore s old picks u b → t ≡ strokes_of b.lines
    → new ≡ old ++ looks_in (log_of b) → AddsPicks (log_of b) b.boot.cores picks more → AreDrawn t new more b
drawn_row s t old new picks more u b before strokes looks row =
    record {
      strokes = strokes;
      looks = looks ∙ looks-row (boot_log b.boot.lines) s u b.lines old before.strokes before.looks;
      picks = picks-row b.boot.cores (boot_log b.boot.lines) b.lines picks more before.picks row;
    }

-- the boot alone
pub drawn_boot : (s : Strokes) (looks : List Look) (picks : List (Option ObjId)) (boot : Boot) (b : Book) → s ≡ no_strokes → looks ≡ [] ++ looks_in (log_of b)
    → AddsPicks (log_of b) b.boot.cores [] picks → b ≡ record { boot = boot; lines = [] } → AreDrawn s looks picks b
drawn_boot s looks picks boot b strokes row picked is =
    subst (λ (x : Book). AreDrawn s looks picks x) (sym is) (record {
      strokes = strokes;
      looks = row ∙ ap (λ (x : Book). looks_in (log_of x)) is;
      picks = subst (λ (x : Book). AddsPicks (log_of x) x.boot.cores [] picks) is picked;
    })

-- a step that may enter
pub step_let_in : (b : Book) (s : Step) → fault_of b s.core s.thread ≡ None → with_step b s ≡ entered b s
step_let_in b s none = step-taken b s none

abbrev stepped : Book → Step → Bool → Book
stepped b s v = elim v [ true ↦ entered b s | false ↦ b ]

-- a step that may not, and not because the book is full
pub step_turned : (b : Book) (s : Step) (f : EnterFault) → fault_of b s.core s.thread ≡ Some f → is_book_full (Some f) ≡ false → with_step b s ≡ b
step_turned b s f fault other = ap (λ v. stepped b s v) (turned-away b s.core s.thread f fault other)

-- what is drawn of the same book
pub drawn_same : (s t : Strokes) (old new : List Look) (picks more : List (Option ObjId)) (b c : Book) → AreDrawn s old picks b → t ≡ s → new ≡ old → more ≡ picks → c ≡ b → AreDrawn t new more c
drawn_same s t old new picks more b c drawn strokes looks same book =
    subst (λ (x : Book). AreDrawn t new more x) (sym book) (record {
      strokes = strokes ∙ drawn.strokes;
      looks = looks ∙ drawn.looks;
      picks = subst (λ (x : List (Option ObjId)). ArePicks b.boot.cores (boot_log b.boot.lines) b.lines x) (sym same) drawn.picks;
    })
