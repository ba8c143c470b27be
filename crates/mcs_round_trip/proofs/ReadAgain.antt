-- The trace of a legal book, read again, gives its boot and its steps.
use Rattle.std.specs.Prelude.{ℕ, ◌+◌, ◌≤◌, ◌≡◌, List, [], ◌∷◌, Option, Some, None, length, map, reverse}
use Rattle.std.proofs.Common.{◌∙◌, ap, length-append, arith}
use Rattle.std.proofs.lemmas.List.{length-map, length-reverse}
use Rattle.mcs_book.specs.Boots.{Boot}
use Rattle.mcs_book.specs.History.{Line, Book, steps_of}
use Rattle.mcs_text.specs.Table.{Form, form_line, cores_form, boot_form}
use Rattle.mcs_text.specs.Reading.{lines_of}
use Rattle.mcs_sim.specs.Trace.{trace}
use Rattle.mcs_types.specs.declared.entry.Step.{Step}
use Rattle.mcs_text.specs.declared.fault.LineFault.{LineFault}
use Rattle.mcs_phases.specs.Script.{Script, steps}
use Rattle.mcs_sim.specs.Runs.{script_trace, written_by, written}
use Rattle.mcs_book.proofs.Books.ReplayLaws.{legal-replayed}
use Rattle.mcs_round_trip.specs.Readable.{IsReadable}
use Rattle.mcs_round_trip.proofs.Lines.{lines_forms, trace_forms, lines_of-trace}
use Rattle.mcs_round_trip.proofs.WholeTraces.{IsAgain, AreLinesAgain, trace-again}
use Rattle.mcs_round_trip.proofs.SmallLines.{AreSmallLines, small-legal}
use Rattle.mcs_round_trip.proofs.StepsAgain.{AreStepsAgain, steps-again}
use Rattle.mcs_round_trip.proofs.BootsAgain.{boots-again, cores-again}

-- lines whose steps are read again, and whose forms have few words
lines-again : (b : Boot) (ls : List Line) → AreStepsAgain b ls → AreSmallLines ls → AreLinesAgain b ls
unfolding AreStepsAgain AreSmallLines AreLinesAgain
lines-again b [] again small = tt
lines-again b (l ∷ ls) again small = (record { step = again.0; small = small.0 }, lines-again b ls again.1 small.1)

-- a trace has more lines than its boot
boot-few : (b : Book) → length b.boot.lines ≤ length (lines_of (trace b))
boot-few b =
    let boots : List Form = cores_form b.boot.cores ∷ map boot_form (reverse b.boot.lines) in
    let all : length (lines_of (trace b)) ≡ length boots + length (lines_forms 0 (reverse b.lines)) = ap length (lines_of-trace b) ∙ length-map (trace_forms b) form_line ∙ length-append boots (lines_forms 0 (reverse b.lines)) in
    let count : length (map boot_form (reverse b.boot.lines)) ≡ length b.boot.lines = length-map (reverse b.boot.lines) boot_form ∙ length-reverse b.boot.lines in
    omega (arith, all, count)

-- the trace of such a book gives its boot and its steps
pub legal-again : (b : Book) → IsReadable b → steps (trace b) ≡ (record { boot = Some b.boot; items = steps_of b }, None)
legal-again b is =
    let few : length b.boot.lines ≤ 2000000 = omega (arith, boot-few b, is.short) in
    let again : IsAgain b = record {
      cores = cores-again b.boot.cores is.legal.boot.some_core is.legal.boot.few_cores;
      boot = boots-again b.boot.cores b.boot.lines is.legal.boot few;
      lines = lines-again b.boot b.lines (steps-again b.boot b.lines is.legal few) (small-legal b is.legal);
    } in
    trace-again b again is.short

-- and so it is written again
pub legal-written : (b : Book) → IsReadable b → written (trace b) ≡ trace b
unfolding script_trace written
legal-written b is = ap (λ (r : Script Step × Option (ℕ × LineFault)). written_by r.0 r.1) (legal-again b is) ∙ ap trace (legal-replayed b is.legal)
