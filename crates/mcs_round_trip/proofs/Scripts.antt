-- Scripts, line after line: what is skipped, and what adds a step.
use Rattle.std.proofs.Common.{◌≡◌, ℕ, ◌+◌, ◌≤◌, true, false, List, [], ◌∷◌, ◌++◌, Some, None, Ok, length, refl, ap, ◌∙◌, append_assoc, length-append, arith}
use Rattle.std.specs.Prelude.{map}
use Rattle.std.proofs.lemmas.Bool.{le-ltb}
use Rattle.mcs_types.specs.declared.entry.Step.{Step}
use Rattle.mcs_types.specs.declared.record.Rec.{Rec}
use Rattle.mcs_book.specs.Boots.{Boot}
use Rattle.mcs_text.specs.Table.{Form, form_line, entry_form, rec_form}
use Rattle.mcs_text.specs.Reading.{words_of, step_of}
use Rattle.mcs_text.proofs.TextBytes.{boot_key-decimal, step_line-first, record_line-first}
use Rattle.mcs_text.proofs.FormWords.{form_rest}
use Rattle.mcs_text.proofs.EntryLines.{step_line-words}
use Rattle.mcs_phases.specs.Script.{Script, of_steps, threads_of, next_items, later_line, by_boot, spelled, is_skipped, read_line, script_from}
use Rattle.mcs_sim.specs.Trace.{sent_with}
use Rattle.mcs_sim.proofs.ScriptLaws.{script_from-ok}
use Rattle.mcs_round_trip.proofs.Lengths.{IsSmall, length-line}
use Rattle.mcs_round_trip.proofs.Lines.{record_forms}

-- ---- lines one after another

-- the lines, of which the first has this number, take one script to another
unfoldable pub Takes : Script Step → ℕ → List (List ℕ) → Script Step → Type 0
Takes s n lines t = (rest : List (List ℕ)) → script_from of_steps s n (lines ++ rest) ≡ script_from of_steps t (n + length lines) rest

-- no line leaves a script as it is
pub takes-none : (s : Script Step) (n : ℕ) → Takes s n [] s
unfolding Takes
takes-none s n rest = let same : n ≡ n + 0 = omega arith in ap (λ (m : ℕ). script_from of_steps s m rest) same

-- one line, by the reader of a line
pub takes-one : (s t : Script Step) (n : ℕ) (line : List ℕ) → read_line of_steps s n line ≡ Ok t → Takes s n (line ∷ []) t
unfolding Takes
takes-one s t n line e rest = script_from-ok of_steps s t n line rest e

-- lines, and then others
pub takes-then : (s t u : Script Step) (n : ℕ) (xs ys : List (List ℕ)) → Takes s n xs t → Takes t (n + length xs) ys u → Takes s n (xs ++ ys) u
unfolding Takes
takes-then s t u n xs ys first second rest =
    let count : n + length xs + length ys ≡ n + length (xs ++ ys) = omega (arith, length-append xs ys) in
    ap (script_from of_steps s n) (append_assoc xs ys rest) ∙ first (ys ++ rest) ∙ second rest ∙ ap (λ (m : ℕ). script_from of_steps u m rest) count

-- ---- one line

-- a line that is within its bounds and skipped
pub read_line-skipped : (s : Script Step) (n : ℕ) (line : List ℕ) → n ≤ 2000000 → length line ≤ 4096 → is_skipped line ≡ true → read_line of_steps s n line ≡ Ok s
unfolding read_line
read_line-skipped s n line few short skipped = rw (le-ltb 2000000 n few, le-ltb 4096 (length line) short, skipped) refl

-- one that is spelled
pub read_line-spelled : (s : Script Step) (n : ℕ) (line : List ℕ) → n ≤ 2000000 → length line ≤ 4096 → is_skipped line ≡ false → read_line of_steps s n line ≡ spelled of_steps s line (words_of line)
unfolding read_line
read_line-spelled s n line few short spelled = rw (le-ltb 2000000 n few, le-ltb 4096 (length line) short, spelled) refl

-- forms of short lines
unfoldable pub AreSmall : List Form → Type 0
AreSmall [] = Unit {0}
AreSmall (f ∷ fs) = IsSmall f × AreSmall fs

-- lines of forms that are skipped leave a script
pub takes-records : (s : Script Step) (n m : ℕ) (rs : List Rec) → AreSmall (record_forms m rs) → n + length rs ≤ 2000001 → Takes s n (map form_line (record_forms m rs)) s
unfolding AreSmall
takes-records s n m [] small few = takes-none s n
takes-records s n m (r ∷ rs) small few =
    takes-then s s s n (form_line (rec_form m r) ∷ []) (map form_line (record_forms (sent_with m r) rs))
    (takes-one s s n (form_line (rec_form m r)) (read_line-skipped s n (form_line (rec_form m r)) (omega arith) (length-line (rec_form m r) small.0) (record_line-first m r)))
    (takes-records s (n + 1) (sent_with m r) rs small.1 (omega arith))

-- ---- a line of a step

-- the script that has a boot and steps
abbrev pub so_far : Boot → List Step → Script Step
so_far b ss = record { boot = Some b; items = ss }

-- a step's line is read as that step
abbrev pub IsStepAgain : Boot → Step → Type 0
IsStepAgain b s = step_of b.cores (threads_of b) (form_line (entry_form s s.entry)) ≡ Ok s

-- a step that is spelled is added
spelled-step : (b : Boot) (ss : List Step) (s : Step) → IsStepAgain b s → spelled of_steps (so_far b ss) (form_line (entry_form s s.entry)) (words_of (form_line (entry_form s s.entry))) ≡ Ok (so_far b (ss ++ s ∷ []))
unfolding spelled by_boot later_line next_items
spelled-step b ss s again =
    let line : List ℕ = form_line (entry_form s s.entry) in
    let words : List (List ℕ) = form_rest (entry_form s s.entry) in
    ap (spelled of_steps (so_far b ss) line) (step_line-words s s.entry) ∙ ap (λ key. by_boot of_steps (Some b) ss line key words) (boot_key-decimal s.core.0) ∙ go ss
  where
    go : (ss : List Step) → later_line step_of b ss (form_line (entry_form s s.entry)) None (form_rest (entry_form s s.entry)) ≡ Ok (so_far b (ss ++ s ∷ []))
    go [] = rw again refl
    go (x ∷ xs) = rw again refl

-- it adds the step
pub read_line-step : (b : Boot) (ss : List Step) (s : Step) (n : ℕ) → n ≤ 2000000 → IsSmall (entry_form s s.entry) → IsStepAgain b s
    → read_line of_steps (so_far b ss) n (form_line (entry_form s s.entry)) ≡ Ok (so_far b (ss ++ s ∷ []))
read_line-step b ss s n few small again =
    read_line-spelled (so_far b ss) n (form_line (entry_form s s.entry)) few (length-line (entry_form s s.entry) small) (step_line-first s s.entry) ∙ spelled-step b ss s again
