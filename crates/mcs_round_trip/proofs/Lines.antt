-- The lines of a trace: each is that of a form.
use Rattle.std.proofs.Common.{◌≡◌, ℕ, List, [], ◌∷◌, ◌++◌, refl, sym, ap, ◌∙◌, append_assoc}
use Rattle.std.specs.Prelude.{map, reverse}
use Rattle.std.specs.List.{flat_map}
use Rattle.std.proofs.lemmas.List.Concat.{flat_map-cons}
use Rattle.std.proofs.lemmas.List.Folds.{flat_map-map}
use Rattle.std.proofs.lemmas.Grind.{flat_map-append}
use Rattle.mcs_types.specs.declared.record.Rec.{Rec}
use Rattle.mcs_book.specs.History.{Line, Book}
use Rattle.mcs_text.specs.Table.{Form, form_text, form_line, cores_form, boot_form, entry_form, answer_form, rec_form, record_text}
use Rattle.mcs_text.specs.Reading.{lines_of}
use Rattle.mcs_text.proofs.TextBytes.{lines_of-form}
use Rattle.mcs_sim.specs.Trace.{sent_with, sent_after, records_trace, line_trace, lines_trace, boot_lines_trace, trace}

-- the lines of a text of forms
lines_of-forms : (fs : List Form) → lines_of (flat_map form_text fs) ≡ map form_line fs
lines_of-forms [] = refl
lines_of-forms (f ∷ fs) = ap lines_of (flat_map-cons form_text f fs) ∙ lines_of-form f (flat_map form_text fs) ∙ ap (λ (ls : List (List ℕ)). form_line f ∷ ls) (lines_of-forms fs)

-- ---- traces

-- the forms of records, before which this many messages were sent
abbrev pub record_forms : ℕ → List Rec → List Form
record_forms n [] = []
record_forms n (r ∷ rs) = rec_form n r ∷ record_forms (sent_with n r) rs

-- the forms of a line of the book
abbrev pub line_forms : ℕ → Line → List Form
line_forms n l = entry_form l.step l.step.entry ∷ answer_form l.answer ∷ record_forms n l.records

-- the forms of lines of the book
abbrev pub lines_forms : ℕ → List Line → List Form
lines_forms n [] = []
lines_forms n (l ∷ ls) = line_forms n l ++ lines_forms (sent_after n l.records) ls

-- the forms of a trace
abbrev pub trace_forms : Book → List Form
trace_forms b = cores_form b.boot.cores ∷ map boot_form (reverse b.boot.lines) ++ lines_forms 0 (reverse b.lines)

-- the text of records is that of their forms
records_trace-forms : (n : ℕ) (rs : List Rec) → records_trace n rs ≡ flat_map form_text (record_forms n rs)
records_trace-forms n [] = refl
records_trace-forms n (r ∷ rs) = ap (λ (t : List ℕ). record_text n r ++ t) (records_trace-forms (sent_with n r) rs) ∙ sym (flat_map-cons form_text (rec_form n r) (record_forms (sent_with n r) rs))

-- so is that of a line of the book
line_trace-forms : (n : ℕ) (l : Line) → line_trace n l ≡ flat_map form_text (line_forms n l)
line_trace-forms n l =
    let rs : List Form = record_forms n l.records in
    append_assoc (form_text (entry_form l.step l.step.entry)) (form_text (answer_form l.answer)) (records_trace n l.records)
    ∙ ap (λ (t : List ℕ). form_text (entry_form l.step l.step.entry) ++ (form_text (answer_form l.answer) ++ t)) (records_trace-forms n l.records)
    ∙ ap (λ (t : List ℕ). form_text (entry_form l.step l.step.entry) ++ t) (sym (flat_map-cons form_text (answer_form l.answer) rs))
    ∙ sym (flat_map-cons form_text (entry_form l.step l.step.entry) (answer_form l.answer ∷ rs))

-- so is that of lines of the book
lines_trace-forms : (n : ℕ) (ls : List Line) → lines_trace n ls ≡ flat_map form_text (lines_forms n ls)
lines_trace-forms n [] = refl
lines_trace-forms n (l ∷ ls) =
    ap (λ (t : List ℕ). t ++ lines_trace (sent_after n l.records) ls) (line_trace-forms n l)
    ∙ ap (λ (t : List ℕ). flat_map form_text (line_forms n l) ++ t) (lines_trace-forms (sent_after n l.records) ls)
    ∙ sym (flat_map-append form_text (line_forms n l) (lines_forms (sent_after n l.records) ls))

-- a trace is the text of its forms
pub trace-forms : (b : Book) → trace b ≡ flat_map form_text (trace_forms b)
unfolding trace
trace-forms b =
    let boot : List Form = map boot_form (reverse b.boot.lines) in
    let lines : List Form = lines_forms 0 (reverse b.lines) in
    let first : form_text (cores_form b.boot.cores) ++ boot_lines_trace (reverse b.boot.lines) ≡ flat_map form_text (cores_form b.boot.cores ∷ boot)
    = ap (λ (t : List ℕ). form_text (cores_form b.boot.cores) ++ t) (sym (flat_map-map form_text boot_form (reverse b.boot.lines))) ∙ sym (flat_map-cons form_text (cores_form b.boot.cores) boot) in
    ap (λ (t : List ℕ). t ++ lines_trace 0 (reverse b.lines)) first
    ∙ ap (λ (t : List ℕ). flat_map form_text (cores_form b.boot.cores ∷ boot) ++ t) (lines_trace-forms 0 (reverse b.lines))
    ∙ sym (flat_map-append form_text (cores_form b.boot.cores ∷ boot) lines)

-- the lines of a trace are those of its forms
pub lines_of-trace : (b : Book) → lines_of (trace b) ≡ map form_line (trace_forms b)
lines_of-trace b = ap lines_of (trace-forms b) ∙ lines_of-forms (trace_forms b)
