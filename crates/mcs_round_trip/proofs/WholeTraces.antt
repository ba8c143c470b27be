-- A trace is read again, where each line of it is.
use Rattle.std.proofs.Common.{◌≡◌, ℕ, suc, ◌+◌, ◌≤◌, List, [], ◌∷◌, ◌++◌, Some, None, Ok, length, refl, sym, ap, ◌∙◌, subst, append-nil, append_assoc, length-append, arith}
use Rattle.std.specs.Prelude.{map, reverse}
use Rattle.std.proofs.lemmas.List.{length-map, length-reverse, map-append, reverse-append}
use Rattle.mcs_types.specs.declared.boot.BootLine.{BootLine}
use Rattle.mcs_types.specs.declared.boot.BootLine.TheVariants as boot
use Rattle.mcs_types.specs.declared.entry.Step.{Step}
use Rattle.mcs_types.specs.declared.record.Rec.{Rec}
use Rattle.mcs_book.specs.Boots.{Boot}
use Rattle.mcs_book.specs.History.{Line, Book, steps_of}
use Rattle.mcs_text.specs.Table.{Form, form_line, cores_form, boot_form, entry_form, answer_form}
use Rattle.mcs_text.specs.Reading.{lines_of, words_of}
use Rattle.mcs_sim.specs.Trace.{sent_with, sent_after, sent_in, trace}
use Rattle.mcs_phases.specs.Script.{Script, of_steps, no_script, spelled, read_line, script_from, script_of, steps}
use Rattle.mcs_text.proofs.TextBytes.{boot_line-first, answer_line-first}
use Rattle.mcs_round_trip.proofs.Lengths.{IsSmall, length-line, small-few}
use Rattle.mcs_round_trip.proofs.Lines.{record_forms, line_forms, lines_forms, trace_forms, lines_of-trace}
use Rattle.mcs_round_trip.proofs.Scripts.{Takes, takes-none, takes-one, takes-then, takes-records, read_line-skipped, read_line-spelled, so_far, AreSmall, IsStepAgain, read_line-step}

-- ---- the boot

-- the line of the number of cores begins a boot of no line
unfoldable pub AreCoresAgain : ℕ → Type 0
AreCoresAgain cores = spelled of_steps no_script (form_line (cores_form cores)) (words_of (form_line (cores_form cores))) ≡ Ok (so_far (record { cores = cores; lines = [] }) [])

-- a line of the boot, after those before it, is read as that line
unfoldable pub IsBootAgain : ℕ → List BootLine → BootLine → Type 0
IsBootAgain cores lines line = spelled of_steps (so_far (record { cores = cores; lines = lines }) []) (form_line (boot_form line)) (words_of (form_line (boot_form line))) ≡ Ok (so_far (record { cores = cores; lines = line ∷ lines }) [])

-- so are all of them
unfoldable pub AreBootAgain : ℕ → List BootLine → Type 0
AreBootAgain cores [] = Unit {0}
AreBootAgain cores (line ∷ lines) = IsBootAgain cores lines line × AreBootAgain cores lines

-- a form of the boot has few words
few-boot : (line : BootLine) → length (boot_form line).others + length (boot_form line).numbers ≤ 14
few-boot boot.Endpoint = omega arith
few-boot _ = omega arith

-- so its line is short
small-boot : (line : BootLine) → IsSmall (boot_form line)
small-boot line = small-few (boot_form line) (few-boot line)

-- one more at the end
reverse-more : {A : Type 0} (x : A) (xs : List A) → reverse (x ∷ xs) ≡ reverse xs ++ x ∷ []
reverse-more x xs = reverse-append (x ∷ []) xs

-- the lines of a boot make it
takes-boot : (cores : ℕ) (lines : List BootLine) → AreBootAgain cores lines → length lines ≤ 1999999
    → Takes (so_far (record { cores = cores; lines = [] }) []) 2 (map form_line (map boot_form (reverse lines))) (so_far (record { cores = cores; lines = lines }) [])
unfolding AreBootAgain IsBootAgain
takes-boot cores [] again few = takes-none _ 2
takes-boot cores (line ∷ lines) again few =
    let before : List (List ℕ) = map form_line (map boot_form (reverse lines)) in
    let f : Form = boot_form line in
    let split : map form_line (map boot_form (reverse (line ∷ lines))) ≡ before ++ form_line f ∷ [] =
    ap (λ (ls : List BootLine). map form_line (map boot_form ls)) (reverse-more line lines) ∙ ap (map form_line) (map-append boot_form (reverse lines) (line ∷ [])) ∙ map-append form_line (map boot_form (reverse lines)) (f ∷ []) in
    let count : length before ≡ length lines = length-map (map boot_form (reverse lines)) form_line ∙ length-map (reverse lines) boot_form ∙ length-reverse lines in
    let old : Script Step = so_far (record { cores = cores; lines = lines }) [] in
    let new : Script Step = so_far (record { cores = cores; lines = line ∷ lines }) [] in
    let one : read_line of_steps old (2 + length before) (form_line f) ≡ Ok new = read_line-spelled old (2 + length before) (form_line f) (omega (arith, count, few)) (length-line f (small-boot line)) (boot_line-first line) ∙ again.0 in
    subst (λ (ls : List (List ℕ)). Takes (so_far (record { cores = cores; lines = [] }) []) 2 ls new) (sym split)
    (takes-then _ old new 2 before (form_line f ∷ []) (takes-boot cores lines again.1 (omega arith)) (takes-one old new (2 + length before) (form_line f) one))

-- ---- the lines of the book

-- a line of the book is read as its step
pub record IsLineAgain (b : Boot) (l : Line) : Type 0 where
  pub step : IsStepAgain b l.step
  pub small : (n : ℕ) → AreSmall (line_forms n l)

-- so are all of them
unfoldable pub AreLinesAgain : Boot → List Line → Type 0
AreLinesAgain b [] = Unit {0}
AreLinesAgain b (l ∷ ls) = IsLineAgain b l × AreLinesAgain b ls

-- each record has one form
length-records : (n : ℕ) (rs : List Rec) → length (record_forms n rs) ≡ length rs
length-records n [] = refl
length-records n (r ∷ rs) = let later : length (record_forms (sent_with n r) rs) ≡ length rs = length-records (sent_with n r) rs in omega (arith, later)

-- the forms of one line more
lines_forms-end : (n : ℕ) (ls : List Line) (l : Line) → lines_forms n (ls ++ l ∷ []) ≡ lines_forms n ls ++ line_forms (sent_in n ls) l
lines_forms-end n [] l = append-nil (line_forms n l)
lines_forms-end n (m ∷ ls) l = ap (λ (fs : List Form). line_forms n m ++ fs) (lines_forms-end (sent_after n m.records) ls l) ∙ sym (append_assoc (line_forms n m) (lines_forms (sent_after n m.records) ls) (line_forms (sent_in n (m ∷ ls)) l))

-- a line of the book adds its step, and what is below that is skipped
takes-line : (b : Boot) (ss : List Step) (n m : ℕ) (l : Line) → IsLineAgain b l → n + length (line_forms m l) ≤ 2000001 → Takes (so_far b ss) n (map form_line (line_forms m l)) (so_far b (ss ++ l.step ∷ []))
unfolding AreSmall
takes-line b ss n m l again few =
    let old : Script Step = so_far b ss in
    let new : Script Step = so_far b (ss ++ l.step ∷ []) in
    let f : Form = entry_form l.step l.step.entry in
    let a : Form = answer_form l.answer in
    let small : AreSmall (line_forms m l) = again.small m in
    let count : length (record_forms m l.records) ≡ length l.records = length-records m l.records in
    let step : read_line of_steps old n (form_line f) ≡ Ok new = read_line-step b ss l.step n (omega arith) small.0 again.step in
    let answer : read_line of_steps new (n + 1) (form_line a) ≡ Ok new = read_line-skipped new (n + 1) (form_line a) (omega arith) (length-line a small.1.0) (answer_line-first l.answer) in
    takes-then old new new n (form_line f ∷ []) (form_line a ∷ map form_line (record_forms m l.records)) (takes-one old new n (form_line f) step)
    (takes-then new new new (n + 1) (form_line a ∷ []) (map form_line (record_forms m l.records)) (takes-one new new (n + 1) (form_line a) answer)
    (takes-records new (n + 1 + 1) m l.records small.1.1 (omega (arith, count, few))))

-- the lines of a book add their steps
takes-lines : (b : Boot) (n : ℕ) (ls : List Line) → AreLinesAgain b ls → n + length (lines_forms 0 (reverse ls)) ≤ 2000001
    → Takes (so_far b []) n (map form_line (lines_forms 0 (reverse ls))) (so_far b (reverse (map (λ (l : Line). l.step) ls)))
unfolding AreLinesAgain
takes-lines b n [] again few = takes-none _ n
takes-lines b n (l ∷ ls) again few =
    let m : ℕ = sent_in 0 (reverse ls) in
    let before : List Form = lines_forms 0 (reverse ls) in
    let old : List Step = reverse (map (λ (l : Line). l.step) ls) in
    let forms : lines_forms 0 (reverse (l ∷ ls)) ≡ before ++ line_forms m l = ap (lines_forms 0) (reverse-more l ls) ∙ lines_forms-end 0 (reverse ls) l in
    let split : map form_line (lines_forms 0 (reverse (l ∷ ls))) ≡ map form_line before ++ map form_line (line_forms m l) = ap (map form_line) forms ∙ map-append form_line before (line_forms m l) in
    let all : length (lines_forms 0 (reverse (l ∷ ls))) ≡ length before + length (line_forms m l) = ap length forms ∙ length-append before (line_forms m l) in
    let count : length (map form_line before) ≡ length before = length-map before form_line in
    let added : old ++ l.step ∷ [] ≡ reverse (map (λ (l : Line). l.step) (l ∷ ls)) = sym (reverse-more l.step (map (λ (l : Line). l.step) ls)) in
    subst (λ (ss : List Step). Takes (so_far b []) n (map form_line (lines_forms 0 (reverse (l ∷ ls)))) (so_far b ss)) added
    (subst (λ (lines : List (List ℕ)). Takes (so_far b []) n lines (so_far b (old ++ l.step ∷ []))) (sym split)
    (takes-then (so_far b []) (so_far b old) (so_far b (old ++ l.step ∷ [])) n (map form_line before) (map form_line (line_forms m l))
    (takes-lines b n ls again.1 (omega (arith, all, few))) (takes-line b old (n + length (map form_line before)) m l again.0 (omega (arith, all, count, few)))))

-- ---- the whole

-- what is known of each line of a book
pub record IsAgain (b : Book) : Type 0 where
  pub cores : AreCoresAgain b.boot.cores
  pub boot : AreBootAgain b.boot.cores b.boot.lines
  pub lines : AreLinesAgain b.boot b.lines

-- the line of the number of cores is short
small-cores : (n : ℕ) → IsSmall (cores_form n)
small-cores n = small-few (cores_form n) (omega arith)

-- the trace of such a book, read again, gives its boot and its steps
pub trace-again : (b : Book) → IsAgain b → length (lines_of (trace b)) ≤ 2000000 → steps (trace b) ≡ (record { boot = Some b.boot; items = steps_of b }, None)
unfolding script_of Takes AreCoresAgain script_from
trace-again b again short =
    let lines : lines_of (trace b) ≡ map form_line (trace_forms b) = lines_of-trace b in
    let none : Boot = record { cores = b.boot.cores; lines = [] } in
    let first : List ℕ = form_line (cores_form b.boot.cores) in
    let boots : List (List ℕ) = map form_line (map boot_form (reverse b.boot.lines)) in
    let rest : List (List ℕ) = map form_line (lines_forms 0 (reverse b.lines)) in
    let split : map form_line (trace_forms b) ≡ (first ∷ boots) ++ rest = ap (λ (ls : List (List ℕ)). first ∷ ls) (map-append form_line (map boot_form (reverse b.boot.lines)) (lines_forms 0 (reverse b.lines))) in
    let boot_count : length boots ≡ length b.boot.lines = length-map (map boot_form (reverse b.boot.lines)) form_line ∙ length-map (reverse b.boot.lines) boot_form ∙ length-reverse b.boot.lines in
    let rest_count : length rest ≡ length (lines_forms 0 (reverse b.lines)) = length-map (lines_forms 0 (reverse b.lines)) form_line in
    let all : length (lines_of (trace b)) ≡ suc (length boots) + length rest = ap length (lines ∙ split) ∙ length-append (first ∷ boots) rest in
    let one : read_line of_steps no_script 1 first ≡ Ok (so_far none []) = read_line-spelled no_script 1 first (omega arith) (length-line (cores_form b.boot.cores) (small-cores b.boot.cores)) refl ∙ again.cores in
    let begun : Takes no_script 1 (first ∷ boots) (so_far b.boot []) = takes-then no_script (so_far none []) (so_far b.boot []) 1 (first ∷ []) boots (takes-one no_script (so_far none []) 1 first one) (takes-boot b.boot.cores b.boot.lines again.boot (omega (arith, short, all, boot_count))) in
    let done : Takes no_script 1 ((first ∷ boots) ++ rest) (so_far b.boot (steps_of b)) = takes-then no_script (so_far b.boot []) (so_far b.boot (steps_of b)) 1 (first ∷ boots) rest begun (takes-lines b.boot (1 + suc (length boots)) b.lines again.lines (omega (arith, short, all, rest_count))) in
    ap (script_from of_steps no_script 1) (lines ∙ split ∙ sym (append-nil ((first ∷ boots) ++ rest))) ∙ done []
