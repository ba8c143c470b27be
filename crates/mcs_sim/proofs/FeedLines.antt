-- The line of which a step was read is the text of the step.
use Rattle.std.proofs.Common.{◌≡◌, ℕ, ◌+◌, ◌-◌, ◌<◌, Bool, true, false, if◌then◌else◌, inl, inr, eqb, Option, Some, None, Result, Ok, Err, List, [], ◌∷◌, ◌++◌, length, reverse, take, drop, refl, sym, ap, subst, ◌∙◌, append-nil, arith}
use Rattle.std.proofs.lemmas.Bool.{ne_eqb}
use Rattle.mcs_types.specs.declared.entry.Step.{Step}
use Rattle.mcs_book.specs.Boots.{Boot}
use Rattle.mcs_book.specs.Statuses.{may_enter}
use Rattle.mcs_book.specs.Table.{does}
use Rattle.mcs_book.specs.History.{Book, Line, line_for, line_of_number, log_of, with_step}
use Rattle.mcs_kernel.specs.Faults.{fault_of, entered}
use Rattle.mcs_kernel.specs.Runs.{is_book_full}
use Rattle.mcs_text.specs.declared.fault.LineFault.{LineFault}
use Rattle.mcs_text.specs.declared.key.Key.{Key}
use Rattle.mcs_text.specs.Keys.{boot_key}
use Rattle.mcs_text.specs.Reading.{◌>>=◌, words_of, step_of}
use Rattle.mcs_text.specs.Table.{step_text}
use Rattle.mcs_text.proofs.StepsWritten.{step-written}
use Rattle.mcs_phases.specs.declared.fault.SimFault.{SimFault}
use Rattle.mcs_phases.specs.declared.fault.SimFault.TheVariants as fault
use Rattle.mcs_sim.specs.declared.trace_text.Written.{Written}
use Rattle.mcs_phases.specs.Script.{threads_of, says_something}
use Rattle.mcs_sim.specs.Trace.{sent_after, sent_in, line_trace, lines_trace, unwritten, unwritten_lines, IsWrittenBy, IsWrittenOf, IsReadOf, IsReadOfAny}
use Rattle.mcs_phases.specs.Feeds.{BootOrBook, Course, stepped, stands, read_at, step_line, step_spelled, behind_boot, after_step, book_after, after_line_on, after_line, past_line, with_line, TakesLine}
use Rattle.mcs_sim.proofs.FeedBooks.{drop-more, lines-next, lines-all}

-- of the line after a boot that says a step that step is read
after-boot : (k : Option Key) (r : Result Step LineFault) (s : Step) → behind_boot k r ≡ Ok (Some s) → r ≡ Ok s
after-boot (Some k) r s is = absurd cc
after-boot None (Err e) s is = absurd cc
after-boot None (Ok x) s is = let same : x ≡ s = cc in ap (λ (x : Step). Ok x) same

step-spelled : (cores threads : ℕ) (line : List ℕ) (ws : List (List ℕ)) (s : Step) → step_spelled cores threads line ws ≡ Ok (Some s) → step_of cores threads line ≡ Ok s
step-spelled cores threads line [] s is = absurd cc
step-spelled cores threads line (w ∷ ws) s is = after-boot (boot_key w) (step_of cores threads line) s is

step-read : (cores threads number : ℕ) (line : List ℕ) (s : Step) → step_line cores threads number line ≡ Ok (Some s) → step_of cores threads line ≡ Ok s
unfolding step_line
step-read cores threads number line s is = go (says_something number line) is
  where
    go : (r : Result Bool LineFault) → (r >>= λ says. if says then step_spelled cores threads line (words_of line) else Ok None) ≡ Ok (Some s) → step_of cores threads line ≡ Ok s
    go (Err e) is = absurd cc
    go (Ok false) is = absurd cc
    go (Ok true) is = step-spelled cores threads line (words_of line) s is

-- if all of a book was written, no line of it is left
same-read : (text : List ℕ) (t : Written) (k : Option Book) → IsWrittenBy t k → IsReadOfAny text t k
same-read text t None written = tt
same-read text t (Some b) written = λ l some is.
    let count : length b.lines + 1 - 1 ≡ length b.lines = omega arith in
    let none : unwritten_lines t b ≡ [] = ap (λ (t : Written). unwritten_lines t b) written.is ∙ ap (λ (n : ℕ). drop n (reverse b.lines)) count ∙ drop-more b b [] refl in
    absurd (let other : [] ≡ l ∷ [] = sym none ∙ is in cc)

-- nothing was written
none-read : (text : List ℕ) (t : Written) (k : Option Book) → IsWrittenBy t None → IsReadOfAny text t k
none-read text t None written = tt
none-read text t (Some b) written = λ l some is. absurd (omega (arith, some, ap (λ (t : Written). t.lines) written.is))

-- a book after a step, where it may enter or not
abbrev entered_if : Book → Step → Bool → Book
entered_if k s v = elim v [ true ↦ entered k s | false ↦ k ]

with_step-read : (text : List ℕ) (t : Written) (k : Book) (s : Step) → IsWrittenBy t (Some k) → step_text s ≡ text ++ 10 ∷ [] → IsReadOf text t (with_step k s)
with_step-read text t k s written is = go (may_enter (log_of k) s.core s.thread)
  where
    go : (v : Bool) → IsReadOf text t (entered_if k s v)
    go false = same-read text t (Some k) written
    go true = λ l some one.
        let own : List Line = (line_for s (does (log_of k) s.core s.thread s.entry)) ∷ [] in
        let count : length k.lines + 1 - 1 ≡ length k.lines = omega arith in
        let more : unwritten_lines t (entered k s) ≡ own = ap (λ (t : Written). unwritten_lines t (entered k s)) written.is ∙ ap (λ (n : ℕ). drop n (reverse (entered k s).lines)) count ∙ drop-more k (entered k s) own refl in
        let same : own ≡ l ∷ [] = sym more ∙ one in
        let here : line_for s (does (log_of k) s.core s.thread s.entry) ≡ l = cc in
        ap (λ (l : Line). step_text l.step) (sym here) ∙ is

-- what is next has at most a line more, whose step was read of this text
abbrev ReadIn : List ℕ → Written → Result BootOrBook SimFault → Type 0
ReadIn text t (Ok s) = IsReadOfAny text t s.book
ReadIn text t (Err e) = Unit {0}

none-read-in : (text : List ℕ) (t : Written) (r : Result BootOrBook SimFault) → IsWrittenBy t None → ReadIn text t r
none-read-in text t (Ok s) written = none-read text t s.book written
none-read-in text t (Err e) written = tt

stepped-read : (text : List ℕ) (t : Written) (boot : Option Boot) (k : Book) (s : Step) → IsWrittenBy t (Some k) → step_text s ≡ text ++ 10 ∷ [] → ReadIn text t (stands boot (stepped k s))
unfolding stepped
stepped-read text t boot k s written is = go (is_book_full (fault_of k s.core s.thread))
  where
    go : (v : Bool) → ReadIn text t (stands boot (if v then Err fault.BookFull else Ok (with_step k s)))
    go true = tt
    go false = with_step-read text t k s written is

after_line-read : (s : BootOrBook) (n : ℕ) (line : List ℕ) (t : Written) → IsWrittenBy t s.book → ReadIn line t (after_line s n line)
unfolding after_line book_after
after_line-read s n line t = go s.book
  where
    step : (k : Book) → IsWrittenBy t (Some k) → (r : Result (Option Step) LineFault) → step_line k.boot.cores (threads_of k.boot) n line ≡ r → ReadIn line t (stands s.boot (after_step k (read_at n r)))
    step k written (Err e) is = tt
    step k written (Ok None) is = same-read line t (Some k) written
    step k written (Ok (Some x)) is =
        stepped-read line t s.boot k x written (step-written k.boot.cores (threads_of k.boot) line x (step-read k.boot.cores (threads_of k.boot) n line x is))

    go : (k : Option Book) → IsWrittenBy t k → ReadIn line t (after_line_on s k n line)
    go None written = none-read-in line t (after_line_on s None n line) written
    go (Some k) written = step k written (step_line k.boot.cores (threads_of k.boot) n line) refl

with_line-read : (c : Course) (line : List ℕ) (t : Written) → IsWrittenBy t c.stands.book → IsReadOfAny line t (with_line c line).stands.book
unfolding with_line
with_line-read c line t written = go (after_line c.stands (c.lines + 1) line) (after_line-read c.stands (c.lines + 1) line t written)
  where
    go : (r : Result BootOrBook SimFault) → ReadIn line t r → IsReadOfAny line t (past_line c r).stands.book
    go (Ok s) is = is
    go (Err e) is = same-read line t c.stands.book written

-- a line adds at most one to the book, and it is of the step that was read of it
pub line-read : (c d : Course) (line : List ℕ) (t : Written) → TakesLine c line d → IsWrittenBy t c.stands.book → IsReadOfAny line t d.stands.book
line-read c d line t (inl is) written = subst (λ (c : Course). IsReadOfAny line t c.stands.book) (sym is) (with_line-read c line t written)
line-read c d line t (inr is) written = subst (λ (c : Course). IsReadOfAny line t c.stands.book) (sym is) (same-read line t c.stands.book written)

-- the last line of a book, before which all were written
pub last-unwritten : (b : Book) (t : Written) (l : Line) → 0 < t.lines → t.lines ≡ length b.lines → Some l ≡ line_of_number b t.lines → unwritten_lines t b ≡ l ∷ []
last-unwritten b t l some last is =
    let one : t.lines + 1 - 1 - (t.lines - 1) ≡ 1 = omega (arith, some) in
    let none : t.lines - 1 - (t.lines - 1) ≡ 0 = omega arith in
    let all : take (t.lines + 1 - 1 - (t.lines - 1)) (unwritten_lines t b) ≡ unwritten_lines t b = lines-all b t (t.lines + 1) (omega (arith, last)) in
    let next = lines-next (t.lines - 1) (reverse b.lines) t.lines l (omega (arith, some)) is in
    sym all ∙ next ∙ ap (λ (n : ℕ). take n (unwritten_lines t b) ++ l ∷ []) none

-- so it is what was not written
pub unwritten-last : (b : Book) (t : Written) (l : Line) → 0 < t.lines → t.lines ≡ length b.lines → Some l ≡ line_of_number b t.lines → line_trace t.sent l ≡ unwritten t b
unfolding unwritten
unwritten-last b t l some last is =
    let other : eqb t.lines 0 ≡ false = ne_eqb _ _ (λ e. omega (arith, some, e)) in
    let here : unwritten t b ≡ line_trace t.sent l ++ [] = rw other (ap (lines_trace t.sent) (last-unwritten b t l some last is)) in
    sym (here ∙ append-nil (line_trace t.sent l))

-- and all messages are counted with it
pub sent-last : (b : Book) (t : Written) (l : Line) (n : ℕ) → 0 < t.lines → t.lines ≡ length b.lines → Some l ≡ line_of_number b t.lines → IsWrittenOf t b → n ≡ sent_after t.sent l.records
    → n ≡ sent_in 0 (reverse b.lines)
sent-last b t l n some last is written count = count ∙ sym (ap (sent_in t.sent) (last-unwritten b t l some last is)) ∙ written.all
