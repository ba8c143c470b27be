-- The book of a replay only grows, and its trace with it.
use Rattle.std.proofs.Common.{◌≡◌, ℕ, zero, suc, ◌+◌, ◌-◌, ◌≤◌, take, Bool, true, false, eqb, if◌then◌else◌, Option, Some, None, Result, Ok, Err, List, [], ◌∷◌, ◌++◌, length, reverse, drop, refl, sym, ap, subst, ◌∙◌, append_assoc, append-nil, arith}
use Rattle.std.proofs.Math.Seq.{drop-append_seam}
use Rattle.std.proofs.lemmas.List.{reverse-append, length-reverse, length-append, take_more, take_rest}
use Rattle.std.proofs.lemmas.Bool.{ne_eqb}
use Rattle.std.proofs.lemmas.Option.{slice_get_within, get_or_from_slice_get}
use Rattle.mcs_sim.specs.declared.trace_text.Written.{Written}
use Rattle.mcs_types.specs.declared.entry.Step.{Step}
use Rattle.mcs_book.specs.Boots.{Boot}
use Rattle.mcs_book.specs.Statuses.{may_enter}
use Rattle.mcs_book.specs.History.{Book, Line, log_of, with_step, book_of}
use Rattle.mcs_kernel.specs.Faults.{fault_of, entered}
use Rattle.mcs_kernel.specs.Runs.{is_book_full}
use Rattle.mcs_text.specs.declared.fault.LineFault.{LineFault}
use Rattle.mcs_text.specs.Table.{cores_text}
use Rattle.mcs_phases.specs.declared.fault.SimFault.{SimFault}
use Rattle.mcs_phases.specs.declared.fault.SimFault.TheVariants as fault
use Rattle.mcs_phases.specs.Script.{threads_of}
use Rattle.mcs_text.specs.declared.fault.LineFault.TheVariants as why
use Rattle.std.specs.Prelude.{nat_lt, ◌==◌, slice_get}
use Rattle.mcs_sim.proofs.FeedScripts.{book_of-end}
use Rattle.mcs_sim.specs.Trace.{boot_lines_trace, sent_after, sent_in, line_trace, lines_trace, trace, trace_of}
use Rattle.mcs_sim.specs.Trace.{IsLonger, written_of, all_written, IsWrittenBy, IsWrittenOf, IsWrittenUpTo, unwritten, unwritten_of, unwritten_lines}
use Rattle.mcs_phases.specs.Feeds.{BootOrBook, Course, FeedState, stepped, stands, read_at, step_line, after_step, book_after, after_line_on, after_line, past_line, with_line, after_end_on, after_end, past_boot, boot_ended_after, boot_ended, with_part, with_byte, fed, with_last, at_end, ended, at_line, refused_for}

pub longer-refl : (k : Option Book) → IsLonger k k
longer-refl None = tt
longer-refl (Some b) = (refl, ([], refl))

pub longer-trans : (j k l : Option Book) → IsLonger j k → IsLonger k l → IsLonger j l
longer-trans None k l one other = tt
longer-trans (Some a) None l one other = absurd one
longer-trans (Some a) (Some b) None one other = absurd other
longer-trans (Some a) (Some b) (Some c) one other =
    (other.0 ∙ one.0, (other.1.0 ++ one.1.0, other.1.1 ∙ ap (λ (ls : List Line). other.1.0 ++ ls) one.1.1 ∙ sym (append_assoc other.1.0 one.1.0 a.lines)))

-- a book after a step, where it may enter or not
abbrev entered_if : Book → Step → Bool → Book
entered_if k s v = elim v [ true ↦ entered k s | false ↦ k ]

with_step-longer : (k : Book) (s : Step) → IsLonger (Some k) (Some (with_step k s))
with_step-longer k s = go (may_enter (log_of k) s.core s.thread)
  where
    go : (v : Bool) → IsLonger (Some k) (Some (entered_if k s v))
    go true = (refl, (_ ∷ [], refl))
    go false = (refl, ([], refl))

pub steps-longer : (ss : List Step) (b : Boot) (before : List Step) → IsLonger (Some (book_of b before)) (Some (book_of b (before ++ ss)))
unfolding book_of
steps-longer [] b before = subst (λ (xs : List Step). IsLonger (Some (book_of b before)) (Some (book_of b xs))) (sym (append-nil before)) (longer-refl (Some (book_of b before)))
steps-longer (s ∷ ss) b before =
    longer-trans (Some (book_of b before)) (Some (book_of b (before ++ s ∷ []))) (Some (book_of b (before ++ s ∷ ss)))
    (subst (λ (k : Book). IsLonger (Some (book_of b before)) (Some k)) (sym (book_of-end b before s)) (with_step-longer (book_of b before) s))
    (subst (λ (xs : List Step). IsLonger (Some (book_of b (before ++ s ∷ []))) (Some (book_of b xs))) (append_assoc before (s ∷ []) ss) (steps-longer ss b (before ++ s ∷ [])))

-- what is next has a longer book
abbrev LongerIn : Option Book → Result BootOrBook SimFault → Type 0
LongerIn k (Ok s) = IsLonger k s.book
LongerIn k (Err e) = Unit {0}

none-longer : (r : Result BootOrBook SimFault) → LongerIn None r
none-longer (Ok s) = tt
none-longer (Err e) = tt

stepped-longer : (boot : Option Boot) (k : Book) (s : Step) → LongerIn (Some k) (stands boot (stepped k s))
unfolding stepped
stepped-longer boot k s = go (is_book_full (fault_of k s.core s.thread))
  where
    go : (v : Bool) → LongerIn (Some k) (stands boot (if v then Err fault.BookFull else Ok (with_step k s)))
    go true = tt
    go false = with_step-longer k s

after_line-longer : (s : BootOrBook) (n : ℕ) (l : List ℕ) → LongerIn s.book (after_line s n l)
unfolding after_line book_after
after_line-longer s n l = go s.book
  where
    step : (k : Book) (r : Result (Option Step) LineFault) → LongerIn (Some k) (stands s.boot (after_step k (read_at n r)))
    step k (Err e) = tt
    step k (Ok None) = longer-refl (Some k)
    step k (Ok (Some x)) = stepped-longer s.boot k x

    go : (k : Option Book) → LongerIn k (after_line_on s k n l)
    go None = none-longer (after_line_on s None n l)
    go (Some k) = step k (step_line k.boot.cores (threads_of k.boot) n l)

pub with_line-longer : (c : Course) (l : List ℕ) → IsLonger c.stands.book (with_line c l).stands.book
unfolding with_line
with_line-longer c l = go (after_line c.stands (c.lines + 1) l) (after_line-longer c.stands (c.lines + 1) l)
  where
    go : (r : Result BootOrBook SimFault) → LongerIn c.stands.book r → IsLonger c.stands.book (past_line c r).stands.book
    go (Ok s) is = is
    go (Err e) is = longer-refl c.stands.book

boot_ended-longer : (c : Course) → IsLonger c.stands.book (boot_ended c).stands.book
unfolding boot_ended after_end
boot_ended-longer c = go c.fault
  where
    end : (k : Option Book) (boot : Option Boot) → c.stands.book ≡ k → LongerIn k (after_end_on c.stands k boot (c.lines + 1))
    end (Some k) boot is = subst (IsLonger (Some k)) (sym is) (longer-refl (Some k))
    end None (Some b) is = tt
    end None None is = tt

    past : (r : Result BootOrBook SimFault) → LongerIn c.stands.book r → IsLonger c.stands.book (past_boot c r).stands.book
    past (Ok s) is = is
    past (Err e) is = longer-refl c.stands.book

    go : (o : Option SimFault) → IsLonger c.stands.book (boot_ended_after c o).stands.book
    go (Some e) = longer-refl c.stands.book
    go None = past (after_end c.stands (c.lines + 1)) (end c.stands.book c.stands.boot refl)

part-longer : (g : FeedState) (b : ℕ) → IsLonger g.course.stands.book (with_part g b).course.stands.book
part-longer g b = go (nat_lt 2000000 (g.course.lines + 1)) (nat_lt 4096 (length g.line + 1))
  where
    go : (many long : Bool) → IsLonger g.course.stands.book (if many then at_line (refused_for why.ManyLines g.course) else (if long then at_line (refused_for why.LongLine g.course) else record g { line = g.line ++ b ∷ [] })).course.stands.book
    go true long = longer-refl g.course.stands.book
    go false true = longer-refl g.course.stands.book
    go false false = longer-refl g.course.stands.book

byte-longer : (g : FeedState) (o : Option SimFault) (b : ℕ) → IsLonger g.course.stands.book (with_byte g o b).course.stands.book
byte-longer g (Some e) b = longer-refl g.course.stands.book
byte-longer g None b = go (b == 10)
  where
    go : (v : Bool) → IsLonger g.course.stands.book (if v then at_line (with_line g.course g.line) else with_part g b).course.stands.book
    go true = with_line-longer g.course g.line
    go false = part-longer g b

pub fed-longer : (bs : List ℕ) (g : FeedState) → IsLonger g.course.stands.book (fed g bs).course.stands.book
unfolding fed
fed-longer [] g = longer-refl g.course.stands.book
fed-longer (b ∷ bs) g =
    longer-trans g.course.stands.book (with_byte g g.course.fault b).course.stands.book (fed (with_byte g g.course.fault b) bs).course.stands.book
    (byte-longer g g.course.fault b) (fed-longer bs (with_byte g g.course.fault b))

pub ended-longer : (g : FeedState) → IsLonger g.course.stands.book (ended g).stands.book
unfolding ended
ended-longer g = go g.course.fault
  where
    last : (l : List ℕ) → IsLonger g.course.stands.book (with_last g.course l).stands.book
    last [] = longer-refl g.course.stands.book
    last (b ∷ bs) = with_line-longer g.course (b ∷ bs)

    go : (o : Option SimFault) → IsLonger g.course.stands.book (at_end g o).stands.book
    go (Some e) = longer-refl g.course.stands.book
    go None = longer-trans g.course.stands.book (with_last g.course g.line).stands.book (boot_ended (with_last g.course g.line)).stands.book (last g.line) (boot_ended-longer (with_last g.course g.line))

-- ---- traces

sent_in-append : (xs : List Line) (n : ℕ) (ys : List Line) → sent_in n (xs ++ ys) ≡ sent_in (sent_in n xs) ys
sent_in-append [] n ys = refl
sent_in-append (x ∷ xs) n ys = sent_in-append xs (sent_after n x.records) ys

lines_trace-append : (xs : List Line) (n : ℕ) (ys : List Line) → lines_trace n (xs ++ ys) ≡ lines_trace n xs ++ lines_trace (sent_in n xs) ys
lines_trace-append [] n ys = refl
lines_trace-append (x ∷ xs) n ys =
    ap (λ (t : List ℕ). line_trace n x ++ t) (lines_trace-append xs (sent_after n x.records) ys) ∙ sym (append_assoc (line_trace n x) _ _)

-- the trace of a book with more lines
pub trace-more : (b c : Book) (more : List Line) → c.boot ≡ b.boot → c.lines ≡ more ++ b.lines → trace c ≡ trace b ++ lines_trace (sent_in 0 (reverse b.lines)) (reverse more)
unfolding trace
trace-more b c more boot lines =
    let all : lines_trace 0 (reverse c.lines) ≡ lines_trace 0 (reverse b.lines) ++ lines_trace (sent_in 0 (reverse b.lines)) (reverse more)
    = ap (λ (ls : List Line). lines_trace 0 (reverse ls)) lines ∙ ap (lines_trace 0) (reverse-append more b.lines) ∙ lines_trace-append (reverse b.lines) 0 (reverse more) in
    ap (λ (a : Boot). cores_text a.cores ++ boot_lines_trace (reverse a.lines) ++ lines_trace 0 (reverse c.lines)) boot
    ∙ ap (λ (t : List ℕ). cores_text b.boot.cores ++ boot_lines_trace (reverse b.boot.lines) ++ t) all
    ∙ sym (append_assoc (cores_text b.boot.cores ++ boot_lines_trace (reverse b.boot.lines)) (lines_trace 0 (reverse b.lines)) (lines_trace (sent_in 0 (reverse b.lines)) (reverse more)))

pub sent-more : (b c : Book) (more : List Line) → c.lines ≡ more ++ b.lines → sent_in 0 (reverse c.lines) ≡ sent_in (sent_in 0 (reverse b.lines)) (reverse more)
sent-more b c more lines = ap (λ (ls : List Line). sent_in 0 (reverse ls)) lines ∙ ap (sent_in 0) (reverse-append more b.lines) ∙ sent_in-append (reverse b.lines) 0 (reverse more)

-- the lines after those of a book
pub drop-more : (b c : Book) (more : List Line) → c.lines ≡ more ++ b.lines → drop (length b.lines) (reverse c.lines) ≡ reverse more
drop-more b c more lines =
    ap (λ (ls : List Line). drop (length b.lines) (reverse ls)) lines ∙ ap (drop (length b.lines)) (reverse-append more b.lines)
    ∙ ap (λ (n : ℕ). drop n (reverse b.lines ++ reverse more)) (sym (length-reverse b.lines)) ∙ drop-append_seam (reverse b.lines) (reverse more)

-- the second text begins with the first
abbrev pub IsBeginning : List ℕ → List ℕ → Type 0
IsBeginning x y = (more : List ℕ) × (y ≡ x ++ more)

pub longer-begins : (j k : Option Book) → IsLonger j k → IsBeginning (trace_of j) (trace_of k)
longer-begins None k is = (trace_of k, refl)
longer-begins (Some b) None is = absurd is
longer-begins (Some b) (Some c) is = (_, trace-more b c is.1.0 is.0 is.1.1)

-- ---- what was written

-- a line more of those that were not written
pub lines-next : (d : ℕ) (xs : List Line) (i : ℕ) (x : Line) → d + 1 ≤ i → Some x ≡ (if i == 0 then None else slice_get xs (i - 1)) → take (i + 1 - 1 - d) (drop d xs) ≡ take (i - 1 - d) (drop d xs) ++ x ∷ []
lines-next d xs i x le is =
    let other : eqb i 0 ≡ false = ne_eqb _ _ (λ e. omega (arith, le, e)) in
    let found : slice_get xs (i - 1) ≡ Some x = sym (is ∙ ap (λ (t : Bool). if t then None else slice_get xs (i - 1)) other) in
    let more : i + 1 - 1 - d ≡ (i - 1 - d) + 1 = omega (arith, le) in
    let place : d + (i - 1 - d) ≡ i - 1 = omega (arith, le) in
    ap (λ (n : ℕ). take n (drop d xs)) more ∙ go d xs (i - 1 - d) (ap (slice_get xs) place ∙ found)
  where
    go : (d : ℕ) (xs : List Line) (j : ℕ) → slice_get xs (d + j) ≡ Some x → take (j + 1) (drop d xs) ≡ take j (drop d xs) ++ x ∷ []
    go zero xs j found =
        let same : 0 + j ≡ j = omega arith in
        let here : slice_get xs j ≡ Some x = ap (slice_get xs) (sym same) ∙ found in
        take_more xs j x (slice_get_within xs j x here) ∙ ap (λ (y : Line). take j xs ++ y ∷ []) (get_or_from_slice_get xs j x x here)
    go (suc d) [] j found = absurd (omega (arith, slice_get_within [] (suc d + j) x found))
    go (suc d) (y ∷ ys) j found =
        let same : suc d + j ≡ suc (d + j) = omega arith in
        go d ys j (ap (slice_get (y ∷ ys)) (sym same) ∙ found)

-- all of them
pub lines-all : (b : Book) (t : Written) (n : ℕ) → n ≡ length b.lines + 1 → take (n - 1 - (t.lines - 1)) (unwritten_lines t b) ≡ unwritten_lines t b
lines-all b t n is =
    let count : n - 1 - (t.lines - 1) ≡ length (reverse b.lines) - (t.lines - 1) = omega (arith, is, length-reverse b.lines) in
    ap (λ (m : ℕ). take m (unwritten_lines t b)) count ∙ take_rest (reverse b.lines) (t.lines - 1)

-- what was written and what was not are the trace together
pub written-more : (t : Written) (j k : Option Book) → IsWrittenBy t j → IsLonger j k → trace_of k ≡ trace_of j ++ unwritten_of t k
unfolding unwritten trace
written-more t None None written longer = refl
written-more t None (Some b) written longer = sym (ap (λ (t : Written). unwritten t b) written.is)
written-more t (Some a) None written longer = absurd longer
written-more t (Some a) (Some b) written longer =
    let some : eqb (length a.lines + 1) 0 ≡ false = ne_eqb _ _ (λ e. omega arith) in
    let count : length a.lines + 1 - 1 ≡ length a.lines = omega arith in
    let lines : drop (length a.lines + 1 - 1) (reverse b.lines) ≡ reverse longer.1.0 = ap (λ (n : ℕ). drop n (reverse b.lines)) count ∙ drop-more a b longer.1.0 longer.1.1 in
    let rest : unwritten (all_written a) b ≡ lines_trace (sent_in 0 (reverse a.lines)) (reverse longer.1.0) = rw some (ap (lines_trace (sent_in 0 (reverse a.lines))) lines) in
    trace-more a b longer.1.0 longer.0 longer.1.1 ∙ ap (λ (t : List ℕ). trace a ++ t) (sym (ap (λ (t : Written). unwritten t b) written.is ∙ rest))

pub written-of : (t : Written) (b : Book) → IsWrittenUpTo t (Some b) → IsWrittenOf t b
written-of t b (None, written, longer) = record {
  fits = written.fits;
  few = omega (arith, ap (λ (t : Written). t.lines) written.is);
  all = ap (λ (t : Written). sent_in t.sent (unwritten_lines t b)) written.is;
}
written-of t b (Some a, written, longer) =
    let count : length a.lines + 1 - 1 ≡ length a.lines = omega arith in
    let lines : drop (length a.lines + 1 - 1) (reverse b.lines) ≡ reverse longer.1.0 = ap (λ (n : ℕ). drop n (reverse b.lines)) count ∙ drop-more a b longer.1.0 longer.1.1 in
    record {
      fits = written.fits;
      few = omega (arith, ap (λ (t : Written). t.lines) written.is, ap (λ (ls : List Line). length ls) longer.1.1, length-append longer.1.0 a.lines);
      all = ap (λ (t : Written). sent_in t.sent (unwritten_lines t b)) written.is ∙ ap (sent_in (sent_in 0 (reverse a.lines))) lines ∙ sym (sent-more a b longer.1.0 longer.1.1);
    }

-- if nothing was written, all of the trace is left
pub unwritten-all : (t : Written) (b : Book) → t ≡ written_of None → unwritten t b ≡ trace b
unfolding unwritten trace
unwritten-all t b is = ap (λ (t : Written). unwritten t b) is
