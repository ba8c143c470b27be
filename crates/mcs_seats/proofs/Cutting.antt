-- The book when it had fewer lines, and the next line of it made again.
use Rattle.std.specs.Prelude.{ℕ, ◌≡◌, ◌<◌, ◌≤◌, ◌+◌, ◌-◌, ◌==◌, ◌&&◌, Bool, true, false, cond, List, [], ◌∷◌, ◌++◌, length, take, drop, reverse, Option, Some, None, slice_get, option_and_then}
use Rattle.std.proofs.Common.{refl, ap, sym, ◌∙◌, subst, arith, inl, inr}
use Rattle.std.proofs.lemmas.Grind.{common_steps}
use Rattle.std.proofs.lemmas.List.{reverse-append, reverse-reverse, take-append-drop, take_more, length-reverse, length-take-le}
use Rattle.std.proofs.lemmas.Option.{slice_get_within, slice_get_cases, get_or_from_slice_get}
use Rattle.mcs_types.specs.declared.id.ObjId.{ObjId}
use Rattle.mcs_types.specs.declared.id.CoreId.{CoreId}
use Rattle.mcs_book.specs.Logs.{Log}
use Rattle.mcs_book.specs.Objects.{form_of}
use Rattle.mcs_book.specs.Contexts.{context_of}
use Rattle.mcs_types.specs.declared.boot.BootLine.{BootLine}
use Rattle.mcs_book.specs.Boots.{Boot, boot_log}
use Rattle.mcs_book.specs.Statuses.{status_of, is_ready, is_on_core, may_enter}
use Rattle.mcs_book.specs.Pieces.{Outcome}
use Rattle.mcs_book.specs.Table.{does}
use Rattle.mcs_book.specs.History.{Book, Line, Follows, AreLegal, IsLegal, log_of, line_for, line_of_number}
use Rattle.mcs_kernel.specs.Faults.{has_room, context_fault, fault_of, with_entry}
use Rattle.mcs_kernel.specs.declared.fault.EnterFault.TheVariants.{NotRunning, WrongCore, BookFull}
use Rattle.mcs_seats.specs.Settling.{cut}
use Rattle.mcs_seats.specs.Trails.{IsKernelBook, StandsAt}

-- one line more
pub cut-next : (b : Book) (n : ℕ) (l : Line) → slice_get (reverse b.lines) n ≡ Some l
    → cut b (n + 1) ≡ record b { lines = l ∷ (cut b n).lines }
cut-next b n l e =
    let more : take (n + 1) (reverse b.lines) ≡ take n (reverse b.lines) ++ l ∷ [] =
    take_more (reverse b.lines) n l (slice_get_within (reverse b.lines) n l e)
    ∙ ap (λ x. take n (reverse b.lines) ++ x ∷ []) (get_or_from_slice_get (reverse b.lines) n l l e) in
    ap (λ ls. record b { lines = ls }) (ap (λ xs. reverse xs) more ∙ reverse-append (take n (reverse b.lines)) (l ∷ []))

-- the older of lines that follow one another
older : (B : Log) (newer ls : List Line) → AreLegal B (newer ++ ls) → AreLegal B ls
older B [] ls h = h
older B (l ∷ newer) ls h = older B newer ls h.1

-- lines are those that are cut off, and those before
parted : (ls : List Line) (n : ℕ) → ls ≡ reverse (drop n (reverse ls)) ++ reverse (take n (reverse ls))
parted ls n =
    sym (reverse-reverse ls)
    ∙ ap (λ xs. reverse xs) (sym (take-append-drop n (reverse ls)))
    ∙ reverse-append (take n (reverse ls)) (drop n (reverse ls))

-- the book when it had fewer lines is legal
pub legal-cut : (b : Book) (n : ℕ) → IsLegal b → IsLegal (cut b n)
legal-cut b n legal =
    let B : Log = boot_log b.boot.lines in
    let all = subst (λ ls. AreLegal B ls) (parted b.lines n) legal.lines in
    record {
      boot = legal.boot;
      lines = older B (reverse (drop n (reverse b.lines))) (reverse (take n (reverse b.lines))) all;
    }

-- a line that may follow is the one that its step makes
line-made : (R : Log) (l : Line) → Follows R l → line_for l.step (does R l.step.core l.step.thread l.step.entry) ≡ l
line-made R l h =
    let o : Outcome = does R l.step.core l.step.thread l.step.entry in
    let one : Line = record { step = l.step; answer = o.answer; records = o.records } in
    let two : Line = record { step = l.step; answer = l.answer; records = o.records } in
    let entered : one ≡ two = ap (λ a. record { step = l.step; answer = a; records = o.records }) (sym h.answer) in
    let made : two ≡ l = ap (λ rs. record { step = l.step; answer = l.answer; records = rs }) (sym h.records) in
    entered ∙ made

-- who may enter is accepted where there is room
let-in : (b : Book) (core : CoreId) (t : ObjId) → may_enter (log_of b) core t ≡ true → has_room b ≡ true
    → fault_of b core t ≡ None
unfolding fault_of may_enter
let-in b core t h room = go (is_ready (status_of (log_of b) t)) (context_of (log_of b) t) h
  where
    on : (v : Bool) → v ≡ true → cond v (cond (has_room b) None (Some BookFull)) (Some WrongCore) ≡ None
    on true e = rw room refl
    on false e = absurd cc

    go : (r : Bool) (o : Option ObjId) → r && is_on_core core (option_and_then (form_of (log_of b)) o) ≡ true
        → cond r (context_fault b core o) (Some NotRunning) ≡ None
    go true (Some s) k = on (is_on_core core (form_of (log_of b) s)) k
    go true None k = absurd cc
    go false o k = absurd cc

-- the next line, made again on the book before it
pub record IsMadeAgain (b : Book) (n : ℕ) (l : Line) : Type 0 where
  pub let_in : fault_of (cut b n) l.step.core l.step.thread ≡ None
  pub made : with_entry (cut b n) l.step.core l.step.thread l.step.entry ≡ cut b (n + 1)
  pub more : n < length b.lines

pub made-again : (b : Book) (n : ℕ) (l : Line) → IsKernelBook b → slice_get (reverse b.lines) n ≡ Some l → IsMadeAgain b n l
made-again b n l kept e =
    let next : cut b (n + 1) ≡ record b { lines = l ∷ (cut b n).lines } = cut-next b n l e in
    let legal : IsLegal (record b { lines = l ∷ (cut b n).lines }) = subst IsLegal next (legal-cut b (n + 1) kept.legal) in
    let follows : Follows (log_of (cut b n)) l = legal.lines.0 in
    let all : n < length b.lines = omega (arith, slice_get_within (reverse b.lines) n l e, length-reverse b.lines) in
    let short : length (cut b n).lines ≡ n =
    length-reverse (take n (reverse b.lines)) ∙ length-take-le n (reverse b.lines) (omega (arith, all, length-reverse b.lines)) in
    let few = kept.few in
    let room : has_room (cut b n) ≡ true = grind (arith, common_steps, short, all, few) in
    record {
      let_in = let-in (cut b n) l.step.core l.step.thread follows.enters room;
      made = ap (λ (x : Line). record b { lines = x ∷ (cut b n).lines }) (line-made (log_of (cut b n)) l follows) ∙ sym next;
      more = all;
    }

-- the line of a number
pub numbered : (b : Book) (at : ℕ) → 1 ≤ at → line_of_number b at ≡ slice_get (reverse b.lines) (at - 1)
numbered b at some = go (at == 0) refl
  where
    go : (v : Bool) → (at == 0) ≡ v → cond v None (slice_get (reverse b.lines) (at - 1)) ≡ slice_get (reverse b.lines) (at - 1)
    go false e = refl
    go true e = let no : at ≡ 0 = grind (arith, common_steps, e) in absurd (omega (arith, no, some))

-- if there is no line the book has ended
pub line-none : (b : Book) (at : ℕ) → 1 ≤ at → line_of_number b at ≡ None → length b.lines < at
line-none b at some e = elim (slice_get_cases (reverse b.lines) (at - 1)).1 [ inl h ↦ absurd (no h.0 h.2) | inr h ↦ past h.0 ]
  where
    none : slice_get (reverse b.lines) (at - 1) ≡ None
    none = sym (numbered b at some) ∙ e

    no : (l : Line) → slice_get (reverse b.lines) (at - 1) ≡ Some l → ⊥
    no l is = let both : None ≡ Some l = sym none ∙ is in absurd cc

    past : length (reverse b.lines) ≤ at - 1 → length b.lines < at
    past le = let whole = length-reverse b.lines in omega (arith, le, whole, some)

-- the next number
pub one-on : (at : ℕ) → 1 ≤ at → at - 1 + 1 ≡ at + 1 - 1
one-on at some = omega (arith, some)

-- the next line, made again on a replay that is before it
pub record IsAgain (b r : Book) (at : ℕ) (l : Line) : Type 0 where
  pub let_in : fault_of r l.step.core l.step.thread ≡ None
  pub stands : StandsAt b (with_entry r l.step.core l.step.thread l.step.entry) (at + 1)

pub stands-again : (b r : Book) (at : ℕ) (l : Line) → IsKernelBook b → StandsAt b r at → line_of_number b at ≡ Some l
    → IsAgain b r at l
stands-again b r at l kept stands e =
    let m : IsMadeAgain b (at - 1) l = made-again b (at - 1) l kept (sym (numbered b at stands.some) ∙ e) in
    let some = stands.some in
    let more = m.more in
    record {
      let_in = ap (λ (x : Book). fault_of x l.step.core l.step.thread) stands.is ∙ m.let_in;
      stands = record {
        some = omega arith;
        few = omega (arith, more, some);
        is = ap (λ (x : Book). with_entry x l.step.core l.step.thread l.step.entry) stands.is
            ∙ m.made ∙ ap (λ n. cut b n) (one-on at some);
      };
    }

-- two boots with the same cores and the same lines are one
pub same-boots : (one other : Boot) → one.cores ≡ other.cores → reverse one.lines ≡ reverse other.lines → one ≡ other
same-boots one other cores lines =
    let same : one.lines ≡ other.lines =
    sym (reverse-reverse one.lines) ∙ ap (λ xs. reverse xs) lines ∙ reverse-reverse other.lines in
    let left : Boot = record { cores = one.cores; lines = one.lines } in
    let middle : Boot = record { cores = other.cores; lines = one.lines } in
    let first : left ≡ middle = ap (λ (n : ℕ). record { cores = n; lines = one.lines }) cores in
    let second : middle ≡ other = ap (λ (ls : List BootLine). record { cores = other.cores; lines = ls }) same in
    first ∙ second
