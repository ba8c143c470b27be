-- What a step that is taken or skipped does to the book, and a run of steps cut at one of them.
use Rattle.std.specs.Prelude.{ℕ, ◌≡◌, ◌≢◌, ◌<◌, ◌+◌, ◌^◌, ◌&&◌, Bool, true, false, cond, List, [], ◌∷◌, fold, Option, Some, None, Result, Err, option_and_then}
use Rattle.std.specs.Option.{IfSome, IfNone}
use Rattle.std.specs.Result.{IfErr}
use Rattle.std.proofs.Common.{refl, ap, sym, ◌∙◌, subst, arith}
use Rattle.mcs_types.specs.declared.id.ObjId.{ObjId}
use Rattle.mcs_types.specs.declared.id.CoreId.{CoreId}
use Rattle.mcs_types.specs.declared.entry.Answer.{Answer}
use Rattle.mcs_types.specs.declared.entry.Step.{Step}
use Rattle.mcs_book.specs.Objects.{form_of}
use Rattle.mcs_book.specs.Contexts.{context_of}
use Rattle.mcs_book.specs.Statuses.{status_of, is_ready, is_on_core, may_enter}
use Rattle.mcs_book.specs.History.{Book, log_of, with_step, book_of}
use Rattle.mcs_book.specs.Table.{does}
use Rattle.mcs_book.specs.Boots.{Boot}
use Rattle.mcs_kernel.specs.declared.fault.EnterFault.{EnterFault}
use Rattle.mcs_kernel.specs.declared.fault.EnterFault.TheVariants.{NotRunning, WrongCore, BookFull, OutOfMemory}
use Rattle.mcs_kernel.specs.Faults.{has_room, context_fault, fault_of, entered}
use Rattle.mcs_kernel.specs.declared.fault.ReplayFault.{ReplayFault}
use Rattle.mcs_kernel.specs.declared.fault.ReplayFault.TheVariants as ended
use Rattle.mcs_kernel.specs.Runs.{Run, after_step, next_count, answer_to, is_book_full, full_after, EndsAt, StepEnds}
use Rattle.mcs_kernel.proofs.Serving.{fault-none}

-- who is skipped for another reason than a full book may not enter
pub turned-away : (b : Book) (core : CoreId) (t : ObjId) (f : EnterFault) → fault_of b core t ≡ Some f → is_book_full (Some f) ≡ false → may_enter (log_of b) core t ≡ false
unfolding fault_of may_enter
turned-away b core t f h other = go (is_ready (status_of (log_of b) t)) (context_of (log_of b) t) h
  where
    room : (w : Bool) → cond w None (Some BookFull) ≡ Some f → false ≡ true
    room true k = absurd cc
    room false k = let it : BookFull ≡ f = cc in sym other ∙ ap (λ x. is_book_full (Some x)) (sym it)

    on : (v : Bool) → cond v (cond (has_room b) None (Some BookFull)) (Some WrongCore) ≡ Some f → v ≡ false
    on true k = sym (room (has_room b) k)
    on false k = refl

    go : (r : Bool) (o : Option ObjId) → cond r (context_fault b core o) (Some NotRunning) ≡ Some f → r && is_on_core core (option_and_then (form_of (log_of b)) o) ≡ false
    go false o k = refl
    go true None k = refl
    go true (Some s) k = on (is_on_core core (form_of (log_of b) s)) k

-- the fault that an answer shows
pub fault-shown : (o : Option EnterFault) (r : Result Answer EnterFault) (f : EnterFault) → r ≡ Err f → IfSome o (λ g. r ≡ Err g) → IfNone o (IfErr r (λ g. g ≡ OutOfMemory)) → f ≢ OutOfMemory → o ≡ Some f
fault-shown (Some g) r f is some none other = let it : Err g ≡ Err f = sym some ∙ is in ap (λ x. Some x) cc
fault-shown None r f is some none other = absurd (other (subst (λ x. IfErr x (λ g. g ≡ OutOfMemory)) is none))

-- a book after a step, and what that is answered, where it may enter or not
abbrev stepped : Book → Step → Bool → Book
stepped b s v = elim v [ true ↦ entered b s | false ↦ b ]

abbrev answered : Book → Step → Bool → Option Answer
answered b s v = elim v [ true ↦ Some ((does (log_of b) s.core s.thread s.entry).answer) | false ↦ None ]

-- a step that is accepted
pub step-taken : (b : Book) (s : Step) → fault_of b s.core s.thread ≡ None → with_step b s ≡ entered b s
step-taken b s none = ap (λ v. stepped b s v) ((fault-none b s.core s.thread none).0)

pub answer-taken : (b : Book) (s : Step) → fault_of b s.core s.thread ≡ None → answer_to b s ≡ Some ((does (log_of b) s.core s.thread s.entry).answer)
answer-taken b s none = ap (λ v. answered b s v) ((fault-none b s.core s.thread none).0)

-- one that is skipped with this fault
module _ (b : Book) (s : Step) (r : Result Answer EnterFault) (f : EnterFault) (is : r ≡ Err f) (some : IfSome (fault_of b s.core s.thread) (λ g. r ≡ Err g))
    (none : IfNone (fault_of b s.core s.thread) (IfErr r (λ g. g ≡ OutOfMemory))) (other : f ≢ OutOfMemory) (not_full : is_book_full (Some f) ≡ false) where
  not-in : may_enter (log_of b) s.core s.thread ≡ false
  not-in = turned-away b s.core s.thread f (fault-shown (fault_of b s.core s.thread) r f is some none other) not_full

  pub step-skipped : with_step b s ≡ b
  step-skipped = ap (λ v. stepped b s v) not-in

  pub answer-skipped : answer_to b s ≡ None
  answer-skipped = ap (λ v. answered b s v) not-in

-- a replay that took a step
pub run-stepped : (r : Run) (s : Step) (b : Book) (n : ℕ) → b ≡ with_step r.book s → n ≡ next_count r.taken → record { book = b; taken = n } ≡ after_step r s
run-stepped r s b n book count = ap (λ x. record { book = x; taken = n }) book ∙ ap (λ k. record { book = with_step r.book s; taken = k }) count

-- the book of all steps, begun on the boot alone
pub book-begun : (boot : Boot) (b : Book) (ss : List Step) → b ≡ record { boot = boot; lines = [] } → fold with_step b ss ≡ book_of boot ss
unfolding book_of
book-begun boot b ss is = ap (λ x. fold with_step x ss) is

-- the first step with a full book comes after those that were taken before
pub full-later : (n : ℕ) (b : Book) (ss : List Step) → IfSome (full_after n b ss) (λ m. n < m)
full-later n b [] = tt
full-later n b (s ∷ ss) = go (is_book_full (fault_of b s.core s.thread)) (full_after (n + 1) (with_step b s) ss) (full-later (n + 1) (with_step b s) ss)
  where
    go : (v : Bool) (o : Option ℕ) → IfSome o (λ m. n + 1 < m) → IfSome (cond v (Some (n + 1)) o) (λ m. n < m)
    go true o h = omega arith
    go false None h = tt
    go false (Some m) h = omega (arith, h)

-- a count that has room is one more
pub counts-on : (n : ℕ) → n + 1 < 2 ^ 64 → next_count n ≡ n + 1
counts-on n few = omega (arith, few)

-- a fault of the first of the steps that are left, when n were taken, is one of all steps
pub ends-at-next : (n : ℕ) (b : Book) (s : Step) (ss : List Step) (count : ℕ) (f : ReplayFault) → StepEnds (n + 1) (is_book_full (fault_of b s.core s.thread)) f
    → n < count → EndsAt count (full_after n b (s ∷ ss)) f
ends-at-next n b s ss count (ended.BookFull m) ends few =
    ap (λ v. cond v (Some (n + 1)) (full_after (n + 1) (with_step b s) ss)) ends.1 ∙ ap (λ k. Some k) (sym ends.0)
ends-at-next n b s ss count (ended.OutOfMemory m) ends few =
    (omega (arith, ends.0, few), subst (λ k. IfSome (full_after n b (s ∷ ss)) (λ j. k < j)) (sym ends.0) later)
  where
    later : IfSome (full_after n b (s ∷ ss)) (λ j. n + 1 < j)
    later = subst (λ v. IfSome (cond v (Some (n + 1)) (full_after (n + 1) (with_step b s) ss)) (λ j. n + 1 < j)) (sym ends.1) (full-later (n + 1) (with_step b s) ss)
