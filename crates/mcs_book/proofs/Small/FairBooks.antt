-- A small legal book with a call and its answer, and that it is fair.
use Rattle.std.specs.Prelude.{ℕ, ◌≡◌, ◌≢◌, ◌<◌, ◌^◌, Bool, true, false, Some, None, List, [], ◌∷◌, ◌++◌, refl, unwrap_or, IsTrue}
use Rattle.std.proofs.Common.{inr, arith, subst, rules}
use Rattle.mcs_types.specs.declared.id.ObjId.{ObjId}
use Rattle.mcs_types.specs.declared.record.Rec.{Rec}
use Rattle.mcs_types.specs.declared.record.Rec.TheVariants as rec
use Rattle.mcs_types.specs.declared.record.Letter.{Letter}
use Rattle.mcs_types.specs.declared.record.SendMode.TheVariants as how
use Rattle.mcs_types.specs.declared.record.Queue.TheVariants.{Receivers}
use Rattle.mcs_types.specs.Ids.{same}
use Rattle.mcs_book.specs.Logs.{Log, onto, given}
use Rattle.mcs_book.specs.Objects.{is_alive}
use Rattle.mcs_types.specs.Chains.{head_of}
use Rattle.mcs_book.specs.Queues.{is_ahead}
use Rattle.mcs_book.specs.Contexts.{holder_of}
use Rattle.mcs_book.specs.Replies.{brought_to}
use Rattle.mcs_book.specs.Chains.{kept_debt, chain_of}
use Rattle.mcs_types.specs.declared.record.Mode.TheVariants.{Running}
use Rattle.mcs_types.specs.Ranges.{IsMessage}
use Rattle.mcs_types.specs.declared.boot.BootLine.{BootLine}
use Rattle.mcs_types.specs.declared.boot.BootLine.TheVariants as boot
use Rattle.mcs_book.specs.Boots.{boot_line, boot_log}
use Rattle.mcs_book.specs.History.{Book, IsLegal, AllInRange, steps_of, book_of}
use Rattle.mcs_book.specs.ExampleBoots.{five_threads, t, e, r, s}
use Rattle.mcs_book.specs.Each.{Each, EachLine, EachRecord}
use Rattle.mcs_book.specs.Fair.{TakesFirst, TakesInOrder, TakesAlive, AnswersOwed, AnswersWhole, IsFirstOfOne, IsFair}
use Rattle.mcs_book.specs.SmallBooks.{badge, text, answered}
use Rattle.mcs_book.proofs.Small.Computing.{computing}
use Rattle.mcs_book.proofs.Small.Examples.{five_threads_faultless}
use Rattle.mcs_types.proofs.Ids.{same-equal}
use Rattle.mcs_book.proofs.Books.ReplayLaws.{replayed-legal}
use Rattle.mcs_book.proofs.Messages.TakenOnce.{legal-taken_once}
use Rattle.mcs_book.proofs.WholeMessages.Lines.{legal-whole}
use Rattle.mcs_book.proofs.Messages.SendersOpen.{legal-not_cancelled}
use Rattle.mcs_book.proofs.Queues.NoneBeside.{legal-none_beside}

-- a message of a label alone is in range
pub text-in_range : (label : ℕ) → label < 2 ^ 52 → IsMessage (text label)
text-in_range label lt = record { label = lt; few = omega arith; words = search rules }

-- the steps of the book with a call are in range
answered-in_range : AllInRange (steps_of answered)
answered-in_range = ((omega arith, omega arith), (omega arith, ((omega arith, text-in_range 3 (omega arith)), ((omega arith, omega arith, text-in_range 4 (omega arith)), tt))))

-- they make the book
answered-replayed : book_of five_threads (steps_of answered) ≡ answered
unfolding computing
answered-replayed = refl

-- the law: it is legal
pub answered-legal : IsLegal answered
answered-legal = subst (λ (b : Book). IsLegal b) answered-replayed (replayed-legal five_threads (steps_of answered) five_threads_faultless answered-in_range)

-- whether a record neither takes a message nor is of a debt
abbrev is_quiet : Rec → Bool
is_quiet (rec.Took m p) = false
is_quiet (rec.Owes r x c) = false
is_quiet (rec.Paid r x m) = false
is_quiet (rec.Void r x ending) = false
is_quiet _ = true

module _ (P : Log → Rec → Type 0) (first : (R : Log) (x : Rec) → is_quiet x ≡ true → P R x) where
  -- what holds of the records that a boot makes holds of each of a line
  boot_line-each : (R S : Log) (line : BootLine) → Each P R → Each P (onto (boot_line S line) R)
  boot_line-each R S (boot.Thread priority maximum root guard runs (Some c)) h = (first _ _ refl, (first _ _ refl, (first _ _ refl, (first _ _ refl, h))))
  boot_line-each R S (boot.Thread priority maximum root guard runs None) h = (first _ _ refl, (first _ _ refl, (first _ _ refl, h)))
  boot_line-each R S (boot.CNode radix) h = (first _ _ refl, h)
  boot_line-each R S boot.Endpoint h = (first _ _ refl, h)
  boot_line-each R S boot.Notification h = (first _ _ refl, h)
  boot_line-each R S boot.Reply h = (first _ _ refl, h)
  boot_line-each R S (boot.Context core) h = (first _ _ refl, h)
  boot_line-each R S (boot.Slot c i held) h = (first _ _ refl, h)
  boot_line-each R S (boot.Tie t n) h = (first _ _ refl, h)

  -- and of each of a boot
  boot-each : (lines : List BootLine) → Each P (boot_log lines)
  unfolding boot_log
  boot-each [] = tt
  boot-each (line ∷ lines) = boot_line-each (boot_log lines) (boot_log lines) line (boot-each lines)

-- what is said of takes and answers is nothing for the records of a boot
pub boot-takes_first : Each TakesFirst (boot_log five_threads.lines)
boot-takes_first = boot-each TakesFirst none five_threads.lines
  where
    none : (R : Log) (x : Rec) → is_quiet x ≡ true → TakesFirst R x
    none R (rec.Took m p) h = absurd cc
    none R _ h = tt

-- the same of takes in order
pub boot-takes_in_order : Each TakesInOrder (boot_log five_threads.lines)
boot-takes_in_order = boot-each TakesInOrder none five_threads.lines
  where
    none : (R : Log) (x : Rec) → is_quiet x ≡ true → TakesInOrder R x
    none R (rec.Took m p) h = absurd cc
    none R _ h = tt

-- the same of takes at endpoints that are there
pub boot-takes_alive : Each TakesAlive (boot_log five_threads.lines)
boot-takes_alive = boot-each TakesAlive none five_threads.lines
  where
    none : (R : Log) (x : Rec) → is_quiet x ≡ true → TakesAlive R x
    none R (rec.Took m p) h = absurd cc
    none R _ h = tt

-- the same of answers
pub boot-answers : Each AnswersOwed (boot_log five_threads.lines)
boot-answers = boot-each AnswersOwed none five_threads.lines
  where
    none : (R : Log) (x : Rec) → is_quiet x ≡ true → AnswersOwed R x
    none R (rec.Owes a x c) h = absurd cc
    none R (rec.Paid a x m) h = absurd cc
    none R (rec.Void a x m) h = absurd cc
    none R _ h = tt

-- each answer and debt of the book with a call is as it should be
answered-owed : EachRecord AnswersOwed answered
unfolding computing
answered-owed = (tt, (tt, (tt, (refl, (tt, (tt, (refl, (tt, (tt, (tt, (tt, (tt, boot-answers))))))))))))

-- the message of the call
call_letter : Letter
call_letter = record { number = 0; sender = t 1; endpoint = e 1; mode = how.Call; badge = badge 0; message = text 3 }

-- what is found is one
pub found-same : (k l : Letter) → Some k ≡ Some l → k ≡ l
found-same k l is = cc

-- the log before the call is taken
call_log : Log
call_log = rec.Sent (t 1) (e 1) how.Call (badge 0) (text 3) ∷ rec.Holds (s 2) None ∷ rec.Joins (t 2) (Receivers (e 1)) (Some (r 1)) ∷ boot_log five_threads.lines

-- its taker is the first of the receivers, and its sender is in no queue
call-first : (l : Letter) → call_letter ≡ l → IsFirstOfOne call_log l (t 2)
unfolding computing call_log call_letter
call-first l it = subst (λ (l : Letter). IsFirstOfOne call_log l (t 2)) it (inr ((refl, λ u at other. alone u (same u (t 2)) refl at other), λ at. absurd cc))
  where
    alone : (u : ObjId) (b : Bool) → same u (t 2) ≡ b → unwrap_or (given b (Some (Receivers (e 1)))) None ≡ Some (Receivers (e 1)) → u ≢ t 2 → IsTrue (is_ahead call_log (t 2) u)
    alone u true is at other = absurd (other (same-equal u (t 2) is))
    alone u false is at other = absurd cc

-- each take of the book with a call is of the first
answered-takes_first : EachRecord TakesFirst answered
unfolding computing call_log call_letter
answered-takes_first = (tt, (tt, (tt, (tt, (tt, (tt, (tt, (tt, (λ l is. call-first l (found-same call_letter l is), (tt, (tt, (tt, boot-takes_first))))))))))))

-- no later message was taken before
answered-takes_in_order : EachRecord TakesInOrder answered
unfolding computing
answered-takes_in_order = (tt, (tt, (tt, (tt, (tt, (tt, (tt, (tt, (λ later lt k l is at senders. refl, (tt, (tt, (tt, boot-takes_in_order))))))))))))

-- the endpoint is there
answered-takes_alive : EachRecord TakesAlive answered
unfolding computing call_log call_letter
answered-takes_alive = (tt, (tt, (tt, (tt, (tt, (tt, (tt, (tt, (λ l is. subst (λ (l : Letter). IsTrue (is_alive call_log l.endpoint)) (found-same call_letter l is) refl, (tt, (tt, (tt, boot-takes_alive))))))))))))

-- the log before the call is answered
called_log : Log
called_log = rec.Turns (t 2) Running ∷ rec.Holds (s 1) (Some (t 2)) ∷ rec.Owes (r 1) (t 1) (Some (s 1)) ∷ rec.Parts (t 2) (Receivers (e 1)) ∷ rec.Took 0 (t 2) ∷ call_log

-- the log after the answer
answered_log : Log
answered_log = rec.Joins (t 2) (Receivers (e 1)) (Some (r 1)) ∷ rec.Holds (s 1) (Some (t 1)) ∷ rec.Turns (t 1) Running ∷ rec.Paid (r 1) (t 1) (text 4) ∷ called_log

-- the context whose chain the reply object tops is the one that it brought, and it returns
call-gives_back : (c : ObjId) → head_of (chain_of called_log c) ≡ Some (r 1) → (brought_to called_log (r 1) ≡ Some c) × (holder_of answered_log c ≡ Some (t 1))
unfolding computing call_log called_log answered_log
call-gives_back c tops = go (same (s 1) c) (rec.Holds (s 1) (Some (t 2)) ∷ rec.Turns (t 2) Running ∷ []) refl tops
  where
    go : (b : Bool) (later : List Rec) → same (s 1) c ≡ b → head_of (kept_debt c (given b (r 1)) later ++ []) ≡ Some (r 1) → (brought_to called_log (r 1) ≡ Some c) × (holder_of answered_log c ≡ Some (t 1))
    go true later is top = subst (λ (c : ObjId). (brought_to called_log (r 1) ≡ Some c) × (holder_of answered_log c ≡ Some (t 1))) (same-equal (s 1) c is) (refl, refl)
    go false later is top = absurd cc

-- the answer is whole, and returns the context
answered-whole : EachLine AnswersWhole answered
unfolding computing call_log called_log answered_log
answered-whole = (
  (((λ c tops holds. call-gives_back c tops), (tt, (tt, (tt, tt)))), ((refl, refl), (tt, (tt, (tt, tt))))),
  (
    ((tt, (tt, (tt, (tt, (tt, (tt, tt)))))), (tt, (tt, (tt, (tt, (tt, (tt, tt))))))),
    (((tt, tt), (tt, tt)), (((tt, tt), (tt, tt)), tt)),
  ),
)

-- the law: it is fair
pub answered-fair : IsFair answered
answered-fair = record {
  taken_once = legal-taken_once answered answered-legal;
  whole = legal-whole answered answered-legal;
  by_priority = answered-takes_first;
  in_order = answered-takes_in_order;
  not_deleted = answered-takes_alive;
  not_cancelled = legal-not_cancelled answered answered-legal;
  answered_once = answered-owed;
  answered_whole = answered-whole;
  none_beside = legal-none_beside answered answered-legal;
}
