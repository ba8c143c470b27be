-- A small legal book with two senders in the queue, and that it is fair.
use Rattle.std.specs.Prelude.{ℕ, ◌≡◌, ◌≢◌, ◌==◌, ◌||◌, Bool, true, false, Some, None, ◌∷◌, refl, unwrap_or, IsTrue}
use Rattle.std.specs.List.{list_any}
use Rattle.std.proofs.Common.{sym, ◌∙◌, ap, inl, arith, subst}
use Rattle.std.proofs.lemmas.Bool.{eqb-true}
use Rattle.mcs_types.specs.declared.id.ObjId.{ObjId}
use Rattle.mcs_types.specs.declared.record.Rec.TheVariants as rec
use Rattle.mcs_types.specs.declared.record.Letter.{Letter}
use Rattle.mcs_types.specs.declared.record.Mode.TheVariants.{Running}
use Rattle.mcs_types.specs.declared.record.SendMode.TheVariants as how
use Rattle.mcs_types.specs.declared.record.Queue.TheVariants.{Senders}
use Rattle.mcs_types.specs.Ids.{same}
use Rattle.mcs_book.specs.Logs.{Log, given}
use Rattle.mcs_book.specs.Objects.{is_alive}
use Rattle.mcs_book.specs.Queues.{is_ahead}
use Rattle.mcs_book.specs.Messages.{letter}
use Rattle.mcs_book.specs.Boots.{boot_log}
use Rattle.mcs_book.specs.History.{Book, IsLegal, AllInRange, steps_of, book_of}
use Rattle.mcs_book.specs.ExampleBoots.{five_threads, t, e}
use Rattle.mcs_book.specs.Each.{EachLine, EachRecord}
use Rattle.mcs_book.specs.Fair.{TakesFirst, TakesInOrder, TakesAlive, AnswersOwed, AnswersWhole, IsFirstOfOne, IsFair, takes}
use Rattle.mcs_book.specs.SmallBooks.{badge, text, taken_in_turn}
use Rattle.mcs_book.proofs.Small.Computing.{computing}
use Rattle.mcs_book.proofs.Small.Examples.{five_threads_faultless}
use Rattle.mcs_types.proofs.Ids.{same-equal}
use Rattle.mcs_book.proofs.Books.ReplayLaws.{replayed-legal}
use Rattle.mcs_book.proofs.Messages.TakenOnce.{legal-taken_once}
use Rattle.mcs_book.proofs.WholeMessages.Lines.{legal-whole}
use Rattle.mcs_book.proofs.Messages.SendersOpen.{legal-not_cancelled}
use Rattle.mcs_book.proofs.Queues.NoneBeside.{legal-none_beside}
use Rattle.mcs_book.proofs.Small.FairBooks.{text-in_range, boot-takes_first, boot-takes_in_order, boot-takes_alive, boot-answers, found-same}

-- its steps are in range
turns-in_range : AllInRange (steps_of taken_in_turn)
turns-in_range = ((omega arith, text-in_range 1 (omega arith)), ((omega arith, text-in_range 2 (omega arith)), ((omega arith, omega arith), ((omega arith, omega arith), tt))))

-- they make the book
turns-replayed : book_of five_threads (steps_of taken_in_turn) ≡ taken_in_turn
unfolding computing
turns-replayed = refl

-- the law: it is legal
pub turns-legal : IsLegal taken_in_turn
turns-legal = subst (λ (b : Book). IsLegal b) turns-replayed (replayed-legal five_threads (steps_of taken_in_turn) five_threads_faultless turns-in_range)

-- the message of the first thread, and then that of the second
letter_of : ℕ → ℕ → Letter
letter_of m i = record { number = m; sender = t i; endpoint = e 1; mode = how.Plain; badge = badge 9; message = text i }

-- the log when both are in their queues
both_log : Log
both_log = rec.Joins (t 2) (Senders (e 1)) None ∷ rec.Sent (t 2) (e 1) how.Plain (badge 9) (text 2) ∷ rec.Joins (t 1) (Senders (e 1)) None ∷ rec.Sent (t 1) (e 1) how.Plain (badge 9) (text 1) ∷ boot_log five_threads.lines

-- the log when the second was taken
one_log : Log
one_log = rec.Turns (t 2) Running ∷ rec.Parts (t 2) (Senders (e 1)) ∷ rec.Took 1 (t 5) ∷ both_log

-- the second thread is the first in the queue
second-first : (l : Letter) → letter_of 1 2 ≡ l → IsFirstOfOne both_log l (t 5)
unfolding computing both_log letter_of
second-first l it = subst (λ (l : Letter). IsFirstOfOne both_log l (t 5)) it (inl ((refl, λ u at other. alone u (same u (t 2)) refl (same u (t 1)) refl at other), λ at. absurd cc))
  where
    alone : (u : ObjId) (b : Bool) → same u (t 2) ≡ b → (c : Bool) → same u (t 1) ≡ c → unwrap_or (given b (Some (Senders (e 1)))) (unwrap_or (given c (Some (Senders (e 1)))) None) ≡ Some (Senders (e 1)) → u ≢ t 2 → IsTrue (is_ahead both_log (t 2) u)
    alone u true is c of at other = absurd (other (same-equal u (t 2) is))
    alone u false is true of at other = subst (λ (u : ObjId). IsTrue (is_ahead both_log (t 2) u)) (sym (same-equal u (t 1) of)) refl
    alone u false is false of at other = absurd cc

-- then the first thread is
first-then : (l : Letter) → letter_of 0 1 ≡ l → IsFirstOfOne one_log l (t 5)
unfolding computing one_log both_log letter_of
first-then l it = subst (λ (l : Letter). IsFirstOfOne one_log l (t 5)) it (inl ((refl, λ u at other. alone u (same u (t 2)) (same u (t 1)) refl at other), λ at. absurd cc))
  where
    alone : (u : ObjId) (b : Bool) (c : Bool) → same u (t 1) ≡ c → unwrap_or (given b None) (unwrap_or (given b (Some (Senders (e 1)))) (unwrap_or (given c (Some (Senders (e 1)))) None)) ≡ Some (Senders (e 1)) → u ≢ t 1 → IsTrue (is_ahead one_log (t 1) u)
    alone u true c of at other = absurd cc
    alone u false true of at other = absurd (other (same-equal u (t 1) of))
    alone u false false of at other = absurd cc

-- each take is of the first
turns-takes_first : EachRecord TakesFirst taken_in_turn
unfolding computing one_log both_log letter_of
turns-takes_first = (tt, (tt, (λ l is. first-then l (found-same (letter_of 0 1) l is), (tt, (tt, (λ l is. second-first l (found-same (letter_of 1 2) l is), (tt, (tt, (tt, (tt, boot-takes_first))))))))))

-- the message that was taken before is of the other sender
other-sender : (later : ℕ) (k l : Letter) → letter_of 0 1 ≡ k → letter one_log later ≡ Some l → l.sender ≡ k.sender → list_any (takes later) one_log ≡ false
unfolding computing one_log both_log letter_of
other-sender later k l it at senders = go (later == 1) refl
  where
    apart : t 2 ≡ t 1 → ⊥
    apart same = let n : 2 ≡ 1 = ap (λ (o : ObjId). o.serial) same in absurd (omega (arith, n))

    go : (b : Bool) → (later == 1) ≡ b → (b || false) ≡ false
    go false is = refl
    go true is =
        let there : letter one_log 1 ≡ Some l = ap (letter one_log) (sym (eqb-true later 1 is)) ∙ at in
        absurd (apart (ap (λ (z : Letter). z.sender) (found-same (letter_of 1 2) l there) ∙ senders ∙ ap (λ (z : Letter). z.sender) (sym it)))

-- no later message of a sender was taken before
turns-takes_in_order : EachRecord TakesInOrder taken_in_turn
unfolding computing one_log both_log letter_of
turns-takes_in_order = (tt, (tt, (λ later lt k l is at senders. other-sender later k l (found-same (letter_of 0 1) k is) at senders, (tt, (tt, (λ later lt k l is at senders. refl, (tt, (tt, (tt, (tt, boot-takes_in_order))))))))))

-- the endpoint is there
turns-takes_alive : EachRecord TakesAlive taken_in_turn
unfolding computing one_log both_log letter_of
turns-takes_alive = (
  tt,
  (
    tt,
    (
      λ l is. subst (λ (l : Letter). IsTrue (is_alive one_log l.endpoint)) (found-same (letter_of 0 1) l is) refl,
      (tt, (tt, (λ l is. subst (λ (l : Letter). IsTrue (is_alive both_log l.endpoint)) (found-same (letter_of 1 2) l is) refl, (tt, (tt, (tt, (tt, boot-takes_alive))))))),
    ),
  ),
)

-- nothing is answered
turns-answers : EachRecord AnswersOwed taken_in_turn
unfolding computing
turns-answers = (tt, (tt, (tt, (tt, (tt, (tt, (tt, (tt, (tt, (tt, boot-answers))))))))))

-- so nothing is said of answers
turns-whole : EachLine AnswersWhole taken_in_turn
unfolding computing
turns-whole = (((tt, (tt, (tt, tt))), (tt, (tt, (tt, tt)))), (((tt, (tt, (tt, tt))), (tt, (tt, (tt, tt)))), (((tt, (tt, tt)), (tt, (tt, tt))), (((tt, (tt, tt)), (tt, (tt, tt))), tt))))

-- the law: it is fair
pub turns-fair : IsFair taken_in_turn
turns-fair = record {
  taken_once = legal-taken_once taken_in_turn turns-legal;
  whole = legal-whole taken_in_turn turns-legal;
  by_priority = turns-takes_first;
  in_order = turns-takes_in_order;
  not_deleted = turns-takes_alive;
  not_cancelled = legal-not_cancelled taken_in_turn turns-legal;
  answered_once = turns-answers;
  answered_whole = turns-whole;
  none_beside = legal-none_beside taken_in_turn turns-legal;
}
