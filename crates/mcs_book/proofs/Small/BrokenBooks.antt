-- Each law of fair books says something: a small book breaks it.
use Rattle.std.specs.Prelude.{ℕ, true, false, ◌≡◌, ◌<◌, Some, None, refl}
use Rattle.std.proofs.Common.{sym, ap, inl, inr, arith}
use Rattle.mcs_types.specs.Views.{Content}
use Rattle.mcs_types.specs.declared.record.SendMode.TheVariants as how
use Rattle.mcs_types.specs.declared.record.Queue.TheVariants.{Receivers}
use Rattle.mcs_types.specs.declared.id.ObjId.{ObjId}
use Rattle.mcs_types.specs.declared.id.Badge.{Badge}
use Rattle.mcs_types.specs.declared.entry.Answer.TheVariants.{Got}
use Rattle.mcs_book.specs.ExampleBoots.{t, e, s}
use Rattle.mcs_book.specs.Each.{EachLine, AfterEachLine, EachRecord}
use Rattle.mcs_book.specs.Fair.{EndsOpen, IsWholeLine, TakesFirst, TakesInOrder, TakesAlive, SendersAreOpen, AnswersOwed, AnswersWhole, NoneWaitBeside}
use Rattle.mcs_book.specs.SmallBooks.{badge, text, second_take, wrong_badge, not_the_first, out_of_order, after_the_end, nothing_sent, paid_twice, kept_context, both_wait}
use Rattle.mcs_book.proofs.Small.Computing.{computing}

-- a test that fails does not hold
fails : false ≡ true → ⊥
fails holds = absurd cc

-- nothing is not something
nothing-some : {A : Type 0} (x : A) → None ≡ Some x → ⊥
nothing-some x is = absurd cc

-- two badges
badges-apart : (m : Content) → Got (badge 5) m ≡ Got (badge 9) m → ⊥
badges-apart m same = let it : badge 5 ≡ badge 9 = cc in let n : 5 ≡ 9 = ap (λ (b : Badge). b.0) it in absurd (omega (arith, n))

-- two threads
threads-apart : (i j : ℕ) → i < j → t i ≡ t j → ⊥
threads-apart i j lt same = let n : i ≡ j = ap (λ (o : ObjId). o.serial) same in absurd (omega (arith, n, lt))

-- two holders
holders-apart : Some (t 2) ≡ Some (t 1) → ⊥
holders-apart same = let it : t 2 ≡ t 1 = cc in threads-apart 1 2 (omega arith) (sym it)

-- the second take is of no open message
pub breaks-taken_once : EachRecord EndsOpen second_take → ⊥
unfolding computing
breaks-taken_once h = fails h.1.1.0

-- the answer has another badge than the message
pub breaks-whole : EachLine IsWholeLine wrong_badge → ⊥
unfolding computing
breaks-whole h = badges-apart (text 1) ((h.0.1.0 (record { number = 0; sender = t 1; endpoint = e 1; mode = how.Plain; badge = badge 9; message = text 1 }) refl).0 refl)

-- neither is the sender the first of the senders, nor is the taker among the receivers
pub breaks-by_priority : EachRecord TakesFirst not_the_first → ⊥
unfolding computing
breaks-by_priority h =
    elim (h.1.1.0 (record { number = 0; sender = t 1; endpoint = e 1; mode = how.Plain; badge = badge 9; message = text 1 }) refl) [
      | inl first ↦ fails (first.0.1 (t 2) refl (λ same. threads-apart 1 2 (omega arith) (sym same)))
      | inr first ↦ nothing-some (Receivers (e 1)) first.0.0
    ]

-- a later message of the sender was taken before
pub breaks-in_order : EachRecord TakesInOrder out_of_order → ⊥
unfolding computing
breaks-in_order h =
    fails (sym (h.1.1.0 1 (omega arith)
    (record { number = 0; sender = t 1; endpoint = e 1; mode = how.Plain; badge = badge 9; message = text 1 })
    (record { number = 1; sender = t 1; endpoint = e 1; mode = how.Plain; badge = badge 9; message = text 1 }) refl refl refl))

-- the endpoint is not there any more
pub breaks-not_deleted : EachRecord TakesAlive after_the_end → ⊥
unfolding computing
breaks-not_deleted h = fails (h.1.1.0 (record { number = 0; sender = t 1; endpoint = e 1; mode = how.Plain; badge = badge 9; message = text 1 }) refl)

-- no message of the queued sender is open
pub breaks-not_cancelled : AfterEachLine SendersAreOpen nothing_sent → ⊥
unfolding computing
breaks-not_cancelled h = let (m, o) = h.0.queued (t 1) (e 1) refl in nothing-some o.sent o.is_letter

-- the second answer is owed to no thread
pub breaks-answered_once : EachRecord AnswersOwed paid_twice → ⊥
unfolding computing
breaks-answered_once h = nothing-some (t 1) h.1.0

-- the context stays with the one who answered
pub breaks-answered_whole : EachLine AnswersWhole kept_context → ⊥
unfolding computing
breaks-answered_whole h = holders-apart (h.0.0.0 (s 1) refl refl).1

-- a sender and a receiver are in their queues
pub breaks-none_beside : AfterEachLine NoneWaitBeside both_wait → ⊥
unfolding computing
breaks-none_beside h = h.0 (e 1) (t 1) (t 2) refl refl
