-- Small books on one boot: two that are legal, and for each law of fair books one that breaks it.
-- Records are in the order in which they were made, lines the newest first.
use Rattle.std.specs.Prelude.{ℕ, None, Some, List, [], ◌∷◌}
use Rattle.mcs_types.specs.Views.{Content}
use Rattle.mcs_types.specs.declared.id.Badge.{Badge}
use Rattle.mcs_types.specs.declared.record.SendMode.TheVariants as how
use Rattle.mcs_types.specs.declared.record.Mode.TheVariants.{Running}
use Rattle.mcs_types.specs.declared.record.Queue.TheVariants.{Senders, Receivers}
use Rattle.mcs_types.specs.declared.record.Rec.{Rec}
use Rattle.mcs_types.specs.declared.record.Rec.TheVariants as rec
use Rattle.mcs_types.specs.declared.entry.Answer.{Answer}
use Rattle.mcs_types.specs.declared.entry.Answer.TheVariants.{Done, Got, Waits}
use Rattle.mcs_types.specs.declared.entry.Entry.{Entry}
use Rattle.mcs_types.specs.declared.entry.Entry.TheVariants as do_
use Rattle.mcs_types.specs.declared.entry.Step.{Step}
use Rattle.mcs_book.specs.History.{Line, Book}
use Rattle.mcs_book.specs.ExampleBoots.{five_threads, t, e, r, s}

-- a badge
abbrev pub badge : ℕ → Badge
badge b = record { 0 = b }

-- a message of a label alone
abbrev pub text : ℕ → Content
text label = record { label = label; words = [] }

-- an entry of thread i on the first core
abbrev pub by : ℕ → Entry → Step
by i entry = record { core = record { 0 = 0 }; thread = t i; entry = entry }

-- a line of thread i
abbrev pub line : ℕ → Entry → Answer → List Rec → Line
line i entry answer records = record { step = by i entry; answer = answer; records = records }

-- a book on the boot of five threads
abbrev pub on_five_threads : List Line → Book
on_five_threads lines = record { boot = five_threads; lines = lines }

-- thread i, whose capability has the badge 9, is in its queue with a message of label i
abbrev pub waits_to_send : ℕ → Line
waits_to_send i = line i (do_.Send 1 (text i)) Waits (rec.Sent (t i) (e 1) how.Plain (badge 9) (text i) ∷ rec.Joins (t i) (Senders (e 1)) None ∷ [])

-- thread i is in its queue to receive
abbrev pub waits_to_receive : ℕ → Line
waits_to_receive i = line i (do_.Recv 2 8) Waits (rec.Joins (t i) (Receivers (e 1)) (Some (r 1)) ∷ [])

-- thread i takes message m of thread j, and is answered with this badge
abbrev pub takes_with : Badge → ℕ → ℕ → ℕ → Line
takes_with b i m j = line i (do_.Recv 2 8) (Got b (text j)) (rec.Took m (t i) ∷ rec.Parts (t j) (Senders (e 1)) ∷ rec.Turns (t j) Running ∷ [])

-- the first thread, whose context is its own, calls the second, which is in its queue without one
-- and gets it
abbrev pub calls : Line
calls = line 1 (do_.Call 2 (text 3)) Waits (rec.Sent (t 1) (e 1) how.Call (badge 0) (text 3) ∷ rec.Took 0 (t 2) ∷ rec.Parts (t 2) (Receivers (e 1)) ∷ rec.Owes (r 1) (t 1) (Some (s 1)) ∷ rec.Holds (s 1) (Some (t 2)) ∷ rec.Turns (t 2) Running ∷ [])

-- the second thread answers, and receives again; `back` is what becomes of the context
abbrev pub answers_with : List Rec → Line
answers_with back = line 2 (do_.ReplyRecv 2 8 (text 4)) Waits (rec.Paid (r 1) (t 1) (text 4) ∷ rec.Turns (t 1) Running ∷ back)

-- the second thread receives and loses its context, and the first calls it
abbrev pub called : List Line
called = calls ∷ line 1 (do_.UnbindCtx 22) Done (rec.Holds (s 2) None ∷ []) ∷ waits_to_receive 2 ∷ []

-- a legal book: a call, its answer, and the context that returns
abbrev pub answered : Book
answered = on_five_threads (answers_with (rec.Holds (s 1) (Some (t 1)) ∷ rec.Joins (t 2) (Receivers (e 1)) (Some (r 1)) ∷ []) ∷ called)

-- a legal book: two senders in the queue, of whom the one of greater priority is taken first
abbrev pub taken_in_turn : Book
taken_in_turn = on_five_threads (takes_with (badge 9) 5 0 1 ∷ takes_with (badge 9) 5 1 2 ∷ waits_to_send 2 ∷ waits_to_send 1 ∷ [])

-- a message is taken twice
abbrev pub second_take : Book
second_take = on_five_threads (takes_with (badge 9) 5 0 1 ∷ takes_with (badge 9) 2 0 1 ∷ waits_to_send 1 ∷ [])

-- a message is taken with another badge than it was sent with
abbrev pub wrong_badge : Book
wrong_badge = on_five_threads (takes_with (badge 5) 2 0 1 ∷ waits_to_send 1 ∷ [])

-- of two senders in the queue the one of lower priority is taken
abbrev pub not_the_first : Book
not_the_first = on_five_threads (takes_with (badge 9) 5 0 1 ∷ waits_to_send 2 ∷ waits_to_send 1 ∷ [])

-- of two messages of one sender the later is taken first
abbrev pub out_of_order : Book
out_of_order = on_five_threads (takes_with (badge 9) 5 0 1 ∷ takes_with (badge 9) 5 1 1 ∷ waits_to_send 1 ∷ waits_to_send 1 ∷ [])

-- a message is taken once its endpoint was closed
abbrev pub after_the_end : Book
after_the_end = on_five_threads (takes_with (badge 9) 2 0 1 ∷ line 5 (do_.DeleteCap (record { index = 2; depth = 64 })) Done (rec.Closed (e 1) ∷ []) ∷ waits_to_send 1 ∷ [])

-- a sender is in its queue, and no message of it is open
abbrev pub nothing_sent : Book
nothing_sent = on_five_threads (line 1 (do_.Send 1 (text 1)) Waits (rec.Joins (t 1) (Senders (e 1)) None ∷ []) ∷ [])

-- a call is answered twice
abbrev pub paid_twice : Book
paid_twice = on_five_threads (answers_with [] ∷ answers_with (rec.Holds (s 1) (Some (t 1)) ∷ []) ∷ called)

-- a call is answered, and the context that it brought does not return
abbrev pub kept_context : Book
kept_context = on_five_threads (answers_with (rec.Joins (t 2) (Receivers (e 1)) (Some (r 1)) ∷ []) ∷ called)

-- a sender is in its queue where a receiver is
abbrev pub both_wait : Book
both_wait = on_five_threads (waits_to_send 1 ∷ waits_to_receive 2 ∷ [])
