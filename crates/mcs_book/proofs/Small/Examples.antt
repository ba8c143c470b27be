-- Examples, records and all, by computation.
use Rattle.std.specs.Prelude.{ℕ, ◌+◌, ◌≡◌, ◌-◌, drop, length, Some, None, List, [], ◌∷◌, ◌++◌, map, reverse, refl}
use Rattle.std.proofs.Common.{arith}
use Rattle.mcs_types.specs.Views.{Content}
use Rattle.mcs_types.specs.declared.id.Badge.{Badge}
use Rattle.mcs_types.specs.declared.record.SendMode.TheVariants as how
use Rattle.mcs_types.specs.declared.record.Mode.TheVariants.{Running, Restart, Inactive}
use Rattle.mcs_types.specs.declared.record.Queue.TheVariants.{Senders, Receivers, Waiters}
use Rattle.mcs_types.specs.declared.record.Rec.{Rec}
use Rattle.mcs_types.specs.declared.record.Rec.TheVariants as rec
use Rattle.mcs_types.specs.declared.cap.Place.{Place}
use Rattle.mcs_types.specs.declared.record.Form.TheVariants as form
use Rattle.mcs_types.specs.declared.record.Ending.TheVariants as ending
use Rattle.mcs_types.specs.declared.entry.Refusal.{Refusal}
use Rattle.mcs_types.specs.declared.entry.Refusal.TheVariants as refusal
use Rattle.mcs_types.specs.declared.entry.Answer.{Answer}
use Rattle.mcs_types.specs.declared.entry.Answer.TheVariants.{Done, Empty, Got, Heard, Waits, Refused}
use Rattle.mcs_types.specs.declared.entry.Entry.{Entry}
use Rattle.mcs_types.specs.declared.entry.Entry.TheVariants as do_
use Rattle.mcs_book.specs.Pieces.{Outcome}
use Rattle.mcs_types.specs.declared.entry.Step.{Step}
use Rattle.mcs_book.specs.Boots.{IsFaultless, AreFaultless}
use Rattle.mcs_book.specs.History.{Line, book_of}
use Rattle.mcs_book.specs.ExampleBoots.{five_threads, two_roots, nested_cnodes, cap_to, c, t, e, n, r, s}
use Rattle.mcs_book.proofs.Small.Computing.{computing}

-- an entry of thread i on the first core
abbrev by : ℕ → Entry → Step
by i entry = record { core = record { 0 = 0 }; thread = t i; entry = entry }

-- a message of a label and words
abbrev text : ℕ → List ℕ → Content
text label words = record { label = label; words = words }

-- a badge
abbrev badge : ℕ → Badge
badge b = record { 0 = b }

-- a line's answer and records
abbrev line : (a : Answer) → List Rec → Outcome
line a records = record { answer = a; records = records }

-- what each step did, in order
abbrev outcomes : List Line → List Outcome
outcomes lines = reverse (map (λ (l : Line). line l.answer l.records) lines)

-- what the steps do on the boot of five threads
abbrev outcomes_of : List Step → List Outcome
outcomes_of steps = outcomes ((book_of five_threads steps).lines)

-- a message waits for its receiver
pub first_run : outcomes_of (by 1 (do_.Send 1 (text 7 (5 ∷ 6 ∷ []))) ∷ by 2 (do_.Recv 2 8) ∷ []) ≡
    record { answer = Waits; records = rec.Sent (t 1) (e 1) how.Plain (badge 9) (text 7 (5 ∷ 6 ∷ [])) ∷ rec.Joins (t 1) (Senders (e 1)) None ∷ [] }
    ∷ record { answer = Got (badge 9) (text 7 (5 ∷ 6 ∷ [])); records = rec.Took 0 (t 2) ∷ rec.Parts (t 1) (Senders (e 1)) ∷ rec.Turns (t 1) Running ∷ [] }
    ∷ []
unfolding computing
first_run = refl

-- a call, its answer and the next receive
abbrev lent_and_paid_steps : List Step
lent_and_paid_steps = by 2 (do_.Recv 2 8) ∷ by 1 (do_.UnbindCtx 22) ∷ by 1 (do_.Call 2 (text 3 (1 ∷ []))) ∷ by 2 (do_.ReplyRecv 2 8 (text 4 (2 ∷ []))) ∷ []

-- a context is donated, and comes back
pub donation : outcomes_of lent_and_paid_steps ≡
    record { answer = Waits; records = rec.Joins (t 2) (Receivers (e 1)) (Some (r 1)) ∷ [] }
    ∷ record { answer = Done; records = rec.Holds (s 2) None ∷ [] }
    ∷ record { answer = Waits; records = rec.Sent (t 1) (e 1) how.Call (badge 0) (text 3 (1 ∷ [])) ∷ rec.Took 0 (t 2) ∷ rec.Parts (t 2) (Receivers (e 1)) ∷ rec.Owes (r 1) (t 1) (Some (s 1)) ∷ rec.Holds (s 1) (Some (t 2)) ∷ rec.Turns (t 2) Running ∷ [] }
    ∷ record { answer = Waits; records = rec.Paid (r 1) (t 1) (text 4 (2 ∷ [])) ∷ rec.Turns (t 1) Running ∷ rec.Holds (s 1) (Some (t 1)) ∷ rec.Joins (t 2) (Receivers (e 1)) (Some (r 1)) ∷ [] }
    ∷ []
unfolding computing
donation = refl

-- a message of a label alone
abbrev message : ℕ → Content
message label = text label []

-- a place at full depth
abbrev place : ℕ → Place
place i = record { index = i; depth = 64 }

-- an endpoint is deleted, and another is made
pub deletion : outcomes_of (by 1 (do_.Send 3 (message 1)) ∷ by 2 (do_.Send 3 (message 2)) ∷ by 5 (do_.DeleteCap (place 3)) ∷ by 5 (do_.MakeEndpoint (place 3))
    ∷ by 1 (do_.Send 3 (message 1)) ∷ by 2 (do_.Send 3 (message 2)) ∷ by 5 (do_.Recv 3 8) ∷ []) ≡
    line Waits (rec.Sent (t 1) (e 2) how.Plain (badge 0) (message 1) ∷ rec.Joins (t 1) (Senders (e 2)) None ∷ [])
    ∷ line Waits (rec.Sent (t 2) (e 2) how.Plain (badge 0) (message 2) ∷ rec.Joins (t 2) (Senders (e 2)) None ∷ [])
    ∷ line Done (rec.Slot (c 1) 3 None ∷ rec.Dropped 1 ∷ rec.Parts (t 2) (Senders (e 2)) ∷ rec.Turns (t 2) Restart ∷ rec.Dropped 0 ∷ rec.Parts (t 1) (Senders (e 2)) ∷ rec.Turns (t 1) Restart ∷ rec.Closed (e 2) ∷ [])
    ∷ line Done (rec.Made (e 3) form.Plain ∷ rec.Slot (c 1) 3 (Some (cap_to (e 3) 15 0)) ∷ [])
    ∷ line Waits (rec.Turns (t 1) Running ∷ rec.Sent (t 1) (e 3) how.Plain (badge 0) (message 1) ∷ rec.Joins (t 1) (Senders (e 3)) None ∷ [])
    ∷ line Waits (rec.Turns (t 2) Running ∷ rec.Sent (t 2) (e 3) how.Plain (badge 0) (message 2) ∷ rec.Joins (t 2) (Senders (e 3)) None ∷ [])
    ∷ line (Got (badge 0) (message 2)) (rec.Took 3 (t 5) ∷ rec.Parts (t 2) (Senders (e 3)) ∷ rec.Turns (t 2) Running ∷ [])
    ∷ []
unfolding computing
deletion = refl

-- thread i is in its queue with a message of label i over the badged capability
abbrev a_sent : ℕ → Outcome
a_sent i = line Waits (rec.Sent (t i) (e 1) how.Plain (badge 9) (message i) ∷ rec.Joins (t i) (Senders (e 1)) None ∷ [])

-- the fifth thread takes message m, of thread i
abbrev a_taken : ℕ → ℕ → Outcome
a_taken m i = line (Got (badge 9) (message i)) (rec.Took m (t 5) ∷ rec.Parts (t i) (Senders (e 1)) ∷ rec.Turns (t i) Running ∷ [])

-- four threads send
abbrev sends_one_to_four : List Step
sends_one_to_four = by 1 (do_.Send 1 (message 1)) ∷ by 2 (do_.Send 1 (message 2)) ∷ by 3 (do_.Send 1 (message 3)) ∷ by 4 (do_.Send 1 (message 4)) ∷ []

-- the fifth receives four times
abbrev receives_four : List Step
receives_four = by 5 (do_.Recv 2 8) ∷ by 5 (do_.Recv 2 8) ∷ by 5 (do_.Recv 2 8) ∷ by 5 (do_.Recv 2 8) ∷ []

-- by priority, and then by place
pub by_priority : outcomes_of (sends_one_to_four ++ receives_four) ≡ a_sent 1 ∷ a_sent 2 ∷ a_sent 3 ∷ a_sent 4 ∷ a_taken 1 2 ∷ a_taken 3 4 ∷ a_taken 0 1 ∷ a_taken 2 3 ∷ []
unfolding computing
by_priority = refl

-- who is given its own priority queues anew
pub queues_anew : outcomes_of (sends_one_to_four ++ by 5 (do_.SetPriority 12 15 (record { 0 = 20 })) ∷ receives_four) ≡
    a_sent 1 ∷ a_sent 2 ∷ a_sent 3 ∷ a_sent 4 ∷ line Done (rec.Prio (t 2) (record { 0 = 20 }) ∷ []) ∷ a_taken 3 4 ∷ a_taken 1 2 ∷ a_taken 0 1 ∷ a_taken 2 3 ∷ []
unfolding computing
queues_anew = refl

-- refused, with no record
abbrev refused : Refusal → Outcome
refused why = line (Refused why) []

-- a bound thread hears a signal
pub bound_signal : outcomes_of (by 2 (do_.BindNtfn 12 4) ∷ by 2 (do_.Recv 2 8) ∷ by 1 (do_.Signal 7) ∷ by 1 (do_.Send 1 (message 1)) ∷ []) ≡
    line Done (rec.Tied (t 2) (Some (n 1)) ∷ [])
    ∷ line Waits (rec.Joins (t 2) (Receivers (e 1)) (Some (r 1)) ∷ [])
    ∷ line Done (rec.Raised (n 1) (badge 4) ∷ rec.Heard (t 2) (n 1) 4 ∷ rec.Parts (t 2) (Receivers (e 1)) ∷ rec.Turns (t 2) Running ∷ [])
    ∷ line Waits (rec.Sent (t 1) (e 1) how.Plain (badge 9) (message 1) ∷ rec.Joins (t 1) (Senders (e 1)) None ∷ [])
    ∷ []
unfolding computing
bound_signal = refl

-- badges are joined in a word, which is heard once; an empty badge is a signal too
pub joined_word : outcomes_of (by 1 (do_.Signal 5) ∷ by 1 (do_.Signal 6) ∷ by 1 (do_.Signal 4) ∷ by 2 (do_.Wait 4) ∷ by 2 (do_.Wait 4) ∷ []) ≡
    line Done (rec.Raised (n 1) (badge 1) ∷ [])
    ∷ line Done (rec.Raised (n 1) (badge 2) ∷ [])
    ∷ line Done (rec.Raised (n 1) (badge 0) ∷ [])
    ∷ line (Heard 3) (rec.Heard (t 2) (n 1) 3 ∷ [])
    ∷ line Waits (rec.Joins (t 2) (Waiters (n 1)) None ∷ [])
    ∷ []
unfolding computing
joined_word = refl

-- thread i is in the queue of endpoint k with the reply object of this number
abbrev a_receiver : ℕ → ℕ → ℕ → Outcome
a_receiver i k d = line Waits (rec.Joins (t i) (Receivers (e k)) (Some (r d)) ∷ [])

-- thread i calls thread j, which holds no context, with message m of a label; context k goes with
-- the call
abbrev a_call : ℕ → ℕ → ℕ → ℕ → ℕ → Outcome
a_call m i j d k = line Waits (rec.Sent (t i) (e d) how.Call (badge 0) (message (m + 1)) ∷ rec.Took m (t j) ∷ rec.Parts (t j) (Receivers (e d)) ∷ rec.Owes (r d) (t i) (Some (s k)) ∷ rec.Holds (s k) (Some (t j)) ∷ rec.Turns (t j) Running ∷ [])

-- a reply in the middle of a chain moves no context; that on top brings it back
pub middle_reply : outcomes_of (by 2 (do_.Recv 2 8) ∷ by 3 (do_.Recv 3 9) ∷ by 5 (do_.UnbindCtx 22) ∷ by 5 (do_.UnbindCtx 23) ∷ by 1 (do_.Call 2 (message 1)) ∷ by 2 (do_.Call 3 (message 2))
    ∷ by 4 (do_.Send 8 (message 5)) ∷ by 3 (do_.Send 9 (message 6)) ∷ by 1 (do_.NbRecv 2 8) ∷ []) ≡
    a_receiver 2 1 1
    ∷ a_receiver 3 2 2
    ∷ line Done (rec.Holds (s 2) None ∷ [])
    ∷ line Done (rec.Holds (s 3) None ∷ [])
    ∷ a_call 0 1 2 1 1
    ∷ a_call 1 2 3 2 1
    ∷ line Done (rec.Paid (r 1) (t 1) (message 5) ∷ rec.Turns (t 1) Running ∷ [])
    ∷ line Done (rec.Paid (r 2) (t 2) (message 6) ∷ rec.Turns (t 2) Running ∷ rec.Holds (s 1) (Some (t 2)) ∷ [])
    ∷ []
unfolding computing
middle_reply = refl

-- a caller on top of a chain is suspended: its context stays with the server
pub top_caller_suspended : outcomes_of (by 2 (do_.Recv 2 8) ∷ by 5 (do_.UnbindCtx 22) ∷ by 1 (do_.Call 2 (message 1)) ∷ by 5 (do_.Suspend 11) ∷ by 2 (do_.Send 8 (message 4)) ∷ []) ≡
    a_receiver 2 1 1
    ∷ line Done (rec.Holds (s 2) None ∷ [])
    ∷ a_call 0 1 2 1 1
    ∷ line Done (rec.Void (r 1) (t 1) ending.Cancelled ∷ rec.Turns (t 1) Inactive ∷ [])
    ∷ line Done []
    ∷ []
unfolding computing
top_caller_suspended = refl

-- a caller is answered once
pub paid_once : outcomes_of (by 2 (do_.Recv 2 8) ∷ by 1 (do_.Call 2 (message 1)) ∷ by 2 (do_.Send 8 (message 4)) ∷ by 2 (do_.Send 8 (message 4)) ∷ []) ≡
    a_receiver 2 1 1
    ∷ line Waits (rec.Sent (t 1) (e 1) how.Call (badge 0) (message 1) ∷ rec.Took 0 (t 2) ∷ rec.Parts (t 2) (Receivers (e 1)) ∷ rec.Owes (r 1) (t 1) None ∷ rec.Turns (t 2) Running ∷ [])
    ∷ line Done (rec.Paid (r 1) (t 1) (message 4) ∷ rec.Turns (t 1) Running ∷ [])
    ∷ line Done []
    ∷ []
unfolding computing
paid_once = refl

-- refusals, in their order
pub refusals : outcomes_of (by 1 (do_.Recv 1 8) ∷ by 1 (do_.Recv 2 1) ∷ by 1 (do_.Recv 2 10) ∷ by 1 (do_.MintCap (place 2) (place 26) 1 (badge 9))
    ∷ by 1 (do_.MintCap (place 26) (place 27) 1 (badge 3)) ∷ by 1 (do_.CopyCap (place 2) (place 26) 2) ∷ by 1 (do_.CancelBadged 1) ∷ []) ≡
    refused refusal.NoRight ∷ refused refusal.WrongKind ∷ refused refusal.Missing ∷ line Done (rec.Slot (c 1) 26 (Some (cap_to (e 1) 1 9)) ∷ [])
    ∷ refused refusal.BadgeNotAllowed ∷ refused refusal.SlotFull ∷ refused refusal.NoRight ∷ []
unfolding computing
refusals = refl

-- the last two of a list
abbrev last_two : List Outcome → List Outcome
last_two os = drop (length os - 2) os

-- a reply object that owes is deleted
pub reply_deleted : last_two (outcomes_of (by 2 (do_.Recv 2 8) ∷ by 1 (do_.UnbindCtx 22) ∷ by 1 (do_.Call 2 (text 3 (1 ∷ []))) ∷ by 5 (do_.DeleteCap (place 8)) ∷ by 2 (do_.NbRecv 2 8) ∷ [])) ≡
    line Waits (rec.Sent (t 1) (e 1) how.Call (badge 0) (text 3 (1 ∷ [])) ∷ rec.Took 0 (t 2) ∷ rec.Parts (t 2) (Receivers (e 1)) ∷ rec.Owes (r 1) (t 1) (Some (s 1)) ∷ rec.Holds (s 1) (Some (t 2)) ∷ rec.Turns (t 2) Running ∷ [])
    ∷ line Done (rec.Slot (c 1) 8 None ∷ rec.Void (r 1) (t 1) ending.Deleted ∷ rec.Turns (t 1) Inactive ∷ rec.Holds (s 1) (Some (t 1)) ∷ rec.Closed (r 1) ∷ [])
    ∷ []
unfolding computing
reply_deleted = refl

-- a thread is deleted, with its open message
pub thread_deleted : outcomes_of (by 1 (do_.Send 1 (message 7)) ∷ by 5 (do_.DeleteCap (place 11)) ∷ []) ≡
    line Waits (rec.Sent (t 1) (e 1) how.Plain (badge 9) (message 7) ∷ rec.Joins (t 1) (Senders (e 1)) None ∷ [])
    ∷ line Done (rec.Slot (c 1) 11 None ∷ rec.Dropped 0 ∷ rec.Parts (t 1) (Senders (e 1)) ∷ rec.Turns (t 1) Inactive ∷ rec.Holds (s 1) None ∷ rec.Closed (t 1) ∷ [])
    ∷ []
unfolding computing
thread_deleted = refl

-- a context is deleted by its holder
pub context_deleted : outcomes_of (by 5 (do_.DeleteCap (place 25)) ∷ []) ≡ line Done (rec.Slot (c 1) 25 None ∷ rec.Holds (s 5) None ∷ rec.Closed (s 5) ∷ []) ∷ []
unfolding computing
context_deleted = refl

-- a message of the fifth thread is handed to thread i, who received with r
abbrev a_handed : ℕ → ℕ → Outcome
a_handed m i = line Done (rec.Sent (t 5) (e 1) how.Plain (badge 9) (message (m + 1)) ∷ rec.Took m (t i) ∷ rec.Parts (t i) (Receivers (e 1)) ∷ rec.Turns (t i) Running ∷ [])

-- receivers by priority, one of them moved
pub receivers_by_priority : outcomes_of (by 2 (do_.Recv 2 8) ∷ by 4 (do_.Recv 2 9) ∷ by 1 (do_.Wait 2) ∷ by 5 (do_.SetPriority 14 15 (record { 0 = 5 }))
    ∷ by 5 (do_.NbSend 1 (message 1)) ∷ by 5 (do_.NbSend 1 (message 2)) ∷ by 5 (do_.NbSend 1 (message 3)) ∷ []) ≡
    line Waits (rec.Joins (t 2) (Receivers (e 1)) (Some (r 1)) ∷ [])
    ∷ line Waits (rec.Joins (t 4) (Receivers (e 1)) (Some (r 2)) ∷ [])
    ∷ line Waits (rec.Joins (t 1) (Receivers (e 1)) None ∷ [])
    ∷ line Done (rec.Prio (t 4) (record { 0 = 5 }) ∷ [])
    ∷ a_handed 0 2 ∷ a_handed 1 1 ∷ a_handed 2 4 ∷ []
unfolding computing
receivers_by_priority = refl

-- no thread receives, and nothing is there
pub nothing_there : outcomes_of (by 1 (do_.NbSend 1 (text 7 (5 ∷ []))) ∷ by 2 (do_.NbRecv 2 8) ∷ []) ≡ line Done [] ∷ line Empty [] ∷ []
unfolding computing
nothing_there = refl

-- a place at a depth
abbrev at_depth : ℕ → ℕ → Place
at_depth i d = record { index = i; depth = d }

-- lookup with guards
pub guarded_lookup : outcomes ((book_of two_roots (by 1 (do_.NbSend 3 (message 1)) ∷ by 1 (do_.NbSend 19 (message 1)) ∷ by 1 (do_.DeleteCap (at_depth 2 65)) ∷ by 1 (do_.DeleteCap (at_depth 2 63))
    ∷ by 2 (do_.NbSend 4503599627370503 (message 1)) ∷ by 2 (do_.DeleteCap (at_depth 4503599627370503 64)) ∷ by 2 (do_.DeleteCap (at_depth 1 12)) ∷ [])).lines) ≡
    refused refusal.Missing ∷ refused refusal.GuardMismatch ∷ refused refusal.Range ∷ refused refusal.DepthMismatch ∷ line Done [] ∷ refused refusal.DepthMismatch ∷ line Done (rec.Slot (c 2) 1 None ∷ []) ∷ []
unfolding computing
guarded_lookup = refl

-- a message is handed over at once to a receiver that waits
pub handed_over : outcomes_of (by 2 (do_.Recv 2 8) ∷ by 1 (do_.Send 1 (text 7 (5 ∷ 6 ∷ []))) ∷ []) ≡
    line Waits (rec.Joins (t 2) (Receivers (e 1)) (Some (r 1)) ∷ [])
    ∷ line Done (rec.Sent (t 1) (e 1) how.Plain (badge 9) (text 7 (5 ∷ 6 ∷ [])) ∷ rec.Took 0 (t 2) ∷ rec.Parts (t 2) (Receivers (e 1)) ∷ rec.Turns (t 2) Running ∷ [])
    ∷ []
unfolding computing
handed_over = refl

-- a reply object in use is freed
pub freed_reply : outcomes_of (by 2 (do_.Recv 2 8) ∷ by 3 (do_.Recv 2 8) ∷ []) ≡
    line Waits (rec.Joins (t 2) (Receivers (e 1)) (Some (r 1)) ∷ [])
    ∷ line Waits (rec.Parts (t 2) (Receivers (e 1)) ∷ rec.Turns (t 2) Inactive ∷ rec.Joins (t 3) (Receivers (e 1)) (Some (r 1)) ∷ [])
    ∷ []
unfolding computing
freed_reply = refl

-- the senders of one badge are cancelled
pub badge_cancelled : outcomes_of (by 5 (do_.MintCap (place 2) (place 26) 15 (badge 9)) ∷ by 1 (do_.Send 1 (message 1)) ∷ by 3 (do_.Send 2 (message 2)) ∷ by 5 (do_.CancelBadged 26) ∷ by 5 (do_.Recv 2 8) ∷ []) ≡
    line Done (rec.Slot (c 1) 26 (Some (cap_to (e 1) 15 9)) ∷ [])
    ∷ line Waits (rec.Sent (t 1) (e 1) how.Plain (badge 9) (message 1) ∷ rec.Joins (t 1) (Senders (e 1)) None ∷ [])
    ∷ line Waits (rec.Sent (t 3) (e 1) how.Plain (badge 0) (message 2) ∷ rec.Joins (t 3) (Senders (e 1)) None ∷ [])
    ∷ line Done (rec.Dropped 0 ∷ rec.Parts (t 1) (Senders (e 1)) ∷ rec.Turns (t 1) Restart ∷ [])
    ∷ line (Got (badge 0) (message 2)) (rec.Took 1 (t 5) ∷ rec.Parts (t 3) (Senders (e 1)) ∷ rec.Turns (t 3) Running ∷ [])
    ∷ []
unfolding computing
badge_cancelled = refl

-- the last capability to a CNode stays
pub last_cnode : outcomes ((book_of nested_cnodes (by 1 (do_.DeleteCap (at_depth 1 56)) ∷ by 1 (do_.CopyCap (at_depth 1 56) (at_depth 2 56) 0) ∷ by 1 (do_.DeleteCap (at_depth 1 56))
    ∷ by 1 (do_.DeleteCap (at_depth 2 56)) ∷ by 1 (do_.DeleteCap (at_depth 1 56)) ∷ [])).lines) ≡
    refused refusal.LastCNode ∷ line Done (rec.Slot (c 1) 2 (Some (cap_to (c 2) 0 0)) ∷ []) ∷ line Done (rec.Slot (c 1) 1 None ∷ []) ∷ refused refusal.LastCNode ∷ line Done [] ∷ []
unfolding computing
last_cnode = refl

-- a context that is homed at a notification goes to its hearer, who gives it up as it waits again:
-- a plain message wakes without it
pub homed_context : outcomes_of (by 2 (do_.BindNtfn 12 4) ∷ by 2 (do_.Recv 2 8) ∷ by 5 (do_.UnbindCtx 22) ∷ by 5 (do_.BindCtx 22 4) ∷ by 1 (do_.Signal 7) ∷ by 2 (do_.Recv 2 8)
    ∷ by 5 (do_.BindCtx 22 12) ∷ by 1 (do_.Send 1 (message 1)) ∷ by 2 (do_.Recv 2 8) ∷ by 5 (do_.UnbindCtx 22) ∷ []) ≡
    line Done (rec.Tied (t 2) (Some (n 1)) ∷ [])
    ∷ a_receiver 2 1 1
    ∷ line Done (rec.Holds (s 2) None ∷ [])
    ∷ line Done (rec.Homed (s 2) (Some (n 1)) ∷ [])
    ∷ line Done (rec.Raised (n 1) (badge 4) ∷ rec.Heard (t 2) (n 1) 4 ∷ rec.Parts (t 2) (Receivers (e 1)) ∷ rec.Turns (t 2) Running ∷ rec.Holds (s 2) (Some (t 2)) ∷ [])
    ∷ line Waits (rec.Joins (t 2) (Receivers (e 1)) (Some (r 1)) ∷ rec.Holds (s 2) None ∷ [])
    ∷ refused refusal.AlreadyBound
    ∷ line Done (rec.Sent (t 1) (e 1) how.Plain (badge 9) (message 1) ∷ rec.Took 0 (t 2) ∷ rec.Parts (t 2) (Receivers (e 1)) ∷ rec.Turns (t 2) Running ∷ [])
    ∷ line Done (rec.Homed (s 2) None ∷ [])
    ∷ []
unfolding computing
homed_context = refl

-- a message is sent with its sender's context, who then receives: all checks come first
pub given_context : outcomes_of (by 2 (do_.Recv 2 8) ∷ by 5 (do_.UnbindCtx 22) ∷ by 1 (do_.NbSendRecv 2 1 9 (message 1)) ∷ by 1 (do_.NbSendRecv 2 3 9 (text 6 (1 ∷ []))) ∷ by 2 (do_.NbSendWait 3 2 (message 8)) ∷ []) ≡
    a_receiver 2 1 1
    ∷ line Done (rec.Holds (s 2) None ∷ [])
    ∷ refused refusal.NoRight
    ∷ line Waits (rec.Sent (t 1) (e 1) how.Give (badge 0) (text 6 (1 ∷ [])) ∷ rec.Took 0 (t 2) ∷ rec.Parts (t 2) (Receivers (e 1)) ∷ rec.Holds (s 1) (Some (t 2)) ∷ rec.Turns (t 2) Running ∷ rec.Joins (t 1) (Receivers (e 2)) (Some (r 2)) ∷ [])
    ∷ line Waits (rec.Sent (t 2) (e 2) how.Give (badge 0) (message 8) ∷ rec.Took 1 (t 1) ∷ rec.Parts (t 1) (Receivers (e 2)) ∷ rec.Holds (s 1) (Some (t 1)) ∷ rec.Turns (t 1) Running ∷ rec.Joins (t 2) (Receivers (e 1)) None ∷ [])
    ∷ []
unfolding computing
given_context = refl

-- there is no fault in the boots
pub five_threads_faultless : IsFaultless five_threads
unfolding computing
five_threads_faultless = record { some_core = omega arith; few_cores = omega arith; lines = faultless }
  where
    faultless : AreFaultless 1 (five_threads.lines)
    faultless = search
