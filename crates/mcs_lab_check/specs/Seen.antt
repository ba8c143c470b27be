-- What the records say to a question, in the words in which it is asked.
use Rattle.std.specs.Prelude.{ℕ, Bool, cond, List, [], ◌∷◌, ◌++◌, ◌==◌, Option, Some, None, codes, decimal}
use Rattle.std.specs.List.{flat_map}
use Rattle.mcs_types.specs.declared.id.ObjId.{ObjId}
use Rattle.mcs_types.specs.declared.id.Prio.{Prio}
use Rattle.mcs_types.specs.declared.record.Status.{Status}
use Rattle.mcs_types.specs.declared.record.Status.TheVariants as status
use Rattle.mcs_types.specs.declared.record.Mail.{Mail}
use Rattle.mcs_types.specs.declared.record.Mail.TheVariants.{Message, Word}
use Rattle.mcs_types.specs.Views.{Content}
use Rattle.mcs_text.specs.Spelling.{then_text, name_text, maybe_text, held_text, queue_text}
use Rattle.mcs_book.specs.Logs.{Log}
use Rattle.mcs_book.specs.Statuses.{status_of, mail_of}
use Rattle.mcs_book.specs.Queues.{queued_in}
use Rattle.mcs_book.specs.Chains.{chain_of}
use Rattle.mcs_book.specs.Contexts.{holder_of, context_of, home_of}
use Rattle.mcs_book.specs.Notifications.{bound_of}
use Rattle.mcs_book.specs.Replies.{owed_by, receiver_with}
use Rattle.mcs_book.specs.Slots.{slot}
use Rattle.mcs_state.specs.Questions.{priority_of, word_of}
use Rattle.mcs_lab_check.specs.declared.questions.Question.{Question}
use Rattle.mcs_lab_check.specs.declared.questions.Question.TheVariants as ask

-- a name and a word
abbrev pub begin : ObjId → List ℕ → List ℕ
begin o word = name_text o ++ then_text word

-- names
abbrev pub names_text : List ObjId → List ℕ
names_text os = flat_map (λ o. then_text (name_text o)) os

-- names, or a dash for none
abbrev pub names_or_dash : List ObjId → List ℕ
names_or_dash [] = codes " -"
names_or_dash (o ∷ os) = names_text (o ∷ os)

-- a number, or a dash
abbrev pub number_or_dash : Option ℕ → List ℕ
number_or_dash None = codes " -"
number_or_dash (Some n) = then_text (decimal n)

-- the label and the words of a message
abbrev pub content_text : Content → List ℕ
content_text m = then_text (decimal m.label) ++ flat_map (λ n. then_text (decimal n)) m.words

-- the word before who owes a thread an answer
abbrev pub owed_text : Bool → List ℕ
owed_text by = cond by (codes " owed by") (codes " owed")

-- what a thread does
abbrev pub status_text : Bool → Option Status → List ℕ
status_text by (Some (status.Queued q)) = codes " waits" ++ then_text (queue_text q)
status_text by (Some (status.OnReply r)) = owed_text by ++ then_text (name_text r)
status_text by (Some status.Running) = codes " running"
status_text by (Some status.Restart) = codes " restart"
status_text by (Some status.Inactive) = codes " inactive"
status_text by (Some status.Closed) = codes " closed"
status_text by None = codes " is not there"

-- what last reached a thread
abbrev pub mail_text : Option Mail → List ℕ
mail_text (Some (Message badge m)) = codes " got" ++ then_text (decimal badge.0) ++ content_text m
mail_text (Some (Word word)) = codes " heard" ++ then_text (decimal word)
mail_text None = codes " got nothing"

-- the same, where the message of an answer has no badge
abbrev pub answered_text : Option Mail → List ℕ
answered_text (Some (Message badge m)) = cond (badge.0 == 0) (codes " answered" ++ content_text m) (mail_text (Some (Message badge m)))
answered_text (Some (Word word)) = mail_text (Some (Word word))
answered_text None = mail_text None

-- the number of a priority
abbrev pub level : Option Prio → Option ℕ
level None = None
level (Some p) = Some p.0

-- what the records say to a question
abbrev pub seen : Log → Question → List ℕ
seen R (ask.Status t by) = name_text t ++ status_text by (status_of R t)
seen R (ask.Mail t) = name_text t ++ mail_text (mail_of R t)
seen R (ask.Answered t) = name_text t ++ answered_text (mail_of R t)
seen R (ask.Bound t) = begin t (codes "bound") ++ then_text (maybe_text (bound_of R t))
seen R (ask.Context t) = begin t (codes "holds") ++ then_text (maybe_text (context_of R t))
seen R (ask.Priority t) = begin t (codes "priority") ++ number_or_dash (level (priority_of R t))
seen R (ask.Held s) = begin s (codes "held") ++ then_text (maybe_text (holder_of R s))
seen R (ask.Chain s) = begin s (codes "chain") ++ names_or_dash (chain_of R s)
seen R (ask.Homed s) = begin s (codes "homed") ++ then_text (maybe_text (home_of R s))
seen R (ask.Owes r) = begin r (codes "owes") ++ then_text (maybe_text (owed_by R r))
seen R (ask.With r) = begin r (codes "with") ++ then_text (maybe_text (receiver_with R r))
seen R (ask.Pending n) = begin n (codes "pending") ++ number_or_dash (word_of R n)
seen R (ask.Queue q) = queue_text q ++ names_or_dash (queued_in R q)
seen R (ask.Slot c i) = name_text c ++ then_text (decimal i) ++ codes " holds" ++ then_text (held_text (slot R c i))
