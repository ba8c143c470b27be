-- What a text asks, by the words with which it begins.
use Rattle.std.specs.Prelude.{ℕ, Bool, false, cond, ◌||◌, ◌&&◌, nat_lt, List, [], ◌∷◌, Option, Some, None, codes, bytes_eq}
use Rattle.mcs_types.specs.declared.id.Kind.TheVariants.{CNode, Thread, Endpoint, Notification, Reply, Context}
use Rattle.mcs_types.specs.declared.id.Kind.{Kind}
use Rattle.mcs_types.specs.declared.id.ObjId.{ObjId}
use Rattle.mcs_types.specs.declared.record.Queue.{Queue}
use Rattle.mcs_text.specs.Reading.{words_of}
use Rattle.mcs_kernel.specs.declared.fault.EnterFault.{EnterFault}
use Rattle.mcs_kernel.specs.declared.fault.EnterFault.TheVariants as fault
use Rattle.mcs_lab_check.specs.Names.{number_of, object_of, queue_of}
use Rattle.mcs_lab_check.specs.declared.questions.Question.{Question}
use Rattle.mcs_lab_check.specs.declared.questions.Question.TheVariants as ask
use Rattle.mcs_lab_check.specs.declared.questions.Asked.{Asked}
use Rattle.mcs_lab_check.specs.declared.questions.Asked.TheVariants as asked

-- the reason that a word names
abbrev pub reason_of : List ℕ → Option EnterFault
reason_of w = cond (bytes_eq (codes "NotRunning") w) (Some fault.NotRunning)
    (cond (bytes_eq (codes "NoContext") w) (Some fault.NoContext)
    (cond (bytes_eq (codes "WrongCore") w) (Some fault.WrongCore) None))

-- whether a step was skipped for the reason that a word names
abbrev pub away_for : Option EnterFault → Option Asked
away_for None = None
away_for (Some why) = Some (asked.Away (Some why))

-- whether a step was skipped, by the words after that
abbrev pub away_asked : List (List ℕ) → Option Asked
away_asked [] = Some (asked.Away None)
away_asked (w ∷ []) = away_for (reason_of w)
away_asked (w ∷ v ∷ ws) = None

-- what a thread does, in the words of its status
abbrev pub is_status : List ℕ → Bool
is_status w = bytes_eq (codes "waits") w || bytes_eq (codes "running") w || bytes_eq (codes "restart") w
    || bytes_eq (codes "inactive") w || bytes_eq (codes "closed") w

-- who owes a thread an answer, which is asked with a word between or without
abbrev pub owed_question : ObjId → List (List ℕ) → Option Question
owed_question t [] = None
owed_question t (w ∷ ws) = Some (ask.Status t (bytes_eq (codes "by") w))

-- what a word asks of a thread
abbrev pub thread_question : ObjId → List ℕ → List (List ℕ) → Option Question
thread_question t w ws = cond (is_status w) (Some (ask.Status t false))
    (cond (bytes_eq (codes "owed") w) (owed_question t ws)
    (cond (bytes_eq (codes "got") w || bytes_eq (codes "heard") w) (Some (ask.Mail t))
    (cond (bytes_eq (codes "answered") w) (Some (ask.Answered t))
    (cond (bytes_eq (codes "bound") w) (Some (ask.Bound t))
    (cond (bytes_eq (codes "holds") w) (Some (ask.Context t))
    (cond (bytes_eq (codes "priority") w) (Some (ask.Priority t)) None))))))

-- what a word asks of a context
abbrev pub context_question : ObjId → List ℕ → Option Question
context_question s w = cond (bytes_eq (codes "held") w) (Some (ask.Held s))
    (cond (bytes_eq (codes "chain") w) (Some (ask.Chain s))
    (cond (bytes_eq (codes "homed") w) (Some (ask.Homed s)) None))

-- what a word asks of a reply object
abbrev pub reply_question : ObjId → List ℕ → Option Question
reply_question r w = cond (bytes_eq (codes "owes") w) (Some (ask.Owes r)) (cond (bytes_eq (codes "with") w) (Some (ask.With r)) None)

-- what is asked of a slot, by its index and the word after that
abbrev pub slot_asked : ObjId → Option ℕ → List (List ℕ) → Option Question
slot_asked c (Some i) (w ∷ ws) = cond (nat_lt i 256 && bytes_eq (codes "holds") w) (Some (ask.Slot c i)) None
slot_asked c (Some i) [] = None
slot_asked c None ws = None

-- what is asked of an object, by the word after it and the others
abbrev pub object_question : Kind → ObjId → List ℕ → List (List ℕ) → Option Question
object_question Thread o w ws = thread_question o w ws
object_question Context o w ws = context_question o w
object_question Reply o w ws = reply_question o w
object_question CNode o w ws = slot_asked o (number_of w) ws
object_question Notification o w ws = cond (bytes_eq (codes "pending") w) (Some (ask.Pending o)) None
object_question Endpoint o w ws = None

-- what is asked of what a word names, if it names something, by the words after it
abbrev pub named_question : Option Queue → Option ObjId → List (List ℕ) → Option Question
named_question (Some q) o ws = Some (ask.Queue q)
named_question None None ws = None
named_question None (Some o) [] = None
named_question None (Some o) (w ∷ ws) = object_question o.kind o w ws

-- a question about the state, if there is one
abbrev pub state_asked : Option Question → Option Asked
state_asked None = None
state_asked (Some q) = Some (asked.State q)

-- what words ask
abbrev pub asked_by : List (List ℕ) → Option Asked
asked_by [] = None
asked_by (w ∷ ws) = cond (bytes_eq (codes "away") w) (away_asked ws) (state_asked (named_question (queue_of w) (object_of w) ws))

-- what a text asks
abbrev pub asked_of : List ℕ → Option Asked
asked_of text = asked_by (words_of text)
