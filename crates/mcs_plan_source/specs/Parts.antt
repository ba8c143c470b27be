-- Parts of what a line adds to a plan, each as one function takes it.
use Rattle.std.specs.Prelude.{◌++◌, ◌∷◌, ℕ, not, List, [], Option, Some, Ok}
use Rattle.std.specs.Option.{ok_or}
use Rattle.mcs_types.specs.declared.id.ObjId.{ObjId}
use Rattle.mcs_types.specs.declared.id.Kind.TheVariants as kind
use Rattle.mcs_plan_source.specs.Naming.{next_of}
use Rattle.mcs_plan_source.specs.Refusals.{Read, ◌>>=◌, ◌>>◌, need, missing, bound}
use Rattle.mcs_plan_source.specs.Saying.{Said, with_tie}
use Rattle.mcs_plan_source.specs.ThreadLines.{Form, taking, receiving_then, thread_more, with_passive}
use Rattle.mcs_plan_source.specs.Threads.{is_thread_bound, is_notification_bound}
use Rattle.mcs_plan_source.specs.Words.{word_then}

-- a plan with a space more, which has no slots and no name yet
abbrev pub with_last_space : Option ℕ → Said → Said
with_last_space radix s = record s { spaces = s.spaces ++ (record { radix = radix; slots = [] }) ∷ [] }

-- `in SPACE`, and `passive on EP with REPLY`, after their first words
abbrev pub in_then : List (List ℕ) → Form → Read (Form × List (List ℕ))
in_then words form = taking (λ w. record form { space = Some w }) (word_then words)

abbrev pub passive_then : List (List ℕ) → Form → Read (Form × List (List ℕ))
passive_then words form = taking (λ r. record form { passive = Some r }) (receiving_then words)

-- the plan with a thread of this name more, of which its line says this
abbrev pub form_added : ℕ → List ℕ → Form → Said → Read Said
form_added line name form s = do
  priority ← ok_or form.priority missing
  more ← thread_more name priority form s
  Ok (with_passive line (next_of kind.Thread s.names) form.passive more)

-- a binding more, of a thread and a notification that these words name, neither of which is bound
abbrev pub tie_added : List ℕ → ObjId → List ℕ → ObjId → Said → Read Said
tie_added thread_word thread word notification s = do
  need (not (is_thread_bound s.ties thread)) (bound thread_word)
  need (not (is_notification_bound s.ties notification)) (bound word)
  Ok (with_tie (record { thread = thread; notification = notification }) s)
