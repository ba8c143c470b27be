-- What the line of a context, of a space or of a thread adds to a plan, or why it is refused; and
-- each line before the first step.
use Rattle.std.specs.Prelude.{◌≡◌, ◌++◌, ◌∷◌, ◌-◌, ◌==◌, ◌&&◌, ℕ, zero, suc, Bool, true, false, not, List, [], length, Option, Some, None, Ok, Err, is_some, codes, bytes_eq, option_map, string_bytes, if◌then◌else◌}
use Rattle.std.specs.Option.{unwrap_or, ok_or}
use Rattle.mcs_types.specs.declared.id.ObjId.{ObjId}
use Rattle.mcs_types.specs.declared.id.CoreId.{CoreId}
use Rattle.mcs_types.specs.declared.id.Kind.TheVariants as kind
use Rattle.mcs_types.specs.Limits.{core_limit}
use Rattle.mcs_types.specs.declared.limits.TheConstants.{RADIX}
use Rattle.mcs_plan_source.specs.declared.fault.PlanError.{PlanError}
use Rattle.mcs_plan_source.specs.Naming.{next_of}
use Rattle.mcs_plan_source.specs.declared.plan.Plan.{Plan}
use Rattle.mcs_plan_source.specs.declared.plan.Thread.{Thread}
use Rattle.mcs_plan_source.specs.declared.parser.ThreadForm.{ThreadForm}
use Rattle.mcs_plan_source.specs.declared.parser.Receiving.{Receiving}
use Rattle.mcs_plan_source.specs.Lines.{object_more, objects_line, has_line, tie_line, cores_line}
use Rattle.mcs_plan_source.specs.Making.{keeps_limit}
use Rattle.mcs_plan_source.specs.Objects.{may_name, named_as}
use Rattle.mcs_plan_source.specs.Refusals.{Read, ◌>>=◌, ◌>>◌, need, missing, not_wanted, unknown, Refuses}
use Rattle.mcs_plan_source.specs.Saying.{Said, said, with_context, with_space, with_thread}
use Rattle.mcs_plan_source.specs.Threads.{cnode_place}
use Rattle.mcs_plan_source.specs.Words.{word_then, after_word, end_of, number_then, zero_word}

-- with which capabilities a passive thread receives
pub record SaidReceiving : Type 0 where
  pub endpoint : List ℕ
  pub reply : List ℕ

-- what the line of a thread says after its name
pub record Form : Type 0 where
  pub priority : Option ℕ
  pub maximum : ℕ
  pub core : ℕ
  pub runs : Bool
  pub has_context : Bool
  pub space : Option (List ℕ)
  pub passive : Option SaidReceiving

abbrev pub said_receiving : Receiving → SaidReceiving
said_receiving r = record { endpoint = string_bytes r.endpoint; reply = string_bytes r.reply }

abbrev pub form_of : ThreadForm → Form
form_of f =
    record {
      priority = f.priority;
      maximum = f.maximum;
      core = f.core;
      runs = f.runs;
      has_context = f.has_context;
      space = option_map (λ s. string_bytes s) f.space;
      passive = option_map said_receiving f.passive;
    }

-- what it says where no part says otherwise
abbrev pub plain_form : Form
plain_form =
    record { priority = None; maximum = 255; core = 0; runs = true; has_context = true; space = None; passive = None }

-- `core N`, one of those that there are
abbrev pub core_then : Option ℕ → List (List ℕ) → Read (ℕ × List (List ℕ))
core_then cores words = do
  rest ← after_word (codes "core") words
  number_then (unwrap_or cores core_limit - 1) rest

-- `on EP with REPLY`
abbrev pub receiving_then : List (List ℕ) → Read (SaidReceiving × List (List ℕ))
receiving_then words = do
  on ← after_word (codes "on") words
  (endpoint, rest) ← word_then on
  with_word ← after_word (codes "with") rest
  (reply, left) ← word_then with_word
  Ok (record { endpoint = endpoint; reply = reply }, left)

-- a form with what is in front of the words
abbrev pub taking : {X : Type 0} → (X → Form) → Read (X × List (List ℕ)) → Read (Form × List (List ℕ))
taking change read = do
  (x, left) ← read
  Ok (change x, left)

-- `without context`: it has none
abbrev pub without_then : List (List ℕ) → Read (Bool × List (List ℕ))
without_then words = do
  left ← after_word (codes "context") words
  Ok (false, left)

-- a part of the line, which begins with this word
abbrev pub part_then : Option ℕ → List ℕ → List (List ℕ) → Form → Read (Form × List (List ℕ))
part_then cores part words form =
    if bytes_eq part (codes "prio") then taking (λ n. record form { priority = Some n }) (number_then 255 words)
    else if bytes_eq part (codes "max") then taking (λ n. record form { maximum = n }) (number_then 255 words)
    else if bytes_eq part (codes "on") then taking (λ n. record form { core = n }) (core_then cores words)
    else if bytes_eq part (codes "stopped") then Ok (record form { runs = false }, words)
    else if bytes_eq part (codes "without") then taking (λ has. record form { has_context = has }) (without_then words)
    else if bytes_eq part (codes "in") then taking (λ w. record form { space = Some w }) (word_then words)
    else if bytes_eq part (codes "passive") then taking (λ r. record form { passive = Some r }) (receiving_then words)
    else Err (not_wanted part)

-- the next part, if there is one
abbrev pub next_part : Option ℕ → List (List ℕ) → Form → Read (Form × List (List ℕ))
next_part cores [] form = Ok (form, [])
next_part cores (part ∷ words) form = part_then cores part words form

-- parts of the line, in order; each takes a word at least, so there are no more turns than words
abbrev pub parts_then : ℕ → Option ℕ → List (List ℕ) → Form → Read Form
parts_then zero cores words form = Ok form
parts_then (suc turns) cores words form = do
  (more, left) ← next_part cores words form
  parts_then turns cores left more

-- a passive thread has a context
abbrev pub may_be : Form → Bool
may_be form = not (is_some form.passive && not form.has_context)

-- what the line of a thread says after its name
abbrev pub form_said : Option ℕ → List (List ℕ) → Read Form
form_said cores words = do
  form ← parts_then (length words) cores words plain_form
  need (may_be form) (not_wanted (codes "without"))
  Ok form

-- a context more; a space more
abbrev pub context_more : List ℕ → CoreId → Said → Read Said
context_more name core s = do
  may_name kind.Context name s.names
  keeps_limit kind.Context (with_context name core s)
  Ok (with_context name core s)

abbrev pub space_more : List ℕ → Option ℕ → Said → Read Said
space_more name radix s = do
  may_name kind.CNode name s.names
  keeps_limit kind.CNode (with_space name radix s)
  Ok (with_space name radix s)

-- the context that a thread gets, where it has one, and the plan with it
abbrev pub own_context : Form → Said → Option ObjId
own_context form s = if form.has_context then Some (next_of kind.Context s.names) else None

abbrev pub with_own_context : List ℕ → Form → Said → Read Said
with_own_context name form s =
    if form.has_context then context_more (name ++ codes ".context") (record { 0 = form.core }) s else Ok s

-- the place of the space that a thread is in, and the plan with it: its own comes after the others,
-- and is made for it
abbrev pub with_own_space : List ℕ → Option (List ℕ) → Said → Read (ℕ × Said)
with_own_space name None s = do
  more ← space_more (name ++ codes ".space") None s
  Ok (length s.spaces, more)
with_own_space name (Some word) s = do
  cnode ← named_as kind.CNode word s.names
  Ok (cnode_place cnode, s)

-- a thread of its parts
abbrev pub thread_of : ℕ → Form → ℕ → Option ObjId → Thread
thread_of priority form place context =
    record {
      priority = record { 0 = priority };
      maximum = record { 0 = form.maximum };
      space = place;
      runs = form.runs;
      context = context;
      core = record { 0 = form.core };
    }

-- a thread more, with its context and its space
abbrev pub thread_more : List ℕ → ℕ → Form → Said → Read Said
thread_more name priority form s = do
  named ← object_more kind.Thread name s
  with_it ← with_own_context name form named
  (place, more) ← with_own_space name form.space with_it
  Ok (with_thread (thread_of priority form place (own_context form named)) more)

-- the plan with a passive thread more, where it is one
abbrev pub with_passive : ℕ → ObjId → Option SaidReceiving → Said → Said
with_passive line thread None s = s
with_passive line thread (Some r) s =
    record s { passives = s.passives ++ (record { line = line; thread = thread; endpoint = r.endpoint; reply = r.reply }) ∷ [] }

-- the line of a thread, before its limits are looked at
abbrev pub thread_said : ℕ → List (List ℕ) → Said → Read Said
thread_said line words s = do
  (name, rest) ← word_then words
  form ← form_said s.cores rest
  priority ← ok_or form.priority missing
  more ← thread_more name priority form s
  Ok (with_passive line (next_of kind.Thread s.names) form.passive more)

-- the line of a thread
abbrev pub thread_line : ℕ → List (List ℕ) → Said → Read Said
thread_line line words s = do
  more ← thread_said line words s
  keeps_limit kind.Thread more
  keeps_limit kind.Context more
  keeps_limit kind.CNode more
  Ok more

-- `on core N`, or nothing: core 0
abbrev pub on_then : Option ℕ → List (List ℕ) → Read (ℕ × List (List ℕ))
on_then cores [] = Ok (0, [])
on_then cores (word ∷ words) = do
  rest ← after_word (codes "on") (word ∷ words)
  core_then cores rest

-- the line of a context
abbrev pub context_line : List (List ℕ) → Said → Read Said
context_line words s = do
  (name, rest) ← word_then words
  (core, left) ← on_then s.cores rest
  end_of left
  context_more name (record { 0 = core }) s

-- the largest radix of a space
abbrev pub radix_limit : ℕ
radix_limit = RADIX

-- a radix, 1 to 8, or nothing
abbrev pub radix_then : List (List ℕ) → Read (Option ℕ × List (List ℕ))
radix_then [] = Ok (None, [])
radix_then (word ∷ words) = do
  (n, left) ← number_then radix_limit (word ∷ words)
  need (not (n == 0)) (not_wanted zero_word)
  Ok (Some n, left)

-- the line of a space by hand
abbrev pub cnode_line : List (List ℕ) → Said → Read Said
cnode_line words s = do
  (name, rest) ← word_then words
  (radix, left) ← radix_then rest
  end_of left
  space_more name radix s

-- a line that begins with this word
abbrev pub line_begun : ℕ → List ℕ → List (List ℕ) → Said → Read Said
line_begun line first words s =
    if bytes_eq first (codes "cores") then cores_line words s
    else if bytes_eq first (codes "endpoint") then objects_line kind.Endpoint words s
    else if bytes_eq first (codes "notification") then objects_line kind.Notification words s
    else if bytes_eq first (codes "reply") then objects_line kind.Reply words s
    else if bytes_eq first (codes "context") then context_line words s
    else if bytes_eq first (codes "cnode") then cnode_line words s
    else if bytes_eq first (codes "thread") then thread_line line words s
    else if bytes_eq first (codes "tie") then tie_line words s
    else Err (unknown first)

-- whether the next word is `has`
abbrev pub says_has : List (List ℕ) → Bool
says_has [] = false
says_has (word ∷ words) = bytes_eq word (codes "has")

-- a line before the first step
abbrev pub line_more : ℕ → List (List ℕ) → Said → Read Said
line_more line [] s = Ok s
line_more line (first ∷ words) s =
    if says_has words then (after_word (codes "has") words >>= λ left. has_line first left s) else line_begun line first words s

-- the words of a line before the first step may be taken, and the plan says this then
abbrev pub ReadsLine : ℕ → List (List ℕ) → Plan → Said → Type 0
ReadsLine line words plan new = line_more line words (said plan) ≡ Ok new

-- they may not, and this is why; that memory was refused says nothing of them
abbrev pub RefusesLine : ℕ → List (List ℕ) → Plan → PlanError → Type 0
RefusesLine line words plan w = Refuses (line_more line words (said plan)) w
