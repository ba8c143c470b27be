-- The rows of a state: all that decides what a run can do from there on (own).
use Rattle.std.specs.Prelude.{ℕ, ◌+◌, ◌≡◌, Bool, true, false, List, [], ◌∷◌, ◌++◌, length, slice_get}
use Rattle.mcs_types.specs.declared.id.ObjId.{ObjId}
use Rattle.mcs_types.specs.declared.id.CoreId.{CoreId}
use Rattle.mcs_types.specs.declared.id.Kind.{Kind}
use Rattle.mcs_types.specs.declared.id.Kind.TheVariants as kind
use Rattle.mcs_types.specs.declared.record.Queue.TheVariants.{Senders, Receivers, Waiters}
use Rattle.mcs_book.specs.Logs.{Log, counted}
use Rattle.mcs_book.specs.Objects.{is_alive, form_of, makes_kind}
use Rattle.mcs_book.specs.Queues.{queued_in}
use Rattle.mcs_book.specs.Chains.{chain_of}
use Rattle.mcs_book.specs.Contexts.{holder_of, home_of}
use Rattle.mcs_book.specs.History.{log_of}
use Rattle.mcs_book.specs.Lookup.{radix_kept}
use Rattle.mcs_book.specs.Messages.{next_message, open_of}
use Rattle.mcs_book.specs.Replies.{owed_by}
use Rattle.mcs_book.specs.Slots.{slot, count_of}
use Rattle.mcs_state.specs.Questions.{word_of}
use Rattle.mcs_state.specs.Saying.{row_said}
use Rattle.mcs_state.specs.Tables.{core_said}
use Rattle.mcs_turns.specs.declared.position.Position.{Position}
use Rattle.mcs_turns.specs.declared.position.Pick.{Pick}
use Rattle.mcs_turns.specs.Due.{choices, with_picks}
use Rattle.mcs_turns.specs.Turns.{User, RunState, ArePicks}
use Rattle.mcs_users.specs.Users.{change_slots}
use Rattle.mcs_explore_rows.specs.Bytes.{coded}
use Rattle.mcs_explore_rows.specs.Naming.{Names}
use Rattle.mcs_explore_rows.specs.Numbers.{one, flag_number, option_numbers, list_numbers, below, id_numbers, cap_numbers, row_numbers, letter_numbers}

-- the object in a place of its kind, counted from 0
abbrev pub object_at : Kind → ℕ → ObjId
object_at k i = record { kind = k; serial = i + 1 }

-- the threads in both queues of an endpoint
abbrev pub endpoint_numbers : Log → ObjId → List ℕ
endpoint_numbers R e = list_numbers id_numbers (queued_in R (Senders e)) ++ list_numbers id_numbers (queued_in R (Receivers e))

-- the core of a context
abbrev pub core_numbers : CoreId → List ℕ
core_numbers c = one c.0

-- the core of a context, its holder, its home and its chain
abbrev pub context_numbers : Log → ObjId → List ℕ
context_numbers R s = option_numbers core_numbers (core_said R s)
    ++ (option_numbers id_numbers (holder_of R s) ++ (option_numbers id_numbers (home_of R s) ++ list_numbers id_numbers (chain_of R s)))

-- the first n slots of a CNode
unfoldable pub slots_numbers : Log → ObjId → ℕ → List ℕ
slots_numbers R c n = below (λ i. option_numbers cap_numbers (slot R c i)) n

-- the radix of a CNode and its slots
abbrev pub cnode_numbers : Log → ObjId → List ℕ
cnode_numbers R c = one (radix_kept (form_of R c)) ++ slots_numbers R c 256

-- how many messages were sent, as a key has it: 0, where the numbers of messages are not
-- distinguished
abbrev pub sent_kept : Bool → Log → ℕ
sent_kept true R = next_message R
sent_kept false R = 0

-- what is kept of a thread, and its message that no thread has received
abbrev pub thread_numbers : Bool → Log → ObjId → List ℕ
thread_numbers numbered R t = option_numbers row_numbers (row_said R t) ++ option_numbers (letter_numbers numbered) (open_of R t)

-- the waiters of a notification, and its pending word
abbrev pub notification_numbers : Log → ObjId → List ℕ
notification_numbers R n = list_numbers id_numbers (queued_in R (Waiters n)) ++ option_numbers one (word_of R n)

-- the numbers of the caller that a reply object owes a reply
abbrev pub reply_numbers : Log → ObjId → List ℕ
reply_numbers R r = option_numbers id_numbers (owed_by R r)

-- what there is of an object of a kind
abbrev pub kind_numbers : Bool → Log → Kind → ObjId → List ℕ
kind_numbers numbered R kind.CNode o = cnode_numbers R o
kind_numbers numbered R kind.Thread o = thread_numbers numbered R o
kind_numbers numbered R kind.Endpoint o = endpoint_numbers R o
kind_numbers numbered R kind.Notification o = notification_numbers R o
kind_numbers numbered R kind.Reply o = reply_numbers R o
kind_numbers numbered R kind.Context o = context_numbers R o

-- whether an object is there, and how many slots hold a capability to it, where users change slots;
-- else all states have what the boot made
abbrev pub head_numbers : Bool → Log → ObjId → List ℕ
head_numbers true R o = flag_number (is_alive R o) ∷ count_of R o ∷ []
head_numbers false R o = []

-- the same, and what there is of an object of its kind
abbrev pub object_numbers : Bool → Bool → Log → ObjId → List ℕ
object_numbers changing numbered R o = head_numbers changing R o ++ kind_numbers numbered R o.kind o

-- how many messages were sent, and how many objects of each kind were made
abbrev pub count_numbers : Bool → Log → List ℕ
count_numbers numbered R = sent_kept numbered R ∷ counted (makes_kind kind.CNode) R ∷ counted (makes_kind kind.Thread) R ∷ counted (makes_kind kind.Endpoint) R
    ∷ counted (makes_kind kind.Notification) R ∷ counted (makes_kind kind.Reply) R ∷ counted (makes_kind kind.Context) R ∷ []

-- a row for each object of a kind that was made
abbrev pub rows_of_kind : Bool → Bool → Log → Kind → List (List ℕ)
rows_of_kind changing numbered R k = below (λ i. object_numbers changing numbered R (object_at k i) ∷ []) (counted (makes_kind k) R)

-- the rows of the CNodes, where users change slots; else all states have those of the boot
abbrev pub cnode_rows : Bool → Bool → Log → List (List ℕ)
cnode_rows true numbered R = rows_of_kind true numbered R kind.CNode
cnode_rows false numbered R = []

-- the rows of all objects; those of CNodes only if users change slots
abbrev pub object_rows : Bool → Bool → Log → List (List ℕ)
object_rows changing numbered R = cnode_rows changing numbered R ++ (rows_of_kind changing numbered R kind.Thread ++ (rows_of_kind changing numbered R kind.Endpoint
    ++ (rows_of_kind changing numbered R kind.Notification ++ (rows_of_kind changing numbered R kind.Reply ++ rows_of_kind changing numbered R kind.Context))))

-- the position of a user, and the words that it keeps
abbrev pub position_numbers : Position → List ℕ
position_numbers p = p.next ∷ p.saved.a ∷ p.saved.b ∷ p.saved.c ∷ p.saved.d ∷ option_numbers one p.waited

abbrev pub pick_numbers : Pick → List ℕ
pick_numbers k = k.user ∷ k.number ∷ []

-- a row for the position of each user
abbrev pub place_rows : List User → RunState → List (List ℕ)
place_rows users g = below (λ i. option_numbers position_numbers (slice_get g.places i) ∷ []) (length users)

-- what a core may enter that has these picks, with its stale picks
abbrev pub choice_list_numbers : List Pick → List Pick → List ℕ
choice_list_numbers picks stale = list_numbers pick_numbers (with_picks picks stale)

-- a row for what each core may enter, where the cores have these picks
abbrev pub choice_rows : RunState → List (List Pick) → List (List ℕ)
choice_rows g picks = below (λ i. option_numbers (list_numbers pick_numbers) (slice_get (choices picks g.stale) i) ∷ []) g.book.boot.cores

-- the rows of a state of users, where the cores have these picks, and numbers of messages are
-- distinguished or not
abbrev pub rows_of : Bool → List User → RunState → List (List Pick) → List (List ℕ)
rows_of numbered users g picks = count_numbers numbered (log_of g.book)
    ∷ (place_rows users g ++ (choice_rows g picks ++ object_rows (change_slots users) numbered (log_of g.book)))

-- the cores of a state have picks, and for all that they have holds a fact
pub record OfPicks (users : List User) (g : RunState) (IsSo : List (List Pick) → Type 0) : Type 0 where
  pub picks : List (List Pick)
  pub are : ArePicks users g picks
  pub so : (ks : List (List Pick)) → ArePicks users g ks → IsSo ks

-- two states have equal rows
abbrev pub HaveSameRows : Bool → List User → RunState → RunState → Type 0
HaveSameRows numbered users g h = OfPicks users g (λ ks. OfPicks users h (λ js. rows_of numbered users g ks ≡ rows_of numbered users h js))

-- the numbers name the rows of a state, among the interned ones
abbrev pub NameRows : Bool → List (List ℕ) → List User → RunState → List ℕ → Type 0
NameRows numbered met users g numbers = OfPicks users g (λ ks. Names met numbers (rows_of numbered users g ks))

-- the bytes of a key are those of numbers that name the rows of a state
pub record IsKey (numbered : Bool) (met : List (List ℕ)) (users : List User) (g : RunState) (bytes : List ℕ) : Type 0 where
  pub numbers : List ℕ
  pub are : bytes ≡ coded numbers
  pub name : NameRows numbered met users g numbers
