-- What the line of objects, of slots, of a binding or of the cores adds to a plan, or why it is
-- refused.
use Rattle.std.specs.Prelude.{◌==◌, ◌&&◌, ◌∷◌, ℕ, zero, suc, Bool, false, not, List, [], length, Option, Some, None, Ok, Err, is_some, is_none, nat_lt, bytes_eq, codes, slice_get, if◌then◌else◌}
use Rattle.mcs_types.specs.declared.id.Kind.{Kind}
use Rattle.mcs_types.specs.declared.id.Kind.TheVariants as kind
use Rattle.mcs_types.specs.declared.cap.Cap.{Cap}
use Rattle.mcs_types.specs.Limits.{core_limit}
use Rattle.mcs_plan_source.specs.Naming.{NameList, find, is_name}
use Rattle.mcs_plan_source.specs.Capabilities.{cap_read, name_in}
use Rattle.mcs_plan_source.specs.Making.{keeps_limit}
use Rattle.mcs_plan_source.specs.Objects.{may_name, named_as}
use Rattle.mcs_plan_source.specs.Refusals.{Read, ◌>>=◌, ◌>>◌, need, missing, not_wanted, twice, limit, bound, late_cores}
use Rattle.mcs_plan_source.specs.Saying.{Said, SaidSpace, with_slot, with_object, with_tie}
use Rattle.mcs_plan_source.specs.Slots.{most_slots}
use Rattle.mcs_plan_source.specs.Threads.{space_named, is_thread_bound, is_notification_bound}
use Rattle.mcs_plan_source.specs.Words.{word_then, end_of, number_then, zero_word}

-- an object more
abbrev pub object_more : Kind → List ℕ → Said → Read Said
object_more kind name s = do
  may_name kind name s.names
  Ok (with_object kind name s)

-- objects of a kind more, in order
abbrev pub objects_more : Kind → List (List ℕ) → Said → Read Said
objects_more kind [] s = Ok s
objects_more kind (name ∷ names) s = do
  more ← object_more kind name s
  objects_more kind names more

-- the line of objects of a kind, of which it names one at least
abbrev pub objects_line : Kind → List (List ℕ) → Said → Read Said
objects_line kind [] s = Err missing
objects_line kind (name ∷ names) s = objects_more kind (name ∷ names) s

-- the word of an empty slot
abbrev pub is_dash : List ℕ → Bool
is_dash word = bytes_eq word (codes "-")

-- what a slot is to hold: a capability, or nothing
abbrev pub held_by : NameList → List ℕ → Read (Option Cap)
held_by names word = if is_dash word then Ok None else do
  cap ← cap_read names word
  Ok (Some cap)

-- whether the next word is `as`
abbrev pub says_as : List (List ℕ) → Bool
says_as [] = false
says_as (word ∷ words) = bytes_eq word (codes "as")

-- whether a space has a slot of this name
abbrev pub has_slot : Option SaidSpace → List ℕ → Bool
has_slot None name = false
has_slot (Some space) name = is_some (find space.slots name)

-- the name of a slot that is given none: that of its object, or where that is taken its whole word;
-- an empty slot is given one
abbrev pub usual_name : Option SaidSpace → List ℕ → Read (List ℕ)
usual_name space word = do
  need (not (is_dash word)) missing
  Ok (if has_slot space (name_in word) then word else name_in word)

-- the name that follows `as`, and the words after it
abbrev pub given_name : List (List ℕ) → Read (List ℕ × List (List ℕ))
given_name [] = Err missing
given_name (as_word ∷ words) = do
  (name, left) ← word_then words
  need (is_name name) (not_wanted name)
  Ok (name, left)

-- the name of a slot, and the words after it
abbrev pub slot_name : Option SaidSpace → List ℕ → List (List ℕ) → Read (List ℕ × List (List ℕ))
slot_name space word words = if says_as words then given_name words else do
  name ← usual_name space word
  Ok (name, words)

-- a space may have a slot more of this name: it has none of it, and there is room
abbrev pub may_have : Option SaidSpace → List ℕ → Read (Unit {0})
may_have None name = Ok tt
may_have (Some space) name = do
  need (is_none (find space.slots name)) (twice name)
  need (nat_lt (length space.slots) (most_slots space.radix)) (limit (most_slots space.radix))

-- the space at a place has a slot more
abbrev pub slot_added : ℕ → List ℕ → Option Cap → Said → Read Said
slot_added place name cap s = do
  may_have (slice_get s.spaces place) name
  Ok (with_slot place name cap s)

-- a word, and the words after it, say a slot more of the space at a place
abbrev pub slot_more : ℕ → List ℕ → List (List ℕ) → Said → Read (Said × List (List ℕ))
slot_more place word words s = do
  cap ← held_by s.names word
  (name, left) ← slot_name (slice_get s.spaces place) word words
  more ← slot_added place name cap s
  Ok (more, left)

-- the same, where its spaces do not take more CNodes then than there may be
abbrev pub slot_kept : ℕ → List ℕ → List (List ℕ) → Said → Read (Said × List (List ℕ))
slot_kept place word words s = do
  (more, left) ← slot_more place word words s
  keeps_limit kind.CNode more
  Ok (more, left)

-- slots more, in order; each takes a word at least, so there are no more turns than words
abbrev pub slots_more : ℕ → ℕ → List (List ℕ) → Said → Read Said
slots_more zero place words s = Ok s
slots_more (suc turns) place [] s = Ok s
slots_more (suc turns) place (word ∷ words) s = do
  (more, left) ← slot_kept place word words s
  slots_more turns place left more

-- the line of what the space of this name has, of which it says one slot at least
abbrev pub has_line : List ℕ → List (List ℕ) → Said → Read Said
has_line name words s = do
  place ← space_named name s
  need (not (length words == 0)) missing
  slots_more (length words) place words s

-- the line of a binding: `tie THREAD NOTIFICATION`, neither of which is bound
abbrev pub tie_line : List (List ℕ) → Said → Read Said
tie_line words s = do
  (thread_word, rest) ← word_then words
  thread ← named_as kind.Thread thread_word s.names
  (word, left) ← word_then rest
  notification ← named_as kind.Notification word s.names
  end_of left
  need (not (is_thread_bound s.ties thread)) (bound thread_word)
  need (not (is_notification_bound s.ties notification)) (bound word)
  Ok (with_tie (record { thread = thread; notification = notification }) s)

-- the line of the number of cores, 1 to 16: none was said, and there is no context and no thread
abbrev pub cores_line : List (List ℕ) → Said → Read Said
cores_line words s = do
  (cores, left) ← number_then core_limit words
  end_of left
  need (not (cores == 0)) (not_wanted zero_word)
  need (is_none s.cores) (twice (codes "cores"))
  need (length s.contexts == 0 && length s.threads == 0) late_cores
  Ok (record s { cores = Some cores })
