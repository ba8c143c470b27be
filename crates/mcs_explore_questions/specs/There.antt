-- What the words of a question may name (own).
use Rattle.std.specs.Prelude.{ℕ, ◌==◌, ◌&&◌, ◌||◌, Bool, true, false, cond, nat_lt, nat_le, length, List, [], ◌∷◌, Option, Some, None, bytes_eq, count_by, position, slice_get, option_map}
use Rattle.std.specs.List.{find, list_any}
use Rattle.mcs_types.specs.declared.boot.BootLine.{BootLine}
use Rattle.mcs_types.specs.declared.boot.BootLine.TheVariants as boot
use Rattle.mcs_types.specs.declared.id.Kind.{Kind}
use Rattle.mcs_types.specs.declared.id.Kind.TheVariants.{CNode, Thread, Endpoint, Notification, Reply, Context}
use Rattle.mcs_types.specs.declared.id.ObjId.{ObjId}
use Rattle.mcs_types.specs.Changes.{makes_object}
use Rattle.mcs_types.specs.Ids.{same, same_kind}
use Rattle.mcs_turns.specs.Turns.{User}
use Rattle.mcs_lab_check.specs.Names.{object_of}
use Rattle.mcs_lab_check.specs.Naming.{Naming, what_named}
use Rattle.mcs_lab_check.specs.declared.names.Named.{Named}
use Rattle.mcs_lab_check.specs.declared.names.Named.TheVariants as named
use Rattle.mcs_lab_forms.specs.Numbers.{number_of}
use Rattle.mcs_explore_programs.specs.declared.program.Label.{Label}
use Rattle.mcs_explore_questions.specs.declared.questions.Entries.{Entries}
use Rattle.mcs_explore_questions.specs.declared.questions.Event.{Event}
use Rattle.mcs_explore_questions.specs.declared.there.There.{There}
use Rattle.mcs_explore_questions.specs.Reading.{◌>>=◌, ◌>>◌, either, need}

-- what there is in a script: the lines of its boot, its users, the names of objects, and those of
-- entries
pub record Scene : Type 0 where
  pub boot : List BootLine
  pub users : List User
  pub names : List Naming
  pub labels : List Label

abbrev pub scene_of : There → Scene
scene_of t = record { boot = t.boot.now; users = t.users.now; names = t.names.now; labels = t.labels.now }

-- what a word names: an object, by its id, or by a name that the script gives it
abbrev pub named_by : Scene → List ℕ → Named
named_by s word = elim (object_of word) [ None ↦ what_named s.names word | Some o ↦ named.One o ]

-- the object, if there is one; nothing is read where several have the name
abbrev pub one_of : Named → Option (Option ObjId)
one_of named.Nothing = Some None
one_of (named.One o) = Some (Some o)
one_of named.Several = None

-- the object that a word names
abbrev pub object_by : Scene → List ℕ → Option (Option ObjId)
object_by s word = one_of (named_by s word)

-- the user of a thread
abbrev pub user_of : List User → ObjId → Option User
user_of us t = position (λ (u : User). same u.thread t) us >>= slice_get us

-- the user that a word names
abbrev pub user_by : Scene → List ℕ → Option User
user_by s word = object_by s word >>= λ (o : Option ObjId). o >>= user_of s.users

-- whether it is the name of entries of a thread
abbrev pub is_label : ObjId → List ℕ → Label → Bool
is_label t word l = same l.thread t && bytes_eq l.name.items word

-- the entries of a user of which a word is the name
abbrev pub labelled : Scene → User → List ℕ → Option Entries
labelled s u word = option_map (λ (l : Label). record { first = l.first; last = l.last }) (find (is_label u.thread word) s.labels)

-- the entry of a user of this number
abbrev pub entry_at : User → ℕ → Option Entries
entry_at u n = cond (n == 0 || nat_lt (length u.entries) n) None (Some (record { first = n; last = n }))

-- the entry of a user of the number that a word writes
abbrev pub numbered : User → List ℕ → Option Entries
numbered u word = number_of word >>= entry_at u

-- the entries of a user that a word gives: one by its number, or those that have the name
abbrev pub entries_by : Scene → User → List ℕ → Option Entries
entries_by s u word = either (numbered u word) (labelled s u word)

-- the one entry among several
abbrev pub event_of : User → Entries → Option Event
event_of u es = cond (es.first == es.last) (Some (record { thread = u.thread; number = es.first })) None

-- the one entry of a user that a word gives
abbrev pub entry_by : Scene → User → List ℕ → Option Event
entry_by s u word = entries_by s u word >>= event_of u

-- whether a line of the boot makes an object of a kind
abbrev pub makes : Kind → BootLine → Bool
makes k (boot.CNode radix) = same_kind CNode k
makes k boot.Endpoint = same_kind Endpoint k
makes k boot.Notification = same_kind Notification k
makes k boot.Reply = same_kind Reply k
makes k (boot.Context core) = same_kind Context k
makes k (boot.Thread priority maximum root guard runs context) = same_kind Thread k
makes k (boot.Slot cnode index cap) = false
makes k (boot.Tie thread notification) = false

-- how many objects of a kind the boot makes
abbrev pub made : Scene → Kind → ℕ
made s k = count_by (makes k) s.boot

-- whether objects of a kind can be made after the boot
abbrev pub is_made_later : Kind → Bool
is_made_later CNode = false
is_made_later Thread = false
is_made_later Endpoint = true
is_made_later Notification = true
is_made_later Reply = true
is_made_later Context = true

-- whether a user has an entry that makes an object
abbrev pub user_makes_object : User → Bool
user_makes_object u = list_any makes_object u.entries

-- whether one of them has
abbrev pub makes_objects : List User → Bool
makes_objects us = list_any user_makes_object us

-- whether an object can be there: the boot makes it, or a user can
abbrev pub can_be : Scene → ObjId → Bool
can_be s o = nat_le o.serial (made s o.kind) || (is_made_later o.kind && makes_objects s.users)
