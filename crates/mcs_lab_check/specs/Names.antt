-- Labels and numbers in the words of a question.
use Rattle.std.specs.Prelude.{ℕ, ◌+◌, ◌-◌, ◌*◌, cond, ◌==◌, List, [], ◌∷◌, length, take, drop, Option, Some, None, codes, bytes_eq}
use Rattle.mcs_types.specs.declared.id.Kind.{Kind}
use Rattle.mcs_types.specs.declared.id.Kind.TheVariants.{CNode, Thread, Endpoint, Notification, Reply, Context}
use Rattle.mcs_types.specs.declared.id.ObjId.{ObjId}
use Rattle.mcs_types.specs.declared.record.Queue.{Queue}
use Rattle.mcs_types.specs.declared.record.Queue.TheVariants.{Senders, Receivers, Waiters}
use Rattle.mcs_text.specs.Reading.{is_digit}

-- the value of a digit
abbrev pub digit : ℕ → Option ℕ
digit b = cond (is_digit b) (Some (b - 48)) None

-- the number of two digits
abbrev pub two_digits : Option ℕ → Option ℕ → Option ℕ
two_digits (Some t) (Some o) = Some (10 * t + o)
two_digits (Some t) None = None
two_digits None o = None

-- the number that a word of one to three digits writes: no object and no slot has a greater one
abbrev pub number_of : List ℕ → Option ℕ
number_of [] = None
number_of (a ∷ []) = digit a
number_of (a ∷ b ∷ []) = cond (a == 48) None (two_digits (digit a) (digit b))
number_of (a ∷ b ∷ c ∷ []) = cond (a == 48) None (two_digits (two_digits (digit a) (digit b)) (digit c))
number_of (a ∷ b ∷ c ∷ d ∷ ds) = None

-- the kind whose names begin with a letter
abbrev pub kind_of : ℕ → Option Kind
kind_of b = cond (b == 116) (Some Thread) (cond (b == 101) (Some Endpoint) (cond (b == 110) (Some Notification)
    (cond (b == 114) (Some Reply) (cond (b == 115) (Some Context) (cond (b == 99) (Some CNode) None)))))

-- the object of a kind and a serial, which is not 0
abbrev pub object_named : Option Kind → Option ℕ → Option ObjId
object_named (Some k) (Some n) = cond (n == 0) None (Some (record { kind = k; serial = n }))
object_named (Some k) None = None
object_named None n = None

-- the object that a word names
abbrev pub object_of : List ℕ → Option ObjId
object_of [] = None
object_of (b ∷ bs) = object_named (kind_of b) (number_of bs)

-- which queue of an object an ending names
abbrev pub queue_with : Kind → ObjId → List ℕ → Option Queue
queue_with Endpoint o end = cond (bytes_eq (codes ".send") end) (Some (Senders o)) (cond (bytes_eq (codes ".recv") end) (Some (Receivers o)) None)
queue_with Notification o end = cond (bytes_eq (codes ".wait") end) (Some (Waiters o)) None
queue_with CNode o end = None
queue_with Thread o end = None
queue_with Reply o end = None
queue_with Context o end = None

-- the same of an object that there may be
abbrev pub queue_named : Option ObjId → List ℕ → Option Queue
queue_named None end = None
queue_named (Some o) end = queue_with o.kind o end

-- the queue that a word names: an object, and an ending of five letters
abbrev pub queue_of : List ℕ → Option Queue
queue_of w = queue_named (object_of (take (length w - 5) w)) (drop (length w - 5) w)
