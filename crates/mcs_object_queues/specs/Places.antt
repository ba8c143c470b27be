-- Queues as lines with numbers: how they lie in memory. No public clause cites this module.
use Rattle.std.specs.Prelude.{ℕ, ◌≡◌, ◌≤◌, ◌+◌, ◌-◌, Bool, cond, nat_lt, List, [], map, Option, Some, None, is_some, option_map, option_and_then}
use Rattle.mcs_types.specs.declared.id.ObjId.{ObjId}
use Rattle.mcs_types.specs.declared.id.Kind.{Kind}
use Rattle.mcs_types.specs.declared.id.Kind.TheVariants.{Thread, Endpoint, Notification}
use Rattle.mcs_types.specs.declared.record.Queue.{Queue}
use Rattle.mcs_types.specs.declared.record.Queue.TheVariants.{Senders, Receivers, Waiters}
use Rattle.mcs_types.specs.Ids.{place_of}
use Rattle.mcs_types.specs.Waiters.{Waiter, stands_in, is_place}
use Rattle.mcs_book.specs.Growing.{Waiter as Standing}
use Rattle.mcs_queues.specs.Changes.{Rooms}
use Rattle.mcs_objects.specs.Store.{Objects, place_at, id_at, shape}

-- the id of a thread with a number, and a thread in a line by its id
abbrev pub thread_at : ℕ → ObjId
thread_at u = record { kind = Thread; serial = u + 1 }

abbrev pub standing : Waiter → Standing
standing w = record { thread = thread_at w.thread; priority = w.priority }

-- a number below the room for threads
abbrev pub below_room : Option ℕ → Option ℕ
below_room None = None
below_room (Some u) = cond (nat_lt u 256) (Some u) None

-- the number of the line of a queue, from that of the first queue of its sort
abbrev pub base : Queue → ℕ
base (Senders e) = 0
base (Receivers e) = 256
base (Waiters n) = 512

abbrev pub numbered : ℕ → Option ℕ → Option ℕ
numbered b None = None
numbered b (Some p) = Some (b + p)

-- the threads of the line with a number
abbrev pub lined : (ℕ → List Waiter) → Option ℕ → List Standing
lined line None = []
lined line (Some n) = map standing (line n)

module _ {T : Type 0} where
  -- the place of the object of a queue, if it is there
  abbrev pub queue_place : Objects T → Objects T → Queue → Option ℕ
  queue_place E N (Senders e) = place_at E e
  queue_place E N (Receivers e) = place_at E e
  queue_place E N (Waiters n) = place_at N n

  abbrev pub number_of : Objects T → Objects T → Queue → Option ℕ
  number_of E N q = numbered (base q) (queue_place E N q)

  -- the queue of a number
  abbrev pub queue_at : Objects T → Objects T → ℕ → Option Queue
  queue_at E N n = cond (nat_lt n 256) (option_map (λ e. Senders e) (id_at E n)) (cond (nat_lt n 512) (option_map (λ e. Receivers e) (id_at E (n - 256))) (option_map (λ w. Waiters w) (id_at N (n - 512))))

  -- the threads of a queue, and the queue of a thread
  abbrev pub line_of : Objects T → Objects T → (ℕ → List Waiter) → Queue → List Standing
  line_of E N line q = lined line (number_of E N q)

  abbrev pub queue_of : Objects T → Objects T → (ℕ → Option ℕ) → ObjId → Option Queue
  queue_of E N place t = option_and_then (queue_at E N) (option_and_then place (place_of Thread t))

  -- whether the object of a queue is there
  abbrev pub has_object : Objects T → Objects T → Queue → Bool
  has_object E N q = is_some (queue_place E N q)

  -- what is counted of a kind
  abbrev pub given_of : Objects T → Objects T → Kind → ℕ
  given_of E N Endpoint = (shape E).given
  given_of E N Notification = (shape N).given
  given_of E N _ = 0

  abbrev pub there_of : Objects T → Objects T → Kind → ℕ
  there_of E N Endpoint = (shape E).there
  there_of E N Notification = (shape N).there
  there_of E N _ = 0

-- a store of a kind with the room for 256
pub record IsRoomy {T : Type 0} (kind : Kind) (S : Objects T) : Type 0 where
  pub kind_is : S.kind ≡ kind
  pub room_is : S.room ≡ 256

-- each thread is where it is placed, and no thread is in a line without a queue
pub record IsLined (que : ℕ → Option Queue) (line : ℕ → List Waiter) (place : ℕ → Option ℕ) : Type 0 where
  pub stands : (u k : ℕ) → stands_in u (line k) ≡ is_place (place u) k
  pub vacant : (k : ℕ) → que k ≡ None → line k ≡ []
  pub beyond : (u : ℕ) → 256 ≤ u → place u ≡ None

-- the stores of endpoints and of notifications, and the lines
pub record Placed (T A : Type 0) : Type 0 where
  pub endpoints : Objects T
  pub notifications : Objects T
  pub lines : A

pub record IsPlaced {T : Type 0} (E N : Objects T) (line : ℕ → List Waiter) (place : ℕ → Option ℕ) (rooms : Rooms) : Type 0 where
  pub endpoints : IsRoomy Endpoint E
  pub notifications : IsRoomy Notification N
  pub lined_up : IsLined (queue_at E N) line place
  pub rooms_are : rooms ≡ record { threads = 256; lines = 768 }
