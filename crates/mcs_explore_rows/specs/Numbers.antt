-- Values as numbers (own). No value's numbers begin with those of another one of its type.
use Rattle.std.specs.Prelude.{ℕ, zero, suc, Bool, true, false, List, [], ◌∷◌, ◌++◌, Option, Some, None}
use Rattle.mcs_types.specs.declared.id.ObjId.{ObjId}
use Rattle.mcs_types.specs.declared.cap.Cap.{Cap}
use Rattle.mcs_types.specs.declared.record.Letter.{Letter}
use Rattle.mcs_types.specs.declared.record.Mode.{Mode}
use Rattle.mcs_types.specs.declared.record.Mode.TheVariants as mode
use Rattle.mcs_types.specs.declared.record.Queue.{Queue}
use Rattle.mcs_types.specs.declared.record.Queue.TheVariants.{Senders, Receivers, Waiters}
use Rattle.mcs_types.specs.declared.record.SendMode.{SendMode}
use Rattle.mcs_types.specs.declared.record.SendMode.TheVariants as send_mode
use Rattle.mcs_types.specs.Ids.{kind_number}
use Rattle.mcs_threads.specs.declared.row.Block.{Block}
use Rattle.mcs_threads.specs.declared.row.Block.TheVariants.{Queued, OnReply}
use Rattle.mcs_threads.specs.declared.row.ThreadRow.{ThreadRow}

-- one number
abbrev pub one : ℕ → List ℕ
one n = n ∷ []

abbrev pub flag_number : Bool → ℕ
flag_number false = 0
flag_number true = 1

-- a 0 if there is none, and else a 1 before it
abbrev pub option_numbers : {A : Type 0} → (A → List ℕ) → Option A → List ℕ
option_numbers f None = 0 ∷ []
option_numbers f (Some x) = 1 ∷ f x

-- each of a list, with a 1 before it
abbrev pub each_numbers : {A : Type 0} → (A → List ℕ) → List A → List ℕ
each_numbers f [] = []
each_numbers f (x ∷ xs) = (1 ∷ f x) ++ each_numbers f xs

-- a list, with a 0 after it
abbrev pub list_numbers : {A : Type 0} → (A → List ℕ) → List A → List ℕ
list_numbers f xs = each_numbers f xs ++ (0 ∷ [])

-- the values of f for each number below n, in order
abbrev pub below : {A : Type 0} → (ℕ → List A) → ℕ → List A
below f zero = []
below f (suc n) = below f n ++ f n

abbrev pub id_numbers : ObjId → List ℕ
id_numbers o = kind_number o.kind ∷ o.serial ∷ []

abbrev pub cap_numbers : Cap → List ℕ
cap_numbers c = kind_number c.obj.kind ∷ c.obj.serial ∷ c.rights ∷ c.badge.0 ∷ c.guard.bits ∷ c.guard.value ∷ []

abbrev pub mode_number : Mode → ℕ
mode_number mode.Running = 0
mode_number mode.Restart = 1
mode_number mode.Inactive = 2

abbrev pub send_number : SendMode → ℕ
send_number send_mode.Plain = 0
send_number send_mode.Call = 1
send_number send_mode.Mute = 2
send_number send_mode.Give = 3

abbrev pub queue_numbers : Queue → List ℕ
queue_numbers (Senders o) = 0 ∷ id_numbers o
queue_numbers (Receivers o) = 1 ∷ id_numbers o
queue_numbers (Waiters o) = 2 ∷ id_numbers o

abbrev pub block_numbers : Block → List ℕ
block_numbers (Queued queue reply) = (0 ∷ queue_numbers queue) ++ option_numbers id_numbers reply
block_numbers (OnReply reply) = 1 ∷ id_numbers reply

abbrev pub row_numbers : ThreadRow → List ℕ
row_numbers r = (r.maximum.0 ∷ r.priority.0 ∷ mode_number r.mode ∷ cap_numbers r.root) ++ (option_numbers block_numbers r.block ++ option_numbers id_numbers r.notification)

-- the number of a message as a key has it: 0, where the numbers of messages are not distinguished
abbrev pub number_kept : Bool → Letter → ℕ
number_kept true l = l.number
number_kept false l = 0

abbrev pub letter_numbers : Bool → Letter → List ℕ
letter_numbers numbered l = (number_kept numbered l ∷ send_number l.mode ∷ l.badge.0 ∷ l.message.label ∷ id_numbers l.sender) ++ (id_numbers l.endpoint ++ list_numbers one l.message.words)
