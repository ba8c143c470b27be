-- From a line of the boot as it is spelled to the line that it is.
use Rattle.std.specs.Prelude.{ℕ, Bool, true, false, Result, Option, Some, None, Ok, Err, nat_lt, nat_le, ◌&&◌, if◌then◌else◌, ◌∷◌}
use Rattle.mcs_types.specs.declared.id.ObjId.{ObjId}
use Rattle.mcs_types.specs.declared.id.Kind.{Kind}
use Rattle.mcs_types.specs.declared.id.Kind.TheVariants as kind
use Rattle.mcs_types.specs.declared.cap.Cap.{Cap}
use Rattle.mcs_types.specs.declared.boot.BootLine.{BootLine}
use Rattle.mcs_types.specs.declared.boot.BootLine.TheVariants as boot
use Rattle.mcs_types.specs.declared.boot.BootFault.{BootFault}
use Rattle.mcs_types.specs.declared.boot.BootFault.TheVariants as why
use Rattle.mcs_book.specs.Logs.{Log}
use Rattle.mcs_book.specs.Checks.{Passed}
use Rattle.mcs_types.specs.Limits.{core_limit}
use Rattle.mcs_book.specs.Boots.{Boot, boot_log, boot_check, is_object}
use Rattle.mcs_text.specs.declared.fault.LineFault.{LineFault}
use Rattle.mcs_text.specs.declared.fault.LineFault.TheVariants as fault
use Rattle.mcs_text.specs.declared.boot.RawCap.{RawCap}
use Rattle.mcs_text.specs.declared.boot.RawBootLine.{RawBootLine}
use Rattle.mcs_text.specs.declared.boot.RawBootLine.TheVariants as raw
use Rattle.mcs_text.specs.Reading.{◌>>=◌, below, word_limit}

-- the number of cores: at least one, and no more than a boot may have
unfoldable pub cores_of : Option ℕ → Result ℕ LineFault
cores_of None = Err fault.Number
cores_of (Some n) = if nat_le 1 n && nat_le n core_limit then Ok n else Err fault.Number

-- a serial that fits its type; of any other there is no object, as there is none of serial 0
abbrev pub serial_of : Option ℕ → ℕ
serial_of None = 0
serial_of (Some n) = if nat_lt n 4294967296 then n else 0

-- the object of a kind with this serial
abbrev pub object_of : Kind → Option ℕ → ObjId
object_of k serial = record { kind = k; serial = serial_of serial }

-- a context that is named
abbrev pub context_of : Option (Option ℕ) → Option ObjId
context_of None = None
context_of (Some serial) = Some (object_of kind.Context serial)

-- a number that fits a byte
abbrev pub byte_of : Option ℕ → Result ℕ LineFault
byte_of n = below 256 n

-- the index of a slot; that of a CNode that is not made is not tested
abbrev pub index_of : Bool → Option ℕ → Result ℕ LineFault
index_of true n = byte_of n
index_of false n = Ok 0

-- a capability with a badge and a guard that fit their types
unfoldable pub cap_of : RawCap → Result Cap LineFault
cap_of cap = do
  badge ← below word_limit cap.badge
  bits ← byte_of cap.bits
  value ← below word_limit cap.value
  Ok (record { obj = object_of cap.kind cap.serial; rights = cap.rights; badge = record { 0 = badge }; guard = record { bits = bits; value = value } })

-- the line that is spelled, after the log of the lines before it, where each number fits its type;
-- nothing else is tested
unfoldable pub fitted : Log → RawBootLine → Result BootLine LineFault
fitted R (raw.Cores n) = cores_of n >>= λ cores. Err fault.Taken
fitted R (raw.CNode n) = byte_of n >>= λ radix. Ok (boot.CNode radix)
fitted R raw.Endpoint = Ok boot.Endpoint
fitted R raw.Notification = Ok boot.Notification
fitted R raw.Reply = Ok boot.Reply
fitted R (raw.Context n) = byte_of n >>= λ core. Ok (boot.Context (record { 0 = core }))
fitted R (raw.Thread p m root b v runs context) = do
  priority ← byte_of p
  maximum ← byte_of m
  bits ← byte_of b
  value ← below word_limit v
  Ok (boot.Thread (record { 0 = priority }) (record { 0 = maximum }) (object_of kind.CNode root) (record { bits = bits; value = value }) runs (context_of context))
fitted R (raw.Slot c i cap) = do
  index ← index_of (is_object R kind.CNode (object_of kind.CNode c)) i
  held ← cap_of cap
  Ok (boot.Slot (object_of kind.CNode c) index held)
fitted R (raw.Tie t n) = Ok (boot.Tie (object_of kind.Thread t) (object_of kind.Notification n))

-- the fault of a line that the boot refuses
abbrev pub line_fault : BootFault → LineFault
line_fault why.Number = fault.Number
line_fault why.NoObject = fault.NoObject
line_fault why.Limit = fault.Limit
line_fault why.Taken = fault.Taken
line_fault why.OutOfMemory = fault.Form

-- a boot with one line more, where it was checked
abbrev pub if_passed : Boot → BootLine → Result Passed BootFault → Result Boot LineFault
if_passed b line (Ok passed) = Ok (record b { lines = line ∷ b.lines })
if_passed b line (Err e) = Err (line_fault e)

-- a boot with one line more, where there is no fault in it
unfoldable pub with_line : Boot → BootLine → Result Boot LineFault
with_line b line = if_passed b line (boot_check b.cores (boot_log b.lines) line)
