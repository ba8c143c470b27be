-- What holds while lines of the boot are taken, and what a boot says of its lines.
use Rattle.std.specs.Prelude.{◌≡◌, ◌≢◌, ℕ, false, ◌∷◌, Option, Some, None, Result, Err, if◌then◌else◌}
use Rattle.mcs_types.specs.declared.id.Kind.TheVariants as kind
use Rattle.mcs_types.specs.declared.boot.BootLine.{BootLine}
use Rattle.mcs_types.specs.declared.boot.BootFault.{BootFault}
use Rattle.mcs_types.specs.declared.boot.BootFault.TheVariants.{OutOfMemory}
use Rattle.mcs_book.specs.Boots.{Boot, boot_check, boot_log, is_object}
use Rattle.mcs_book.specs.Checks.{Passed}
use Rattle.mcs_book.specs.Lookup.{radix_kept}
use Rattle.mcs_book.specs.Objects.{form_of}
use Rattle.mcs_types.specs.declared.id.ObjId.{ObjId}
use Rattle.mcs_book.specs.Logs.{Log}
use Rattle.mcs_book.specs.Objects.{was_closed}
use Rattle.mcs_book.specs.Replies.{owed_by}

-- nothing was closed, and no thread is owed an answer
pub record IsBooting (R : Log) : Type 0 where
  pub alive : (o : ObjId) → was_closed R o ≡ false
  pub unowed : (r : ObjId) → owed_by R r ≡ None

-- the boot with one line more
abbrev pub adds_line : Boot → BootLine → Boot
adds_line b line = record b { lines = line ∷ b.lines }

-- the fault of a line after those of a boot
abbrev pub line_check : Boot → BootLine → Result Passed BootFault
line_check b line = boot_check b.cores (boot_log b.lines) line

-- a fault is that of the check, unless memory was refused
abbrev pub IsOfCheck : Result Passed BootFault → BootFault → Type 0
IsOfCheck checked f = f ≢ OutOfMemory → checked ≡ Err f

-- how many bits name a slot of a CNode that a boot makes
abbrev pub radix_made : Boot → ObjId → Option ℕ
radix_made b c = if is_object (boot_log b.lines) kind.CNode c then Some (radix_kept (form_of (boot_log b.lines) c)) else None
