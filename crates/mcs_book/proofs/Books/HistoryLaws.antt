-- What every entry keeps holds of every legal book: of its log, and after each of its lines.
use Rattle.std.specs.Prelude.{true, ◌≡◌, List, [], ◌∷◌, Some, None, refl}
use Rattle.mcs_types.specs.declared.id.ObjId.{ObjId}
use Rattle.mcs_types.specs.declared.id.CoreId.{CoreId}
use Rattle.mcs_types.specs.declared.entry.Entry.{Entry}
use Rattle.mcs_types.specs.declared.boot.BootLine.{BootLine}
use Rattle.mcs_types.specs.declared.boot.BootLine.TheVariants as boot
use Rattle.mcs_types.specs.declared.record.Rec.{Rec}
use Rattle.mcs_book.specs.Logs.{Log, onto}
use Rattle.mcs_book.specs.Boots.{boot_line, boot_log}
use Rattle.mcs_book.specs.Statuses.{may_enter}
use Rattle.mcs_book.specs.Table.{does}
use Rattle.mcs_book.specs.History.{Line, past, AreLegal}
use Rattle.mcs_book.specs.Each.{AfterEach}
use Rattle.mcs_book.proofs.SoundLogs.Keeping.{is_aside}

module _ (I : Log → Type 0) (empty : I []) (aside : (R : Log) (r : Rec) → is_aside r ≡ true → I R → I (r ∷ R)) where
  -- a line of the boot has records aside alone
  boot_line-keeps : (R S : Log) (line : BootLine) → I R → I (onto (boot_line S line) R)
  boot_line-keeps R S (boot.Thread priority maximum root guard runs (Some s)) h = aside _ _ refl (aside _ _ refl (aside _ _ refl (aside R _ refl h)))
  boot_line-keeps R S (boot.Thread priority maximum root guard runs None) h = aside _ _ refl (aside _ _ refl (aside R _ refl h))
  boot_line-keeps R S _ h = aside R _ refl h

  -- a boot has records aside alone
  pub boot-keeps : (lines : List BootLine) → I (boot_log lines)
  unfolding boot_log
  boot-keeps [] = empty
  boot-keeps (line ∷ lines) = boot_line-keeps (boot_log lines) (boot_log lines) line (boot-keeps lines)

module _ (I : Log → Type 0) (step : (R : Log) (core : CoreId) (t : ObjId) (entry : Entry) → may_enter R core t ≡ true → I R → I (onto ((does R core t entry).records) R)) where
  -- what every entry keeps holds of the log of legal lines
  pub legal-past : (B : Log) (ls : List Line) → AreLegal B ls → I B → I (past B ls)
  legal-past B [] h i = i
  legal-past B (l ∷ ls) h i = rw h.0.records (step (past B ls) l.step.core l.step.thread l.step.entry h.0.enters (legal-past B ls h.1 i))

  -- and after each of them
  pub legal-after : (B : Log) (ls : List Line) → AreLegal B ls → I B → AfterEach I B ls
  legal-after B [] h i = i
  legal-after B (l ∷ ls) h i = (legal-past B (l ∷ ls) h i, legal-after B ls h.1 i)

-- what follows from it holds after each of them too
pub after-map : (P Q : Log → Type 0) → ((R : Log) → P R → Q R) → (B : Log) (ls : List Line) → AfterEach P B ls → AfterEach Q B ls
after-map P Q f B [] h = f B h
after-map P Q f B (l ∷ ls) h = (f (onto l.records (past B ls)) h.0, after-map P Q f B ls h.1)
