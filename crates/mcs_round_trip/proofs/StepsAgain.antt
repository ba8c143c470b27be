-- Each step of a legal book is read again: its thread is one of the boot's, its core one of the
-- boot's, its numbers are in range.
use Rattle.std.specs.Prelude.{ℕ, ◌+◌, ◌<◌, ◌≤◌, ◌≡◌, true, List, [], ◌∷◌, Some, None, refl, length}
use Rattle.std.proofs.Common.{subst, arith}
use Rattle.mcs_types.specs.declared.id.ObjId.{ObjId}
use Rattle.mcs_types.specs.declared.id.Kind.{Kind}
use Rattle.mcs_types.specs.declared.id.Kind.TheVariants as kind
use Rattle.mcs_types.specs.declared.boot.BootLine.{BootLine}
use Rattle.mcs_types.specs.declared.boot.BootLine.TheVariants as boot
use Rattle.mcs_types.specs.Ids.{same_kind}
use Rattle.mcs_book.specs.Logs.{Log, onto, counted}
use Rattle.mcs_book.specs.Objects.{makes_kind, was_made}
use Rattle.mcs_book.specs.Threads.{threads}
use Rattle.mcs_book.specs.Boots.{Boot, boot_line, boot_log}
use Rattle.mcs_types.specs.Limits.{core_limit}
use Rattle.mcs_book.specs.Sound.{Sound}
use Rattle.mcs_book.specs.History.{Line, IsLegal, past}
use Rattle.mcs_book.proofs.Threads.EntersLaws.{enters-made}
use Rattle.mcs_book.proofs.Books.KnownCores.{legal-cores}
use Rattle.mcs_book.proofs.Lengths.Rows.{past-threads}
use Rattle.mcs_book.proofs.Objects.MadeLaws.{made-in, serial-below, made-serial}
use Rattle.mcs_book.proofs.SoundLogs.SoundBooks.{legal-sound}
use Rattle.mcs_book.proofs.Queues.Sorted.{In}
use Rattle.mcs_kernel.proofs.Serials.{one-more}
use Rattle.mcs_text.proofs.EntryLines.{step_line_again}
use Rattle.mcs_phases.specs.Script.{threads_of}
use Rattle.mcs_round_trip.proofs.Scripts.{IsStepAgain}

-- ---- serials

-- a line of the boot makes at most one object of a kind
counted-line : (k : Kind) (R S : Log) (line : BootLine) → counted (makes_kind k) (onto (boot_line S line) R) ≤ counted (makes_kind k) R + 1
counted-line k R S (boot.Thread priority maximum root guard runs (Some s)) = one-more (same_kind kind.Thread k) (counted (makes_kind k) R)
counted-line k R S (boot.Thread priority maximum root guard runs None) = one-more (same_kind kind.Thread k) (counted (makes_kind k) R)
counted-line k R S (boot.CNode radix) = one-more (same_kind kind.CNode k) (counted (makes_kind k) R)
counted-line k R S boot.Endpoint = one-more (same_kind kind.Endpoint k) (counted (makes_kind k) R)
counted-line k R S boot.Notification = one-more (same_kind kind.Notification k) (counted (makes_kind k) R)
counted-line k R S boot.Reply = one-more (same_kind kind.Reply k) (counted (makes_kind k) R)
counted-line k R S (boot.Context core) = one-more (same_kind kind.Context k) (counted (makes_kind k) R)
counted-line k R S (boot.Slot c i held) = omega arith
counted-line k R S (boot.Tie t n) = omega arith

-- a boot makes at most as many objects of a kind as it has lines
counted-boot : (k : Kind) (lines : List BootLine) → counted (makes_kind k) (boot_log lines) ≤ length lines
unfolding boot_log
counted-boot k [] = omega arith
counted-boot k (line ∷ lines) = omega (arith, counted-line k (boot_log lines) (boot_log lines) line, counted-boot k lines)

-- what a boot made has a serial from 1, and no greater than the number of the boot's lines
pub record IsSerial (lines : List BootLine) (n : ℕ) : Type 0 where
  pub some : 0 < n
  pub few : n ≤ length lines

-- such is each object of a sound boot
pub boot-serial : (lines : List BootLine) (o : ObjId) → Sound (boot_log lines) → was_made (boot_log lines) o ≡ true → IsSerial lines o.serial
boot-serial lines o sound made =
    record {
      some = omega (arith, (made-serial (boot_log lines) o sound made).0);
      few = omega (arith, serial-below (boot_log lines) o o.kind sound (made-in (boot_log lines) o o.kind refl made), counted-boot o.kind lines);
    }

-- ---- the steps of a book

-- the step of the newest line is read again
newest-again : (b : Boot) (l : Line) (ls : List Line) → IsLegal (record { boot = b; lines = l ∷ ls }) → length b.lines ≤ 2000000 → IsStepAgain b l.step
newest-again b l ls legal few =
    let B : Log = boot_log b.lines in
    let R : Log = past B ls in
    let before : IsLegal (record { boot = b; lines = ls }) = record { boot = legal.boot; lines = legal.lines.1 } in
    let none : IsLegal (record { boot = b; lines = [] }) = record { boot = legal.boot; lines = tt } in
    let sound : Sound R = legal-sound (record { boot = b; lines = ls }) before in
    let first : Sound B = legal-sound (record { boot = b; lines = [] }) none in
    let who : (l.step.thread.kind ≡ kind.Thread) × (was_made R l.step.thread ≡ true) = enters-made R l.step.core l.step.thread legal.lines.0.enters in
    let same_threads : threads R ≡ threads B = past-threads B ls legal.lines.1 in
    let in_boot : In l.step.thread (threads B) = subst (λ (ts : List ObjId). In l.step.thread ts) same_threads (made-in R l.step.thread kind.Thread who.0 who.1) in
    let core : l.step.core.0 < b.cores = (legal-cores (record { boot = b; lines = l ∷ ls }) legal).0 in
    let cores : b.cores ≤ core_limit = legal.boot.few_cores in
    let some : 0 < l.step.thread.serial = omega (arith, (made-serial R l.step.thread sound who.1).0) in
    let made : l.step.thread.serial ≤ threads_of b = serial-below B l.step.thread kind.Thread first in_boot in
    step_line_again b.cores (threads_of b) l.step legal.lines.0.in_range core (omega arith) who.0 some made (omega (arith, counted-boot kind.Thread b.lines))

-- each step of these lines is read again
unfoldable pub AreStepsAgain : Boot → List Line → Type 0
AreStepsAgain b [] = Unit {0}
AreStepsAgain b (l ∷ ls) = IsStepAgain b l.step × AreStepsAgain b ls

-- each step of a legal book is, where its boot has not too many lines
pub steps-again : (b : Boot) (ls : List Line) → IsLegal (record { boot = b; lines = ls }) → length b.lines ≤ 2000000 → AreStepsAgain b ls
unfolding AreStepsAgain
steps-again b [] legal few = tt
steps-again b (l ∷ ls) legal few = (newest-again b l ls legal few, steps-again b ls (record { boot = legal.boot; lines = legal.lines.1 }) few)
