-- What a run of users leaves.
use Rattle.std.proofs.Common.{◌≡◌, ℕ, List, Option, Result, Ok, Err, IfErr, OnErr, inl, inr, sym, subst}
use Rattle.mcs_book.specs.Boots.{Boot}
use Rattle.mcs_book.specs.History.{Book}
use Rattle.mcs_text.specs.declared.steps.UserEntry.{UserEntry}
use Rattle.mcs_phases.specs.declared.fault.SimFault.{SimFault}
use Rattle.mcs_phases.specs.declared.fault.SimFault.TheVariants as fault
use Rattle.mcs_sim.specs.Trace.{trace}
use Rattle.mcs_sim.specs.Runs.{Begins}
use Rattle.mcs_sim.specs.Running.{Reads, EndsUsers, IsOfMachine, IsBookOf, RunEnds}
use Rattle.mcs_sim.proofs.RunLaws.{Appends-nil}

-- a fault of the machine comes after the reading, and before the first byte is written
pub RunEnds-machine : (e : SimFault) (asked : Option ℕ) (left left' out : Option (List ℕ)) (boot : Boot) (entries : List UserEntry)
    → IsOfMachine e → Reads asked left left' boot entries → RunEnds e asked left left' out out
RunEnds-machine fault.Argument asked left left' out boot entries is reads = absurd is
RunEnds-machine (fault.Script line why) asked left left' out boot entries is reads = absurd is
RunEnds-machine fault.Read asked left left' out boot entries is reads = absurd is
RunEnds-machine fault.Write asked left left' out boot entries is reads = absurd is
RunEnds-machine fault.BookFull asked left left' out boot entries is reads = ((boot, entries, reads), Appends-nil out)
RunEnds-machine fault.OutOfMemory asked left left' out boot entries is reads = (inr (boot, entries, reads), Appends-nil out)
RunEnds-machine fault.Failed asked left left' out boot entries is reads = ((boot, entries, reads), Appends-nil out)
RunEnds-machine fault.NotStarted asked left left' out boot entries is reads = ((boot, entries, reads), Appends-nil out)

-- a write that fails leaves a beginning of the trace of the book that was settled
pub IfErr-run_writes : (r : Result (Unit {0}) SimFault) (asked : Option ℕ) (left left' out out' : Option (List ℕ)) (boot : Boot) (entries : List UserEntry) (book written : Book)
    → Reads asked left left' boot entries → IsBookOf boot book → written ≡ book → OnErr r (Begins out out' (trace written)) → OnErr r (r ≡ Err fault.Write)
    → IfErr r (λ e. RunEnds e asked left left' out out')
IfErr-run_writes (Ok u) asked left left' out out' boot entries book written reads settled same begins is = tt
IfErr-run_writes (Err e) asked left left' out out' boot entries book written reads settled same begins is =
    subst (λ (r : Result (Unit {0}) SimFault). IfErr r (λ e. RunEnds e asked left left' out out')) (sym is) (record {
      boot = boot;
      entries = entries;
      book = book;
      read = reads;
      settled = settled;
      wrote = subst (λ (b : Book). Begins out out' (trace b)) same begins;
    })

-- a fault of reading comes before the first byte is written
pub RunEnds-reading : (e : SimFault) (asked : Option ℕ) (left left' out : Option (List ℕ)) → EndsUsers e asked left left' → RunEnds e asked left left' out out
RunEnds-reading fault.Argument asked left left' out ends = absurd ends
RunEnds-reading (fault.Script line why) asked left left' out ends = (ends, Appends-nil out)
RunEnds-reading fault.Read asked left left' out ends = (ends, Appends-nil out)
RunEnds-reading fault.Write asked left left' out ends = absurd ends
RunEnds-reading fault.BookFull asked left left' out ends = absurd ends
RunEnds-reading fault.OutOfMemory asked left left' out ends = (inl ends, Appends-nil out)
RunEnds-reading fault.Failed asked left left' out ends = absurd ends
RunEnds-reading fault.NotStarted asked left left' out ends = absurd ends
