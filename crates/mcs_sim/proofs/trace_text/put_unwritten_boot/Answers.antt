use Rattle.std.proofs.Common.{◌≡◌, true, false, [], ◌++◌, if◌then◌else◌, eqb, reverse, Bool, ap, sym, ◌∙◌}
use Rattle.std.proofs.lemmas.Bool.{ne_eqb}
use Rattle.mcs_text.specs.Table.{cores_text}
use Rattle.mcs_trace.proofs.Outputs.{Puts-then, Puts-nil, Puts-text}
use Rattle.mcs_sim.specs.Trace.{boot_lines_trace}
use Rattle.mcs_sim.proofs.trace_text.put_unwritten_boot.Goals as goal

pub returns : goal.returns
returns g c =
    let none : eqb c.args.written.lines 0 ≡ true = search in
    let both = Puts-then _ _ _ _ _ _ c.put_cores.ensures c.put_boot.ensures in
    let cores = ap cores_text c.cores.ensures in
    let lines = ap boot_lines_trace c.boot.ensures in
    let whole = cores_text c.args.book.now.book.boot.cores ++ boot_lines_trace (reverse c.args.book.now.book.boot.lines) in
    Puts-text _ _ _ _ _ both ((λ i. cores i ++ lines i) ∙ sym (ap (λ (t : Bool). if t then whole else []) none))

pub returns-then-written-ne0 : goal.returns-then-written-ne0
returns-then-written-ne0 g c =
    let some : eqb c.args.written.lines 0 ≡ false = search (ne_eqb) in
    rw some (Puts-nil _ _)
