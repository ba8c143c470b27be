use Rattle.std.proofs.Common.{ap, ◌++◌, reverse}
use Rattle.std.specs.List.{flat_map}
use Rattle.mcs_text.specs.Table.{cores_text}
use Rattle.mcs_trace.proofs.Outputs.{Puts-text, Puts-then}
use Rattle.mcs_sim.specs.Trace.{boot_lines_trace}
use Rattle.mcs_explore_script.specs.Steps.{script_text, step_lines}
use Rattle.mcs_explore_script.proofs.steps.put_script.Goals as goal

pub returns : goal.returns
unfolding script_text
returns g c =
    let cores = ap cores_text c.cores.ensures in
    let boot = ap boot_lines_trace c.boot.ensures in
    let lines = flat_map step_lines (reverse c.args.book.now.book.lines) in
    Puts-text _ _ _ _ _ (Puts-then _ _ _ _ _ _ (Puts-then _ _ _ _ _ _ c.put_cores.ensures c.put_boot.ensures) c.put_lines.ensures) (λ i. (cores i ++ boot i) ++ lines)
