use Rattle.std.specs.Prelude.{Bool}
use Rattle.std.proofs.Common.{ap, subst, ◌∙◌}
use Rattle.mcs_explore_orders.specs.Seen.{IsGraphOfRuns}
use Rattle.mcs_explore_report.specs.Modes.{mode_of}
use Rattle.mcs_explore_report.proofs.Unnamed.{mode-numbered, mode-proved}
use Rattle.mcs_explore_graph.proofs.graph.all_orders.Goals as goal

pub returns-in-Ok : goal.returns-in-Ok
returns-in-Ok c =
    let script = c.args.script.now in
    let o = c.in-Ok.orders in
    record {
      runs = c.in-Ok.ensures.runs;
      within = c.in-Ok.ensures.within;
      turns = λ number is.
          let mode = c.mode_of-mode.ensures ∙ ap (λ qs. mode_of script.boot script.users qs c.args.wanted.is_exact) c.deref.ensures.value ∙ is in
          let exact = c.is_proved-is_proved.ensures ∙ mode-proved c.mode_of-mode.result number mode in
          let numbered = c.are_numbered-numbered.ensures ∙ mode-numbered c.mode_of-mode.result number mode in
          subst (λ (b : Bool). IsGraphOfRuns b script.users script.boot o.search.map.entries o.search.done o.search.edges.items) numbered
          (c.in-Ok.ensures.graph (record { exact = exact; faultless = c.is_faultless.ensures; in_range = c.are_in_range.ensures }));
    }
