use Rattle.std.proofs.Common.{ap, ◌∙◌}
use Rattle.mcs_plan_domains.specs.Lowered.{system_put}
use Rattle.mcs_plan_domains.specs.Pages.{page_of}
use Rattle.mcs_plan_domains.proofs.lowering.lowered_of.Goals as goal

pub returns : goal.returns
returns c =
    record {
      programs = page_of c.put_programs.new.out;
      is = c.in_ok-put_system.ensures ∙ ap (λ p. system_put c.args.system.now (page_of c.put_programs.new.out) p) c.new-out.ensures;
    }
