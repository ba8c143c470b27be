use Rattle.std.proofs.Common.{ap, ◌∙◌}
use Rattle.mcs_plan_source.specs.Naming.{find}
use Rattle.mcs_plan_source.proofs.Entries.{find_in}
use Rattle.mcs_plan_source.proofs.names.Symbols.find.Goals as goal

pub returns : goal.returns
returns c =
    c.copied.ensures ∙ c.get.ensures.value ∙ find_in c.args.name.now c.self.inside.objects.entries
    ∙ ap (λ ns. find ns c.args.name.now) c.self.view_is
