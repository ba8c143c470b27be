use Rattle.std.proofs.lemmas.Result.{on_ok_weaker}
use Rattle.mcs_plan_domains.specs.Pages.{page_of}
use Rattle.mcs_plan_domains.proofs.passives.put_entries.Goals as goal

pub returns : goal.returns
returns c =
    on_ok_weaker c.put_entry.result (λ last. record { before = page_of c.put_resumes.new.out; line = c.args.first; is = last }) c.put_entry.ensures
