use Rattle.std.proofs.Common.{ap, sym, subst, ◌∙◌}
use Rattle.mcs_book.specs.History.{Book, log_of}
use Rattle.mcs_phases.specs.Feeds.{book_lent}
use Rattle.mcs_plan_validate.specs.Leading.{AllLead}
use Rattle.mcs_plan_validate.specs.Reading.{IsScriptOf}
use Rattle.mcs_plan_validate.proofs.Boots.{plans_boot}
use Rattle.mcs_plan_validate.proofs.compiled.vouch.Goals as goal

pub returns-in-None : goal.returns-in-None
returns-in-None c = record {
  book = c.in-Some.book.now.book;
  script = subst (λ o. IsScriptOf c.args.text.now o) (sym c.book.ensures.lent ∙ ap book_lent c.in-Some.is) c.in_ok-run.ensures;
  boot = plans_boot c.args.script.now c.in-Some.book.now.book.boot c.in_ok-keeps_boot.ensures c.requires;
  leads = subst (λ (k : Book). AllLead (log_of k) c.args.script.now.laid.tables.items) c.in_ok-kernel.ensures c.in-None.ensures;
}
