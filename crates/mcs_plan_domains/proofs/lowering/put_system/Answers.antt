use Rattle.std.proofs.Common.{◌≡◌, List, ap, ◌∙◌}
use Rattle.std.proofs.lemmas.Result.{on_ok_weaker}
use Rattle.mcs_plan_domains.specs.declared.capabilities.TheConstants.{CORES}
use Rattle.mcs_plan_domains.specs.declared.statements.Statement.{Statement}
use Rattle.mcs_plan_domains.specs.declared.system.Domain.{Domain}
use Rattle.mcs_plan_domains.specs.declared.system.Plain.{Plain}
use Rattle.mcs_plan_domains.specs.declared.system.System.{System}
use Rattle.mcs_plan_domains.specs.Boots.{boot_put}
use Rattle.mcs_plan_domains.specs.Lowered.{plain_put, system_put}
use Rattle.mcs_plan_domains.specs.Monitors.{programs_put}
use Rattle.mcs_plan_domains.specs.Pages.{Page, joined, page_of}
use Rattle.mcs_plan_domains.specs.Questions.{questions_put}
use Rattle.mcs_plan_domains.proofs.lowering.put_system.Goals as goal

-- all lines, by what each part of them adds: found by search this takes minutes, since the programs
-- of the monitors unfold for each core
all_put : (s : System) (programs p a b c d e f : Page) (heads : List Plain) (domains : List Domain) (tails : List Plain) (questions : List Statement)
    → heads ≡ s.heads.items → domains ≡ s.domains.items → tails ≡ s.tails.items → questions ≡ s.questions.items
    → a ≡ plain_put p heads → b ≡ boot_put a s → c ≡ joined b programs → d ≡ programs_put c domains CORES → e ≡ plain_put d tails → f ≡ questions_put e questions
    → f ≡ system_put s programs p
all_put s programs p a b c d e f heads domains tails questions of_heads of_domains of_tails of_questions by_heads by_boot by_join by_monitors by_tails by_questions =
    by_questions ∙ ap (λ qs. questions_put e qs) of_questions
    ∙ ap (λ q. questions_put q s.questions.items)
    (by_tails ∙ ap (λ ls. plain_put d ls) of_tails
    ∙ ap (λ q. plain_put q s.tails.items)
    (by_monitors ∙ ap (λ ds. programs_put c ds CORES) of_domains
    ∙ ap (λ q. programs_put q s.domains.items CORES)
    (by_join ∙ ap (λ q. joined q programs) (by_boot ∙ ap (λ q. boot_put q s) (by_heads ∙ ap (λ ls. plain_put p ls) of_heads)))))

pub returns : goal.returns
returns c =
    on_ok_weaker c.put_questions.result (λ asked.
    all_put c.args.system.now (page_of c.args.programs.now) (page_of c.args.out.now) (page_of c.put_plain.new.out) (page_of c.put_boot.new.out) (page_of c.join.new.self)
    (page_of c.put_monitor_programs.new.out) (page_of c.put_plain-2.new.out) (page_of c.put_questions.new.out) c.deref.result.now c.deref-2.result.now c.deref-3.result.now
    c.deref-4.result.now c.deref.ensures.value c.deref-2.ensures.value c.deref-3.ensures.value c.deref-4.ensures.value c.in_ok-put_plain.ensures c.in_ok-put_boot.ensures
    c.in_ok-join.ensures c.in_ok-put_monitor_programs.ensures c.in_ok-put_plain-2.ensures asked) c.put_questions.ensures
