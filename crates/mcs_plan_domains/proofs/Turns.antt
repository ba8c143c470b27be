-- A turn of a loop that counts blocks or cores.
use Rattle.std.proofs.Common.{◌≡◌, ◌+◌, ℕ, suc, List, ap, ◌∙◌, arith, codes}
use Rattle.mcs_plan_domains.specs.declared.system.Domain.{Domain}
use Rattle.mcs_plan_domains.specs.Boots.{monitor_if, monitors_put, passive_line}
use Rattle.mcs_plan_domains.specs.Monitors.{program_if, programs_put}
use Rattle.mcs_plan_domains.specs.Pages.{Page, indented, put}

pub block_turn : (p q r : Page) (n : ℕ) → q ≡ indented p n → r ≡ put q (codes "  ") → r ≡ indented p (n + 1)
block_turn p q r n before now =
    let next : suc n ≡ n + 1 = omega arith in
    now ∙ ap (λ q. put q (codes "  ")) before ∙ ap (λ k. indented p k) next

pub monitor_turn : (p q r : Page) (ds : List Domain) (n : ℕ) → q ≡ monitors_put p ds n → r ≡ monitor_if q n (passive_line ds n) → r ≡ monitors_put p ds (n + 1)
monitor_turn p q r ds n before now =
    let next : suc n ≡ n + 1 = omega arith in
    now ∙ ap (λ q. monitor_if q n (passive_line ds n)) before ∙ ap (λ k. monitors_put p ds k) next

pub program_turn : (p q r : Page) (ds : List Domain) (n : ℕ) → q ≡ programs_put p ds n → r ≡ program_if q ds n (passive_line ds n) → r ≡ programs_put p ds (n + 1)
program_turn p q r ds n before now =
    let next : suc n ≡ n + 1 = omega arith in
    now ∙ ap (λ q. program_if q ds n (passive_line ds n)) before ∙ ap (λ k. programs_put p ds k) next
