-- What a system of protection domains becomes.
use Rattle.std.specs.Prelude.{◌≡◌, ℕ, List, [], ◌∷◌, codes}
use Rattle.mcs_plan_domains.specs.declared.capabilities.TheConstants.{CORES}
use Rattle.mcs_plan_domains.specs.declared.system.Plain.{Plain}
use Rattle.mcs_plan_domains.specs.declared.system.System.{System}
use Rattle.mcs_plan_domains.specs.Boots.{boot_put}
use Rattle.mcs_plan_domains.specs.Channels.{AllLead}
use Rattle.mcs_plan_domains.specs.Joins.{AllJoin}
use Rattle.mcs_plan_domains.specs.Monitors.{programs_put}
use Rattle.mcs_plan_domains.specs.Pages.{Page, blank, joined, last_put, put}
use Rattle.mcs_plan_domains.specs.Questions.{questions_put}

-- lines as they are
abbrev pub plain_put : Page → List Plain → Page
plain_put p [] = p
plain_put p (l ∷ ls) = plain_put (last_put p l.text.now l.line) ls

-- a plan without domains: what is before the first program, the boot of the domains, their
-- programs, those of the monitors, and the rest, of which the questions come last
abbrev pub system_put : System → Page → Page → Page
system_put s programs p =
    let q = joined (boot_put (plain_put p s.heads.items) s) programs in
    questions_put (plain_put (programs_put q s.domains.items CORES) s.tails.items) s.questions.items

-- the plan of a system, with some programs of its domains
pub record IsPlanOf (s : System) (p : Page) : Type 0 where
  pub programs : Page
  pub is : p ≡ system_put s programs blank

-- an entry of the starter
abbrev pub entry_put : Page → ℕ → List ℕ → List ℕ → List ℕ → Page
entry_put p line entry name after = last_put (put (put (put (put p (codes "user ")) (codes "starter")) entry) name) after line

-- a plan with passive threads among users ends in the line by which the starter suspends itself
pub record IsStarted (p : Page) : Type 0 where
  pub before : Page
  pub line : ℕ
  pub is : p ≡ entry_put before line (codes ": suspend ") (codes "starter") []

-- the plan of a system whose channels join its domains, or one with a starter
pub data IsLowered (p : Page) : Type 0 where
  of_system : (s : System) → AllJoin s → AllLead p s → IsPlanOf s p → IsLowered p
  started : IsStarted p → IsLowered p
