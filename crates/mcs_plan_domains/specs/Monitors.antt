-- The programs of the monitors, by which domains become passive.
use Rattle.std.specs.Prelude.{ℕ, zero, suc, ◌==◌, ◌&&◌, Bool, false, true, cond, List, [], ◌∷◌, Option, Some, None, codes}
use Rattle.mcs_plan_domains.specs.declared.system.Domain.{Domain}
use Rattle.mcs_plan_domains.specs.Boots.{passive_line}
use Rattle.mcs_plan_domains.specs.Pages.{Page, put, ended, last_put, number_put}

-- how an arm begins
abbrev pub arm_word : Bool → List ℕ
arm_word first = cond first (codes "    if $badge == ") (codes "    } else if $badge == ")

-- the context of a domain is bound to its notification
abbrev pub bound_put : Page → Domain → Page
bound_put p d = last_put (put (put (put (put p (codes "      bind ")) d.name.now) (codes ".context ")) d.name.now) (codes ".ntfn") d.line

-- the arm of a passive domain: its context goes from its thread to its notification
abbrev pub unbound_put : Page → Domain → Bool → Page
unbound_put p d first =
    let q = last_put (number_put (put p (arm_word first)) d.number) (codes " {") d.line in
    bound_put (last_put (put (put q (codes "      unbind ")) d.name.now) (codes ".context") d.line) d

-- the arms of the passive domains of a core
abbrev pub arms_put : Page → ℕ → Bool → List Domain → Page
arms_put p core first [] = p
arms_put p core first (d ∷ ds) =
    cond (d.is_passive && (d.core == core)) (arms_put (unbound_put p d first) core false ds) (arms_put p core first ds)

abbrev pub head_put : Page → ℕ → ℕ → Page
head_put p core line =
    let q = last_put (last_put (number_put (put p (codes "program microkit.monitor")) core) (codes " {") line) (codes "  forever {") line in
    ended (number_put (put q (codes "    input1: wait microkit.ep")) core) line

abbrev pub tail_put : Page → ℕ → Page
tail_put p line = last_put (last_put (last_put p (codes "    }") line) (codes "  }") line) (codes "}") line

-- a line that says that the monitor may wait for ever
abbrev pub idle_put : Page → ℕ → ℕ → Page
idle_put p core line = last_put (number_put (put p (codes "#! idle microkit.monitor")) core) (codes " input1") line

-- the monitor's program: it waits; where a domain has begun, its context goes to its notification;
-- and so on for ever
abbrev pub program_put : Page → List Domain → ℕ → ℕ → Page
program_put p ds core line = idle_put (tail_put (arms_put (head_put p core line) core true ds) line) core line

abbrev pub program_if : Page → List Domain → ℕ → Option ℕ → Page
program_if p ds core None = p
program_if p ds core (Some line) = program_put p ds core line

-- the programs of all monitors
abbrev pub programs_put : Page → List Domain → ℕ → Page
programs_put p ds zero = p
programs_put p ds (suc n) = program_if (programs_put p ds n) ds n (passive_line ds n)
