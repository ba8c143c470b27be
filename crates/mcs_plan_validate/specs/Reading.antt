-- What a text was read as.
use Rattle.std.specs.Prelude.{◌≡◌, ℕ, List, [], Option, Some, None, reverse}
use Rattle.mcs_types.specs.declared.entry.Step.{Step}
use Rattle.mcs_book.specs.Boots.{Boot}
use Rattle.mcs_book.specs.History.{Book, book_of, log_of}
use Rattle.mcs_phases.specs.Script.{steps}
use Rattle.mcs_plan_layout.specs.declared.laid.PlanLayout.{PlanLayout}
use Rattle.mcs_plan_layout.specs.Naming.{cores_of}
use Rattle.mcs_plan_layout.specs.Boot.{boot_of}
use Rattle.mcs_plan_compile.specs.declared.script.Script.{Script}
use Rattle.mcs_plan_validate.specs.Leading.{AllLead}

-- a text is a script of steps without a fault, and this is the book that it makes
pub record IsScript (text : List ℕ) (book : Book) : Type 0 where
  pub items : List Step
  pub reads : steps text ≡ (record { boot = Some book.boot; items = items }, None)
  pub makes : book ≡ book_of book.boot items

-- a text is the script of a book, if there is a book
abbrev pub IsScriptOf : List ℕ → Option Book → Type 0
IsScriptOf text (Some book) = IsScript text book
IsScriptOf text None = ⊥

-- a boot has the cores and the lines that a script gives, in order
pub record IsBootOf (s : Script) (boot : Boot) : Type 0 where
  pub cores : boot.cores ≡ s.cores
  pub lines : reverse boot.lines ≡ s.boot.items

-- a boot is that of a plan: its cores, and then in order what the plan makes, fills and binds, and
-- nothing else
pub record IsPlansBoot (laid : PlanLayout) (boot : Boot) : Type 0 where
  pub cores : boot.cores ≡ cores_of laid.plan.cores laid.plan.contexts.items
  pub lines : reverse boot.lines ≡ boot_of laid.plan laid.layouts.items

-- a text is a script of steps without a fault, its boot is that of the plan, and after this each
-- name of each thread leads to what its slot holds
pub record IsVouched (text : List ℕ) (laid : PlanLayout) : Type 0 where
  pub book : Book
  pub script : IsScript text book
  pub boot : IsPlansBoot laid book.boot
  pub leads : AllLead (log_of (record { boot = book.boot; lines = [] })) laid.tables.items
