-- The steps that were skipped.
use Rattle.std.specs.Prelude.{ℕ, List, [], ◌∷◌, ◌++◌, Option, Some, None, length}
use Rattle.std.specs.String.{string_bytes}
use Rattle.mcs_types.specs.declared.id.ObjId.{ObjId}
use Rattle.mcs_types.specs.declared.id.CoreId.{CoreId}
use Rattle.mcs_types.specs.declared.entry.Step.{Step}
use Rattle.mcs_book.specs.History.{Book}
use Rattle.mcs_kernel.specs.declared.fault.EnterFault.{EnterFault}
use Rattle.mcs_lab_diagram.specs.declared.drawn.Away.{Away}

-- a step that was skipped: how many lines were before it, which thread would have entered on which
-- core, its text, and why
pub record Noted : Type 0 where
  pub after : ℕ
  pub core : CoreId
  pub thread : ObjId
  pub text : List ℕ
  pub why : EnterFault

-- the same, with the bytes of its text
abbrev pub noted : Away → Noted
noted a = record { after = a.after; core = a.core; thread = a.thread; text = string_bytes a.text; why = a.why }

-- with a step of this text more, if it has a fault: it came after the last line of the book
abbrev pub with_away : List Noted → Book → Step → List ℕ → Option EnterFault → List Noted
with_away old b s text None = old
with_away old b s text (Some why) = old ++ (record { after = length b.lines; core = s.core; thread = s.thread; text = text; why = why }) ∷ []
