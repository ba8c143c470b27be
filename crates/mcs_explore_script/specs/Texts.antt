-- The text of a script of users (own).
use Rattle.std.specs.Prelude.{ℕ, ◌≡◌, List, Option, Some, None}
use Rattle.std.specs.Io.KnownBytes.{Consumes, IsAtEnd}
use Rattle.mcs_book.specs.Boots.{Boot}
use Rattle.mcs_text.specs.declared.steps.UserEntry.{UserEntry}
use Rattle.mcs_phases.specs.Script.{users}

-- all of an input was read: this text, of which no line is faulty, and which says this boot and
-- these entries
pub record IsText (left left' : Option (List ℕ)) (text : List ℕ) (boot : Boot) (entries : List UserEntry) : Type 0 where
  pub read : Consumes left left' text
  pub ended : IsAtEnd left'
  pub faultless : users None text ≡ (record { boot = Some boot; items = entries }, None)
