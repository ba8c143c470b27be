-- A plan that is put together: its text, and for each of its lines the line from which it came.
use Rattle.std.specs.Prelude.{ℕ, zero, suc, false, List, [], ◌∷◌, ◌++◌, codes, decimal, string_bytes}
use Rattle.std.specs.Fmt.{digits}
use denote.Ref.{Bor}
use Rattle.mcs_plan_domains.specs.declared.lowered.Lowered.{Lowered}

pub record Page : Type 0 where
  pub text : List ℕ
  pub lines : List ℕ

-- what a plan is as one
unfoldable pub page_of : Lowered → Page
page_of l = record { text = string_bytes l.text; lines = l.lines.items }

abbrev pub blank : Page
blank = record { text = []; lines = [] }

-- a text more
unfoldable pub put : Page → List ℕ → Page
put p text = record { text = p.text ++ text; lines = p.lines }

-- the end of a line, which came from this one
unfoldable pub ended : Page → ℕ → Page
ended p line = record { text = p.text ++ 10 ∷ []; lines = p.lines ++ line ∷ [] }

-- another plan after it
unfoldable pub joined : Page → Page → Page
joined p q = record { text = p.text ++ q.text; lines = p.lines ++ q.lines }

-- the last text of a line
abbrev pub last_put : Page → List ℕ → ℕ → Page
last_put p text line = ended (put p text) line

-- a number, in base 10 and in base 16
abbrev pub number_put : Page → ℕ → Page
number_put p n = put p (decimal n)

abbrev pub hex_put : Page → ℕ → Page
hex_put p n = put (put p (codes "0x")) (digits 16 false n)

-- two blanks for each block that is open
abbrev pub indented : Page → ℕ → Page
indented p zero = p
indented p (suc n) = put (indented p n) (codes "  ")

-- words with a blank before each
abbrev pub words_put : Page → List (Bor (List ℕ)) → Page
words_put p [] = p
words_put p (w ∷ ws) = words_put (put (put p (codes " ")) w.now) ws
