-- Whether what a script says of its steps holds.
use Rattle.std.specs.Prelude.{ℕ, Bool, true, false, List, [], ◌∷◌, ◌++◌, map}
use Rattle.std.specs.List.{list_all}
use Rattle.mcs_text.specs.Reading.{lines_of}
use Rattle.mcs_lab_check.specs.Checked.{unread, verdicts}
use Rattle.mcs_lab_check.specs.declared.last.LineResult.{LineResult}
use Rattle.mcs_lab_check.specs.declared.last.LineResult.TheVariants as line_result

-- a line holds; so it does where it wants nothing
abbrev pub is_met : LineResult → Bool
is_met line_result.Nothing = true
is_met line_result.Step = true
is_met (line_result.Answer holds) = holds
is_met (line_result.Record holds) = holds
is_met (line_result.Asked holds) = holds
is_met line_result.NoQuestion = false

-- a line with its newline, which the last of a text may lack
abbrev pub whole_line : List ℕ → List ℕ
whole_line line = line ++ 10 ∷ []

-- all lines of a script hold, where each is judged after those before it
abbrev pub holds_throughout : List ℕ → Bool
holds_throughout script = list_all is_met (verdicts unread (map whole_line (lines_of script)))
