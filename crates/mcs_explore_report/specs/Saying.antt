-- Answers as they are written (own).
use Rattle.std.specs.Prelude.{ℕ, ◌++◌, List, decimal, drop}
use Rattle.std.specs.List.{flat_map}
use Rattle.mcs_types.specs.declared.entry.Answer.{Answer}
use Rattle.mcs_text.specs.Spelling.{then_text, token_text}
use Rattle.mcs_text.specs.Table.{Form, answer_form}

-- a number after a space
abbrev pub number_text : ℕ → List ℕ
number_text n = then_text (decimal n)

-- the text of an answer as its line in a trace has it, after `= `
abbrev pub said_by : Form → List ℕ
said_by f = drop 2 (token_text f.first) ++ flat_map number_text f.numbers

abbrev pub said : Answer → List ℕ
said a = said_by (answer_form a)
