use Rattle.std.proofs.Common.{◌≡◌, [], ◌∷◌, sym, ◌∙◌, ap}
use Rattle.mcs_text.specs.Reading.{entry_at}
use Rattle.mcs_text.specs.Keys.{entry_key}
use Rattle.mcs_text.proofs.EntryLaws.{no-field}
use Rattle.mcs_text.proofs.steps.read_any_entry.Goals as goal

pub returns-in_default-left : goal.returns-in_default-left
unfolding entry_at
returns-in_default-left c =
    let none : c.next_word.new.self ≡ [] = sym c.in_default-left.ensures in
    let whole = sym c.new-words.ensures ∙ c.in-Some.ensures.some ∙ ap (λ ws. c.in-Some.word.now ∷ ws) none in
    ap entry_at whole ∙ no-field (entry_key c.in-Some.word.now)
