use Rattle.std.proofs.Common.{◌≡◌, ℕ, ap, sym, ◌∙◌}
use Rattle.std.specs.Cmp.Lexicographic.{same_text}
use Rattle.std.proofs.lemmas.List.{take_rest}
use Rattle.mcs_trace.specs.Reading.{message_text}
use Rattle.mcs_trace.proofs.read_lines.text_after.Goals as goal

pub returns-then-text-le-MESSAGE : goal.returns-then-text-le-MESSAGE
returns-then-text-le-MESSAGE c =
    let a = c.args in
    let words : a.words.now ≡ a.read.1.now = same_text a.words.now a.read.1.now (sym c.if-eq.true ∙ c.eq.ensures) in (
      take_rest a.line.now a.front ∙ c.requires.1 ∙ ap (λ (n : ℕ). message_text n a.read.1.now) (sym c.if-label-read.true) ∙ ap (message_text a.label) (sym words),
      c.if-text-le-MESSAGE.true,
    )
