use Rattle.std.proofs.Common.{length, ap, ◌∙◌}
use Rattle.mcs_trace.specs.Reading.{front_text}
use Rattle.mcs_trace.proofs.After.{after-sent}
use Rattle.mcs_trace.proofs.read_lines.sent_text.Goals as goal

pub text_after-requires : goal.text_after-requires
text_after-requires c =
    let a = c.args in
    after-sent a.from a.form a.address _ a.line.now c.front_length-front.result c.requires
    (c.front_length-front.ensures.value ∙ ap (λ k. length (front_text a.from k a.address)) c.sending_key.ensures)
