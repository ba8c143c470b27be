use Rattle.std.proofs.Common.{arith}
use Rattle.mcs_trace.proofs.After.{after-replied}
use Rattle.mcs_trace.proofs.read_lines.replied_text.Goals as goal

pub text_after-requires : goal.text_after-requires
text_after-requires c = after-replied c.args.from c.args.cap c.args.reply _ c.args.line.now _ c.requires (omega (arith, c.front_length-first.ensures.value, c.number_length-last.ensures.value))
