use Rattle.std.proofs.Common.{position, ap, ◌∙◌}
use Rattle.mcs_replies.specs.Tops.{is_for}
use Rattle.mcs_replies.proofs.AmongLaws.{top-none, remove-some, left-none}
use Rattle.mcs_replies.proofs.tops.leave_among.Goals as goal

pub returns-in-Some-clause-items : goal.returns-in-Some-clause-items
returns-in-Some-clause-items c = c.remove.ensures.items ∙ remove-some c.args.context c.in-Some.at c.args.others.now.items (c.in-Some.ensures ∙ ap (λ ts. position (is_for c.args.context) ts) c.deref.ensures.value)

pub returns-in_default-clause-items : goal.returns-in_default-clause-items
returns-in_default-clause-items c = left-none c.args.context c.args.others.now.items (top-none c.args.context c.args.others.now.items (c.in_default.ensures ∙ ap (λ ts. position (is_for c.args.context) ts) c.deref.ensures.value))
