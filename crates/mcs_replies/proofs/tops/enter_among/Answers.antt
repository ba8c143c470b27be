use Rattle.std.proofs.Common.{position, set, ap, ◌∙◌}
use Rattle.mcs_replies.specs.Tops.{is_for}
use Rattle.mcs_replies.specs.declared.tops.Top.{Top}
use Rattle.mcs_replies.proofs.AmongLaws.{top-none, set-some, entered-none}
use Rattle.mcs_replies.proofs.tops.enter_among.Goals as goal

pub returns-in-Some-clause-items : goal.returns-in-Some-clause-items
returns-in-Some-clause-items c =
    ap (λ (row : Top). set c.args.others.now.items c.in-Some.at (record row { top = c.args.top })) c.index_mut.ensures.value
    ∙ set-some c.args.context c.args.top.0 c.in-Some.at _ c.args.others.now.items (c.in-Some.ensures ∙ ap (λ ts. position (is_for c.args.context) ts) c.deref.ensures.value)

pub push_row-requires : goal.push_row-requires
push_row-requires c = c.requires (top-none c.args.context c.args.others.now.items (c.in-None.ensures ∙ ap (λ ts. position (is_for c.args.context) ts) c.deref.ensures.value))

pub returns-in-None-clause-items : goal.returns-in-None-clause-items
returns-in-None-clause-items c =
    c.push_row.ensures.items ∙ entered-none c.args.context c.args.top.0 c.args.others.now.items (top-none c.args.context c.args.others.now.items (c.in-None.ensures ∙ ap (λ ts. position (is_for c.args.context) ts) c.deref.ensures.value))
