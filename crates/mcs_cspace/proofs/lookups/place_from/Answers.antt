use Rattle.std.proofs.Common.{ap, sym, ◌∙◌}
use Rattle.mcs_cspace.specs.Spaces.{slots_space, walked_by, named_by}
use Rattle.mcs_cspace.proofs.NamedLaws.{slot-ends, slot-refused, slot-out}
use Rattle.mcs_cspace.proofs.lookups.place_from.Goals as goal

pub returns-then-not-in_range-clause-value : goal.returns-then-not-in_range-clause-value
returns-then-not-in_range-clause-value c = slot-out (slots_space c.args.slots.now) c.args.root.now c.args.place (sym c.in_range.ensures ∙ c.if-not-in_range.true)

pub returns-in-Err-clause-value : goal.returns-in-Err-clause-value
returns-in-Err-clause-value c = slot-refused (slots_space c.args.slots.now) c.args.root.now c.args.place c.in-Err.refusal (sym c.in_range.ensures ∙ c.if-not-in_range.false) (ap (walked_by c.args.place.index) (sym c.in-Err.is) ∙ c.find.ensures.value)

pub returns-in-Ok-clause-value : goal.returns-in-Ok-clause-value
returns-in-Ok-clause-value c =
    ap named_by c.whole.ensures
    ∙ slot-ends (slots_space c.args.slots.now) c.args.root.now c.args.place c.in-Ok.end (sym c.in_range.ensures ∙ c.if-not-in_range.false) (ap (walked_by c.args.place.index) (sym c.in-Ok.is) ∙ c.find.ensures.value)
