use Rattle.std.proofs.Common.{◌≡◌, Some, slice_get, sym, ◌∙◌, rules}
use Rattle.mcs_plan_source.proofs.Entries.{named_here, named_later, no_more_names}
use Rattle.mcs_plan_source.proofs.names.Symbols.name_of.Goals.{in-Some+else-is_same, in_default}
use Rattle.mcs_plan_source.proofs.names.Symbols.name_of.Goals as goal

pub returns-then-is_same : goal.returns-then-is_same
returns-then-is_same c =
    let there : slice_get c.args.self.now c.loop-index.index ≡ Some (c.in-Some.name.now, c.in-Some.named) = search rules in
    sym (c.loop-index.invariant ∙ named_here c.args.self.now c.loop-index.index (c.in-Some.name.now, c.in-Some.named) c.args.object there (sym c.is_same.ensures ∙ c.if-is_same.true))

pub loop-index-preserved : goal.loop-index-preserved
loop-index-preserved c = elim c.match-at.branch [
  | in-Some+else-is_same w ↦
      let there : slice_get c.args.self.now c.loop-index.index ≡ Some (w.in-Some.name.now, w.in-Some.named) = search rules in
      c.loop-index.invariant ∙ named_later c.args.self.now c.loop-index.index (w.in-Some.name.now, w.in-Some.named) c.args.object there (sym w.is_same.ensures ∙ w.if-is_same.false)
  | in_default w ↦ c.loop-index.invariant ∙ no_more_names c.args.self.now c.loop-index.index c.args.object (search rules)
]
