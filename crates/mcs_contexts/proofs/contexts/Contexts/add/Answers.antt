use Rattle.std.proofs.Common.{ap, refl, ◌∙◌}
use Rattle.mcs_contexts.proofs.HoldingLaws.{kept, unheld}
use Rattle.mcs_contexts.proofs.contexts.Contexts.add.Goals as goal

pub invariant_of-self : goal.invariant_of-self
invariant_of-self c =
    let all = c.self.invariant in
    let counts = c.add.ensures.shape in
    record {
      room = ap (λ n. n.room) counts ∙ all.room;
      kind = ap (λ n. n.kind) counts ∙ all.kind;
      places = all.places;
      one_to_one = kept (record { rows = c.self.inside.rows; held = c.self.inside.held.items }) _ all.one_to_one (unheld c.self.inside.rows c.add.new.self c.add.result c.args.core c.are_apart.ensures.given c.add.ensures.id c.add.ensures.values) (λ x. refl);
    }
