use Rattle.std.proofs.Common.{sym, arith}
use Rattle.std.proofs.lemmas.Grind.{common_steps}
use Rattle.mcs_slots.proofs.CopyLaws.{source-empty, source-full, source-found}
use Rattle.mcs_slots.proofs.slots.Slots.source_of.Goals as goal

pub returns-in-None : goal.returns-in-None
returns-in-None c = sym (source-empty c.args.self.now c.args.source c.args.dest (sym c.in-None.ensures))

pub returns-in-Some : goal.returns-in-Some
returns-in-Some c = sym (source-found c.args.self.now c.args.source c.args.dest c.in-Some.cap (sym c.in-Some.ensures) (grind (arith, common_steps)))

pub returns-in-Some-2 : goal.returns-in-Some-2
returns-in-Some-2 c = sym (source-full c.args.self.now c.args.source c.args.dest c.in-Some.cap (sym c.in-Some.ensures) (grind (arith, common_steps)))
