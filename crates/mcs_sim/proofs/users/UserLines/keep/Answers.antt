use Rattle.std.proofs.Common.{◌+◌, ◌∙◌, sym, subst, arith}
use Rattle.mcs_text.specs.declared.fault.LineFault.TheVariants as why
use Rattle.mcs_phases.specs.declared.fault.SimFault.TheVariants as fault
use Rattle.mcs_sim.specs.Users.{Users, IsKept, TakesUsers, IsFaultIn}
use Rattle.mcs_sim.proofs.UserLaws.{users_of, takes-none, takes-part, fault-many, fault-long}
use Rattle.mcs_sim.proofs.users.UserLines.keep.Goals as goal

pub returns-then-is_empty-clause-ok : goal.returns-then-is_empty-clause-ok
returns-then-is_empty-clause-ok c = takes-none c.args.self.now c.args.part.now (sym c.is_empty.ensures ∙ c.if-is_empty.true)

pub returns-then-is_empty-clause-kept : goal.returns-then-is_empty-clause-kept
returns-then-is_empty-clause-kept c = subst (λ (u : Users). IsKept u.lines u.line) c.self.view_is c.self.invariant

pub returns-then-line-gt-SCRIPT_LINES-clause-err : goal.returns-then-line-gt-SCRIPT_LINES-clause-err
returns-then-line-gt-SCRIPT_LINES-clause-err c =
    subst (λ (u : Users). IsFaultIn c.args.part.now u (fault.Script (c.self.inside.lines + 1) why.ManyLines)) c.self.view_is
    (fault-many (users_of c.self.inside.asked c.self.inside.script c.self.inside.lines c.self.inside.line.items) c.args.part.now c.self.invariant c.requires.one_line (sym c.is_empty.ensures ∙ c.if-is_empty.false) (omega (arith, c.if-line-gt-SCRIPT_LINES.true)))

pub returns-then-part-len-clause-err : goal.returns-then-part-len-clause-err
returns-then-part-len-clause-err c =
    subst (λ (u : Users). IsFaultIn c.args.part.now u (fault.Script (c.self.inside.lines + 1) why.LongLine)) c.self.view_is
    (fault-long (users_of c.self.inside.asked c.self.inside.script c.self.inside.lines c.self.inside.line.items) c.args.part.now c.self.invariant c.requires.one_line (sym c.is_empty.ensures ∙ c.if-is_empty.false) (omega (arith, c.if-line-gt-SCRIPT_LINES.false)) (omega (arith, c.if-part-len.true, c.len.ensures)))

pub returns-clause-ok : goal.returns-clause-ok
returns-clause-ok c =
    subst (λ (u : Users). TakesUsers c.args.part.now u (users_of c.self.inside.asked c.self.inside.script c.self.inside.lines c.extend_from_slice.new.self.items)) c.self.view_is
    (takes-part (users_of c.self.inside.asked c.self.inside.script c.self.inside.lines c.self.inside.line.items) c.args.part.now c.extend_from_slice.new.self.items c.in-Ok.ensures.items)
