use Rattle.std.proofs.Common.{ℕ, ◌+◌, ◌≡◌, Option, Some, None, [], ap, sym, subst, ◌∙◌}
use Rattle.mcs_book.specs.Boots.{Boot}
use Rattle.mcs_text.specs.declared.fault.LineFault.TheVariants as why
use Rattle.mcs_text.specs.declared.fault.LineFault.{LineFault}
use Rattle.mcs_text.specs.declared.steps.UserEntry.{UserEntry}
use Rattle.mcs_phases.specs.declared.fault.SimFault.TheVariants as fault
use Rattle.mcs_phases.specs.Script.{Script}
use Rattle.mcs_sim.specs.Users.{Users, read_to_end, IsFaultAtEnd}
use Rattle.mcs_sim.proofs.UserLaws.{users_of, end-said, end-unsaid}
use Rattle.mcs_sim.proofs.users.UserLines.into_said.Goals as goal

pub returns-in-Some-clause-ok : goal.returns-in-Some-clause-ok
returns-in-Some-clause-ok c =
    let none : c.self.inside.line.items ≡ [] = ap (λ (u : Users). u.line) c.self.view_is ∙ c.requires in
    let boot : c.self.inside.script.boot ≡ Some c.in-Some.boot = ap (λ (s : Script UserEntry). s.boot) (sym c.script.view_is) ∙ c.in-Some.is in
    let script : c.self.inside.script ≡ record { boot = Some c.in-Some.boot; items = c.script.inside.items.items }
    = sym c.script.view_is ∙ ap (λ (b : Option Boot). record { boot = b; items = c.script.inside.items.items }) c.in-Some.is in
    ap read_to_end (sym c.self.view_is) ∙ end-said (users_of c.self.inside.asked c.self.inside.script c.self.inside.lines c.self.inside.line.items) c.in-Some.boot none boot ∙ λ i. (script i, None)

pub returns-clause-err : goal.returns-clause-err
returns-clause-err c =
    let none : c.self.inside.line.items ≡ [] = ap (λ (u : Users). u.line) c.self.view_is ∙ c.requires in
    let boot : c.self.inside.script.boot ≡ None = ap (λ (s : Script UserEntry). s.boot) (sym c.script.view_is) ∙ c.in-None.is in
    subst (λ (u : Users). IsFaultAtEnd u (fault.Script (c.self.inside.lines + 1) why.NoCores)) c.self.view_is
    (ap (λ (r : Script UserEntry × Option (ℕ × LineFault)). r.1) (end-unsaid (users_of c.self.inside.asked c.self.inside.script c.self.inside.lines c.self.inside.line.items) none boot))
