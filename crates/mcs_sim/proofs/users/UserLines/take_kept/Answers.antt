use Rattle.std.proofs.Common.{List, ℕ, ◌+◌, ◌≡◌, Ok, [], ◌∷◌, sym, subst, append-nil}
use Rattle.mcs_phases.specs.Script.{of_users, read_line}
use Rattle.mcs_sim.specs.Users.{Users, TakesUsers, IsFaultIn, IsFaultOfLine}
use Rattle.mcs_sim.proofs.RunLaws.{IfErr-same}
use Rattle.mcs_sim.proofs.UserLaws.{users_of, takes-line, fault-line}
use Rattle.mcs_sim.proofs.users.UserLines.take_kept.Goals as goal

pub returns-in_err-read_user_line-clause-err : goal.returns-in_err-read_user_line-clause-err
returns-in_err-read_user_line-clause-err c =
    let number = c.self.inside.lines + 1 in
    let bad = subst (λ (l : List ℕ). IsFaultOfLine number (read_line (of_users c.self.inside.asked) c.self.inside.script number l) c.in_err-read_user_line.field-0.0) c.deref.ensures.value c.in_err-read_user_line.ensures.err in
    IfErr-same _ _ _ c.from_residual.ensures.1
    (subst (λ (u : Users). IsFaultIn (10 ∷ []) u c.in_err-read_user_line.field-0.0) c.self.view_is
    (fault-line (users_of c.self.inside.asked c.self.inside.script c.self.inside.lines c.self.inside.line.items) [] c.self.inside.line.items c.in_err-read_user_line.field-0.0 (sym (append-nil c.self.inside.line.items)) c.self.invariant.plain bad))

pub returns-clause-ok : goal.returns-clause-ok
returns-clause-ok c =
    let number = c.self.inside.lines + 1 in
    let read = subst (λ (l : List ℕ). read_line (of_users c.self.inside.asked) c.self.inside.script number l ≡ Ok c.read_user_line.new.script) c.deref.ensures.value c.in_ok-read_user_line.ensures.ok in
    subst (λ (u : Users). TakesUsers (10 ∷ []) u (users_of c.self.inside.asked c.read_user_line.new.script number c.clear.new.self.items)) c.self.view_is
    (takes-line (users_of c.self.inside.asked c.self.inside.script c.self.inside.lines c.self.inside.line.items) [] c.self.inside.line.items c.clear.new.self.items c.read_user_line.new.script (sym (append-nil c.self.inside.line.items)) c.self.invariant.plain c.clear.ensures.items read)
