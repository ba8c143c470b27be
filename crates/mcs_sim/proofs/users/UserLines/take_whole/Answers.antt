use Rattle.std.proofs.Common.{List, ℕ, ◌+◌, ◌≡◌, [], ◌∷◌, ◌++◌, ◌∙◌, ap, sym, subst}
use Rattle.mcs_sim.specs.Users.{Users, TakesUsers, IsFaultIn}
use Rattle.mcs_sim.proofs.RunLaws.{IfErr-same}
use Rattle.mcs_sim.proofs.UserLaws.{users_of, takes-line, fault-line}
use Rattle.mcs_sim.proofs.users.UserLines.take_whole.Goals as goal

pub returns-in_err-read_user_line-clause-err : goal.returns-in_err-read_user_line-clause-err
returns-in_err-read_user_line-clause-err c =
    let none : c.self.inside.line.items ≡ [] = ap (λ (u : Users). u.line) c.self.view_is ∙ c.requires.begins in
    IfErr-same _ _ _ c.from_residual.ensures.1
    (subst (λ (u : Users). IsFaultIn (c.args.line.now ++ 10 ∷ []) u c.in_err-read_user_line.field-0.0) c.self.view_is
    (fault-line (users_of c.self.inside.asked c.self.inside.script c.self.inside.lines c.self.inside.line.items) c.args.line.now c.args.line.now c.in_err-read_user_line.field-0.0 (ap (λ (l : List ℕ). l ++ c.args.line.now) (sym none)) c.requires.one_line c.in_err-read_user_line.ensures.err))

pub returns-clause-ok : goal.returns-clause-ok
returns-clause-ok c =
    let none : c.self.inside.line.items ≡ [] = ap (λ (u : Users). u.line) c.self.view_is ∙ c.requires.begins in
    subst (λ (u : Users). TakesUsers (c.args.line.now ++ 10 ∷ []) u (users_of c.self.inside.asked c.read_user_line.new.script (c.self.inside.lines + 1) c.self.inside.line.items)) c.self.view_is
    (takes-line (users_of c.self.inside.asked c.self.inside.script c.self.inside.lines c.self.inside.line.items) c.args.line.now c.args.line.now c.self.inside.line.items c.read_user_line.new.script (ap (λ (l : List ℕ). l ++ c.args.line.now) (sym none)) c.requires.one_line none c.in_ok-read_user_line.ensures.ok)
