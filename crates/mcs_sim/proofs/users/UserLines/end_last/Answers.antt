use Rattle.std.proofs.Common.{ℕ, ◌≡◌, [], ◌∷◌, OnOk, IfErr, eqb, ap, sym, subst, ◌∙◌}
use Rattle.mcs_sim.specs.Users.{Users, TakesUsers, IsFaultIn, read_to_end, IsFaultAtEnd}
use Rattle.mcs_sim.proofs.UserLaws.{users_of, ok-last, err-last}
use Rattle.mcs_sim.proofs.users.UserLines.end_last.Goals as goal

pub returns-clause-ok : goal.returns-clause-ok
returns-clause-ok c =
    let some = ap (λ (n : ℕ). eqb n 0) (sym c.self.inside.line.ok.0) ∙ sym c.is_empty.ensures ∙ c.if-is_empty.false in
    let r = c.take_kept.result in
    let v = c.take_kept.new.self in
    subst (λ (u : Users). OnOk r (read_to_end u ≡ read_to_end v)) c.self.view_is
    (ok-last r (users_of c.self.inside.asked c.self.inside.script c.self.inside.lines c.self.inside.line.items) v c.self.invariant some (subst (λ (u : Users). OnOk r (TakesUsers (10 ∷ []) u v)) (sym c.self.view_is) c.take_kept.ensures.ok))

pub returns-clause-err : goal.returns-clause-err
returns-clause-err c =
    let some = ap (λ (n : ℕ). eqb n 0) (sym c.self.inside.line.ok.0) ∙ sym c.is_empty.ensures ∙ c.if-is_empty.false in
    let r = c.take_kept.result in
    subst (λ (u : Users). IfErr r (IsFaultAtEnd u)) c.self.view_is
    (err-last r (users_of c.self.inside.asked c.self.inside.script c.self.inside.lines c.self.inside.line.items) c.self.invariant some (subst (λ (u : Users). IfErr r (IsFaultIn (10 ∷ []) u)) (sym c.self.view_is) c.take_kept.ensures.err))
