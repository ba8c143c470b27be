use Rattle.std.proofs.Common.{List, ℕ, ◌+◌, [], ◌∷◌, ◌++◌, OnOk, IfErr, refl, ap, sym, subst, ◌∙◌, take, drop, append_assoc}
use Rattle.std.proofs.lemmas.List.{take_rest}
use Rattle.mcs_sim.specs.Users.{TakesUsers, IsFaultIn}
use Rattle.mcs_sim.proofs.FeedTakes.{line-cut}
use Rattle.mcs_sim.proofs.RunLaws.{IfErr-same}
use Rattle.mcs_sim.proofs.UserLaws.{takes-none, takes-append, fault-within, ok-append, err-append}
use Rattle.mcs_sim.proofs.users.UserLines.feed.Goals as goal

pub loop-i-init : goal.loop-i-init
loop-i-init c = record { reached = ([], refl, takes-none c.args.self.now [] refl) }

pub returns-in_err-end_line-clause-err : goal.returns-in_err-end_line-clause-err
returns-in_err-end_line-clause-err c =
    let reached = c.loop-i.invariant.reached in
    let found = c.in-Some.ensures in
    let cut = line-cut c.loop-i.rest.now c.in-Some.i found.0.high found.1 in
    IfErr-same _ _ _ c.from_residual.ensures.1
    (fault-within c.args.self.now c.loop-i.self c.args.piece.now reached.0 (take c.in-Some.i c.loop-i.rest.now ++ 10 ∷ []) (drop (c.in-Some.i + 1) c.loop-i.rest.now) c.in_err-end_line.field-0.0
    (reached.1 ∙ ap (λ (l : List ℕ). reached.0 ++ l) cut) reached.2 c.in_err-end_line.ensures.err)

pub loop-i-preserved : goal.loop-i-preserved
loop-i-preserved c =
    let reached = c.loop-i.invariant.reached in
    let found = c.in-Some.ensures in
    let cut = line-cut c.loop-i.rest.now c.in-Some.i found.0.high found.1 in
    let line = take c.in-Some.i c.loop-i.rest.now ++ 10 ∷ [] in
    let split = reached.1 ∙ ap (λ (l : List ℕ). reached.0 ++ l) cut ∙ sym (append_assoc reached.0 line (drop (c.in-Some.i + 1) c.loop-i.rest.now))
    ∙ ap (λ (l : List ℕ). (reached.0 ++ line) ++ l) (sym (take_rest c.loop-i.rest.now (c.in-Some.i + 1))) in
    record { reached = (reached.0 ++ line, split, takes-append c.args.self.now c.loop-i.self c.end_line.new.self reached.0 line reached.2 c.in_ok-end_line.ensures.ok) }

pub returns-clause-ok : goal.returns-clause-ok
returns-clause-ok c =
    let reached = c.loop-i.invariant.reached in
    subst (λ (l : List ℕ). OnOk c.keep.result (TakesUsers l c.args.self.now c.keep.new.self)) (sym reached.1)
    (ok-append c.keep.result c.args.self.now c.loop-i.self c.keep.new.self reached.0 c.loop-i.rest.now reached.2 c.keep.ensures.ok)

pub returns-clause-err : goal.returns-clause-err
returns-clause-err c =
    let reached = c.loop-i.invariant.reached in
    subst (λ (l : List ℕ). IfErr c.keep.result (IsFaultIn l c.args.self.now)) (sym reached.1)
    (err-append c.keep.result c.args.self.now c.loop-i.self reached.0 c.loop-i.rest.now reached.2 c.keep.ensures.err)
