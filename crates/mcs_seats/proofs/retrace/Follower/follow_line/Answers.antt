use Rattle.std.proofs.Common.{◌≡◌, ◌≤◌, ◌==◌, false, ap, sym, ◌∙◌, arith}
use Rattle.mcs_types.specs.declared.entry.Step.{Step}
use Rattle.mcs_book.specs.History.{Line}
use Rattle.mcs_seats.specs.Trails.{Trail}
use Rattle.mcs_seats.proofs.Trails.{line-foreign}
use Rattle.mcs_seats.proofs.retrace.Follower.follow_line.Goals as goal

pub returns : goal.returns
returns c =
    let w : Trail = c.args.self.now in
    let l : Line = c.requires.line.line in
    let at : c.self.inside.at ≡ w.at = ap (λ (t : Trail). t.at) c.self.view_is in
    let some : 1 ≤ w.at = omega (arith, at, c.self.invariant.some) in
    let other : (l.step.core.0 == w.core.0) ≡ false =
    ap (λ (t : Trail). l.step.core.0 == t.core.0) (sym c.self.view_is)
    ∙ ap (λ (s : Step). s.core.0 == c.self.inside.core.0) (sym c.requires.line.step)
    ∙ sym c.eq.ensures ∙ c.if-eq.false in
    line-foreign w c.args.count l c.requires.right c.requires.later some c.requires.line.is other
