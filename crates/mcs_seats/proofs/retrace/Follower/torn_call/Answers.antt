use Rattle.std.proofs.Common.{◌≡◌, ◌<◌, ◌+◌, length, ap, sym, ◌∙◌, arith}
use Rattle.mcs_book.specs.History.{Book}
use Rattle.mcs_seats.specs.Trails.{Trail}
use Rattle.mcs_seats.proofs.Trails.{ended-torn-any}
use Rattle.mcs_seats.proofs.retrace.Follower.torn_call.Goals as goal

pub returns-then-count-self-clause-torn : goal.returns-then-count-self-clause-torn
returns-then-count-self-clause-torn g c =
    let w : Trail = c.args.self.now in
    let size : length c.self.inside.calls.now ≡ length w.calls = ap (λ (t : Trail). length t.calls) c.self.view_is in
    let lt : c.in-Right.count < length w.calls = omega (arith, size, c.if-count-self.true) in
    let end : w.at ≡ length w.book.lines + 1 =
    c.requires.beside.at ∙ c.requires.end ∙ ap (λ (b : Book). length b.lines + 1) (sym c.requires.beside.book) in
    ended-torn-any w c.in-Right.count c.in-Right.ensures.0 c.in-Right.ensures.1 lt end
