use Rattle.std.proofs.Common.{◌≡◌, ◌+◌, length, ap, ◌∙◌, subst}
use Rattle.std.specs.Prelude.{if◌then◌else◌}
use Rattle.mcs_types.specs.Limits.{core_limit}
use Rattle.mcs_book.specs.History.{Book}
use Rattle.mcs_cores.proofs.Audit.{all-entered}
use Rattle.mcs_cores.proofs.machine.LockedKernel.settle.Goals as goal

pub returns-clause-counted : goal.returns-clause-counted
returns-clause-counted g c =
    let k = c.self.inside in
    let inv = c.self.invariant in
    let split = subst (λ (b : Book). k.rest.parts + (if k.given then b.boot.cores else 0) ≡ core_limit) c.self.view_is inv.1 in
    let total = inv.0 ∙ ap (λ (b : Book). length b.lines) c.self.view_is in
    all-entered c.args.self c.args.seats.items k.given k.rest.parts g.G.Ledger.parts k.book.total split inv.3 total
    c.audit_seats.ensures.parts c.audit_seats.ensures.whole
