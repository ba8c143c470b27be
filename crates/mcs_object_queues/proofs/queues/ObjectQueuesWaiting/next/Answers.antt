use Rattle.std.proofs.Common.{ap, sym, ◌∙◌, Some}
use Rattle.std.specs.Prelude.{option_map}
use Rattle.mcs_object_queues.specs.Places.{thread_at, number_of, queue_at}
use Rattle.mcs_object_queues.proofs.Lists.{below}
use Rattle.mcs_object_queues.proofs.Numbering.{next-behind}
use Rattle.mcs_object_queues.proofs.PlaceLaws.{numbering}
use Rattle.mcs_object_queues.proofs.queues.ObjectQueuesWaiting.next.Goals as goal

pub returns-in_err-next : goal.returns-in_err-next
returns-in_err-next g c =
    let s = c.self.inside in
    let kept = c.self.invariant in
    let iso = numbering s.endpoints s.notifications kept.endpoints kept.notifications c.are_apart.ensures c.are_apart-2.ensures in
    let who = below _ _ (sym c.in_ok-number.ensures) in
    let behind = next-behind (number_of s.endpoints s.notifications) (queue_at s.endpoints s.notifications) iso (g.L.Lines.line s.lines) (g.L.Lines.place s.lines) kept.lined_up c.args.thread c.in_ok-number.number.0 who.0 in
    rw (c.from_residual-in_err-next.ensures, ← c.self.view_is) (ap (λ o. option_map thread_at o) c.in_err-next.ensures ∙ sym behind)

pub returns : goal.returns
returns g c =
    let s = c.self.inside in
    let kept = c.self.invariant in
    let iso = numbering s.endpoints s.notifications kept.endpoints kept.notifications c.are_apart.ensures c.are_apart-2.ensures in
    let who = below _ _ (sym c.in_ok-number.ensures) in
    let behind = next-behind (number_of s.endpoints s.notifications) (queue_at s.endpoints s.notifications) iso (g.L.Lines.line s.lines) (g.L.Lines.place s.lines) kept.lined_up c.args.thread c.in_ok-number.number.0 who.0 in
    rw (← c.self.view_is) (ap (λ t. Some t) c.thread_id.ensures ∙ ap (λ o. option_map thread_at o) c.in_ok-next.ensures ∙ sym behind)
