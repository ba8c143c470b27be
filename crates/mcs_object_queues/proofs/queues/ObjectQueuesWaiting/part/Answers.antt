use Rattle.std.proofs.Common.{ap, sym, ◌∙◌}
use Rattle.mcs_queues.specs.Numbers.{thread_number}
use Rattle.mcs_object_queues.specs.Places.{number_of, queue_at}
use Rattle.mcs_object_queues.proofs.Lists.{below}
use Rattle.mcs_object_queues.proofs.Numbering.{parted, parted-line, without-none}
use Rattle.mcs_object_queues.proofs.queues.ObjectQueuesWaiting.part.Goals as goal

pub invariant_of-self : goal.invariant_of-self
invariant_of-self g c =
    let s = c.self.inside in
    let kept = c.self.invariant in
    record {
      endpoints = kept.endpoints;
      notifications = kept.notifications;
      lined_up = parted (queue_at s.endpoints s.notifications) (g.L.Lines.line s.lines) (g.L.Lines.line c.part.new.self) (g.L.Lines.place s.lines) (g.L.Lines.place c.part.new.self) c.in-Some.number.0 c.part.ensures.line c.part.ensures.place kept.lined_up;
      rooms_are = c.part.ensures.rooms ∙ kept.rooms_are;
    }

pub returns-in-Some-clause-line : goal.returns-in-Some-clause-line
returns-in-Some-clause-line g c =
    let s = c.self.inside in
    let who = (below _ _ (sym c.thread_no.ensures ∙ ap (λ o. thread_number o) c.in-Some.is)).0 in
    rw (← c.self.view_is) (parted-line (queue_at s.endpoints s.notifications) (g.L.Lines.line s.lines) (g.L.Lines.line c.part.new.self) (g.L.Lines.place s.lines) (g.L.Lines.place c.part.new.self) c.in-Some.number.0 c.part.ensures.line c.part.ensures.place (number_of s.endpoints s.notifications) c.args.thread who)

pub returns-in_default-clause-line : goal.returns-in_default-clause-line
returns-in_default-clause-line g c =
    let s = c.self.inside in
    rw (← c.self.view_is) (without-none (queue_at s.endpoints s.notifications) (g.L.Lines.line s.lines) (g.L.Lines.place s.lines) c.self.invariant.lined_up c.args.thread (number_of s.endpoints s.notifications) (sym c.thread_no.ensures ∙ ap (λ o. thread_number o) c.in_default.is))
