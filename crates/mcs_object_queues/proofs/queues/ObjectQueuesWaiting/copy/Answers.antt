use Rattle.std.proofs.Common.{rules, sym, ◌∙◌}
use Rattle.mcs_object_queues.specs.Places.{queue_at}
use Rattle.mcs_object_queues.proofs.Numbering.{lined-alike}
use Rattle.mcs_object_queues.proofs.queues.ObjectQueuesWaiting.copy.Goals as goal

pub invariant_of-result : goal.invariant_of-result
invariant_of-result g c =
    let s = c.self.inside in
    let kept = c.self.invariant in
    let endpoints = c.in_ok-copy.ensures in
    let notifications = c.in_ok-copy-2.ensures in
    let lines = c.in_ok-copy-3.ensures in
    rw (endpoints, notifications) (record {
      endpoints = kept.endpoints;
      notifications = kept.notifications;
      lined_up = lined-alike (queue_at s.endpoints s.notifications) (g.L.Lines.line s.lines) (g.L.Lines.line c.in_ok-copy-3.field-0) (g.L.Lines.place s.lines) (g.L.Lines.place c.in_ok-copy-3.field-0) kept.lined_up lines.line lines.place;
      rooms_are = lines.rooms ∙ kept.rooms_are;
    })
