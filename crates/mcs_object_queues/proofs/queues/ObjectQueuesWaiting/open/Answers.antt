use Rattle.std.proofs.Common.{rules, ◌≡◌, refl, ap, ◌∙◌}
use Rattle.mcs_object_queues.specs.Places.{lined, number_of, queue_at}
use Rattle.mcs_object_queues.proofs.Numbering.{grown, grown-line, grown-queue}
use Rattle.mcs_object_queues.proofs.PlaceLaws.{numbering, Opens, endpoint-opens, notification-opens}
use Rattle.mcs_object_queues.proofs.queues.ObjectQueuesWaiting.open.Goals as goal
use Rattle.mcs_object_queues.proofs.queues.ObjectQueuesWaiting.open.Goals.{in-Endpoint, in-Notification}

pub invariant_of-self : goal.invariant_of-self
invariant_of-self g c =
    let s = c.self.inside in
    let kept = c.self.invariant in
    let later = c.match-kind.self-inside in
    let old_e = c.are_apart.ensures in
    let old_n = c.are_apart-2.ensures in
    let change : Opens s.endpoints s.notifications later.endpoints later.notifications c.match-kind.object × (later.lines ≡ s.lines) = elim c.match-kind.branch [
      | in-Endpoint w ↦ let made = w.add-object.ensures in rw (w.self-inside-is, w.object-is) (endpoint-opens s.endpoints s.notifications w.add-object.new.self w.add-object.result kept.endpoints kept.notifications old_e.both old_e.given made.id made.shape made.places, refl)
      | in-Notification w ↦ let made = w.add-object-in-Notification.ensures in rw (w.self-inside-is, w.object-is) (notification-opens s.endpoints s.notifications w.add-object-in-Notification.new.self w.add-object-in-Notification.result kept.endpoints kept.notifications old_n.both old_n.given made.id made.shape made.places, refl)
    ] in
    let old = numbering s.endpoints s.notifications kept.endpoints kept.notifications old_e old_n in
    let new = numbering later.endpoints later.notifications change.0.endpoints change.0.notifications c.are_apart-3.ensures c.are_apart-4.ensures in
    rw change.1 (record {
      endpoints = change.0.endpoints;
      notifications = change.0.notifications;
      lined_up = grown (number_of s.endpoints s.notifications) (number_of later.endpoints later.notifications) (queue_at s.endpoints s.notifications) (queue_at later.endpoints later.notifications) old new (g.L.Lines.line s.lines) (g.L.Lines.place s.lines) kept.lined_up change.0.grows;
      rooms_are = kept.rooms_are;
    })

pub returns : goal.returns
returns g c =
    let s = c.self.inside in
    let kept = c.self.invariant in
    let later = c.match-kind.self-inside in
    let old_e = c.are_apart.ensures in
    let old_n = c.are_apart-2.ensures in
    let change : Opens s.endpoints s.notifications later.endpoints later.notifications c.match-kind.object × (later.lines ≡ s.lines) = elim c.match-kind.branch [
      | in-Endpoint w ↦ let made = w.add-object.ensures in rw (w.self-inside-is, w.object-is) (endpoint-opens s.endpoints s.notifications w.add-object.new.self w.add-object.result kept.endpoints kept.notifications old_e.both old_e.given made.id made.shape made.places, refl)
      | in-Notification w ↦ let made = w.add-object-in-Notification.ensures in rw (w.self-inside-is, w.object-is) (notification-opens s.endpoints s.notifications w.add-object-in-Notification.new.self w.add-object-in-Notification.result kept.endpoints kept.notifications old_n.both old_n.given made.id made.shape made.places, refl)
    ] in
    let old = numbering s.endpoints s.notifications kept.endpoints kept.notifications old_e old_n in
    let new = numbering later.endpoints later.notifications change.0.endpoints change.0.notifications c.are_apart-3.ensures c.are_apart-4.ensures in
    record {
      id = search rules;
      empty = rw change.1 (λ q of. grown-line (number_of s.endpoints s.notifications) (number_of later.endpoints later.notifications) (queue_at s.endpoints s.notifications) (queue_at later.endpoints later.notifications) old new (g.L.Lines.line s.lines) (g.L.Lines.place s.lines) kept.lined_up change.0.grows q ∙ ap (λ o. lined (g.L.Lines.line s.lines) o) (change.0.fresh q of));
      line = rw (← c.self.view_is, change.1) (grown-line (number_of s.endpoints s.notifications) (number_of later.endpoints later.notifications) (queue_at s.endpoints s.notifications) (queue_at later.endpoints later.notifications) old new (g.L.Lines.line s.lines) (g.L.Lines.place s.lines) kept.lined_up change.0.grows);
      queue = rw (← c.self.view_is, change.1) (grown-queue (number_of s.endpoints s.notifications) (number_of later.endpoints later.notifications) (queue_at s.endpoints s.notifications) (queue_at later.endpoints later.notifications) old new (g.L.Lines.line s.lines) (g.L.Lines.place s.lines) kept.lined_up change.0.grows);
      has = search rules;
      given = search rules;
      there = search rules;
    }
