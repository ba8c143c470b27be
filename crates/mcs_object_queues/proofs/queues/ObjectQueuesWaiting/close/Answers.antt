use Rattle.std.proofs.Common.{rules, ◌≡◌, refl}
use Rattle.mcs_types.specs.declared.id.Kind.TheVariants.{Endpoint, Notification}
use Rattle.mcs_types.specs.declared.record.Queue.TheVariants.{Senders, Waiters}
use Rattle.mcs_object_queues.specs.Places.{number_of, queue_at}
use Rattle.mcs_object_queues.proofs.Numbering.{shrunk, shrunk-line, shrunk-queue}
use Rattle.mcs_object_queues.proofs.PlaceLaws.{numbering, is-queue, was-there, lost-empty, Closes, endpoint-closes, notification-closes}
use Rattle.mcs_object_queues.proofs.queues.ObjectQueuesWaiting.close.Goals as goal
use Rattle.mcs_object_queues.proofs.queues.ObjectQueuesWaiting.close.Goals.{in-Endpoint, in-Notification}

pub invariant_of-self : goal.invariant_of-self
invariant_of-self g c =
    let s = c.self.inside in
    let kept = c.self.invariant in
    let later = c.match-object.self-inside in
    let old_e = c.are_apart.ensures in
    let old_n = c.are_apart-2.ensures in
    let change : Closes s.endpoints s.notifications later.endpoints later.notifications c.args.object × (later.lines ≡ s.lines) = elim c.match-object.branch [
      | in-Endpoint w ↦ rw w.self-inside-is (endpoint-closes s.endpoints s.notifications w.remove.new.self c.args.object kept.endpoints kept.notifications old_e.both old_e.given w.in-Endpoint.is (was-there s.endpoints w.remove.new.self c.args.object w.remove.result old_e.both w.remove.ensures.value (rw (← c.self.view_is) at (c.requires.there (Senders c.args.object) (is-queue c.args.object c.args.object Endpoint refl w.in-Endpoint.is))) w.remove.ensures.shape) w.remove.ensures.places, refl)
      | in-Notification w ↦ rw w.self-inside-is (notification-closes s.endpoints s.notifications w.remove-in-Notification.new.self c.args.object kept.endpoints kept.notifications old_n.both old_n.given w.in-Notification.is (was-there s.notifications w.remove-in-Notification.new.self c.args.object w.remove-in-Notification.result old_n.both w.remove-in-Notification.ensures.value (rw (← c.self.view_is) at (c.requires.there (Waiters c.args.object) (is-queue c.args.object c.args.object Notification refl w.in-Notification.is))) w.remove-in-Notification.ensures.shape) w.remove-in-Notification.ensures.places, refl)
    ] in
    let old = numbering s.endpoints s.notifications kept.endpoints kept.notifications old_e old_n in
    let new = numbering later.endpoints later.notifications change.0.endpoints change.0.notifications c.are_apart-3.ensures c.are_apart-4.ensures in
    let empty = lost-empty s.endpoints s.notifications later.endpoints later.notifications c.args.object (g.L.Lines.line s.lines) change.0 (rw (← c.self.view_is) at c.requires.empty) in
    rw change.1 (record {
      endpoints = change.0.endpoints;
      notifications = change.0.notifications;
      lined_up = shrunk (number_of s.endpoints s.notifications) (number_of later.endpoints later.notifications) (queue_at s.endpoints s.notifications) (queue_at later.endpoints later.notifications) old new (g.L.Lines.line s.lines) (g.L.Lines.place s.lines) kept.lined_up change.0.shrinks empty;
      rooms_are = kept.rooms_are;
    })

pub returns : goal.returns
returns g c =
    let s = c.self.inside in
    let kept = c.self.invariant in
    let later = c.match-object.self-inside in
    let old_e = c.are_apart.ensures in
    let old_n = c.are_apart-2.ensures in
    let change : Closes s.endpoints s.notifications later.endpoints later.notifications c.args.object × (later.lines ≡ s.lines) = elim c.match-object.branch [
      | in-Endpoint w ↦ rw w.self-inside-is (endpoint-closes s.endpoints s.notifications w.remove.new.self c.args.object kept.endpoints kept.notifications old_e.both old_e.given w.in-Endpoint.is (was-there s.endpoints w.remove.new.self c.args.object w.remove.result old_e.both w.remove.ensures.value (rw (← c.self.view_is) at (c.requires.there (Senders c.args.object) (is-queue c.args.object c.args.object Endpoint refl w.in-Endpoint.is))) w.remove.ensures.shape) w.remove.ensures.places, refl)
      | in-Notification w ↦ rw w.self-inside-is (notification-closes s.endpoints s.notifications w.remove-in-Notification.new.self c.args.object kept.endpoints kept.notifications old_n.both old_n.given w.in-Notification.is (was-there s.notifications w.remove-in-Notification.new.self c.args.object w.remove-in-Notification.result old_n.both w.remove-in-Notification.ensures.value (rw (← c.self.view_is) at (c.requires.there (Waiters c.args.object) (is-queue c.args.object c.args.object Notification refl w.in-Notification.is))) w.remove-in-Notification.ensures.shape) w.remove-in-Notification.ensures.places, refl)
    ] in
    let old = numbering s.endpoints s.notifications kept.endpoints kept.notifications old_e old_n in
    let new = numbering later.endpoints later.notifications change.0.endpoints change.0.notifications c.are_apart-3.ensures c.are_apart-4.ensures in
    let empty = lost-empty s.endpoints s.notifications later.endpoints later.notifications c.args.object (g.L.Lines.line s.lines) change.0 (rw (← c.self.view_is) at c.requires.empty) in
    record {
      line = rw (← c.self.view_is, change.1) (shrunk-line (number_of s.endpoints s.notifications) (number_of later.endpoints later.notifications) (queue_at s.endpoints s.notifications) (queue_at later.endpoints later.notifications) old new (g.L.Lines.line s.lines) (g.L.Lines.place s.lines) kept.lined_up change.0.shrinks empty);
      queue = rw (← c.self.view_is, change.1) (shrunk-queue (number_of s.endpoints s.notifications) (number_of later.endpoints later.notifications) (queue_at s.endpoints s.notifications) (queue_at later.endpoints later.notifications) old new (g.L.Lines.line s.lines) (g.L.Lines.place s.lines) kept.lined_up change.0.shrinks empty);
      has = rw (← c.self.view_is) change.0.has;
      given = search rules;
      there = rw (← c.self.view_is) change.0.there;
    }
