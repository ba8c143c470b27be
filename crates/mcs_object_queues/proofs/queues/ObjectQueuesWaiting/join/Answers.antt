use Rattle.std.proofs.Common.{◌≡◌, true, refl, ap, sym, ◌∙◌, arith}
use Rattle.std.proofs.lemmas.Grind.{common_steps}
use Rattle.mcs_queues.specs.Numbers.{thread_number, line_number}
use Rattle.mcs_object_queues.specs.Places.{number_of, queue_at}
use Rattle.mcs_object_queues.proofs.Lists.{below}
use Rattle.mcs_object_queues.proofs.Numbering.{idle, joined, joined-line, joined-queue}
use Rattle.mcs_object_queues.proofs.PlaceLaws.{numbering}
use Rattle.mcs_object_queues.proofs.queues.ObjectQueuesWaiting.join.Goals as goal

pub invariant_of-self : goal.invariant_of-self
invariant_of-self g c =
    let s = c.self.inside in
    let kept = c.self.invariant in
    let iso = numbering s.endpoints s.notifications kept.endpoints kept.notifications c.are_apart.ensures c.are_apart-2.ensures in
    let who = below _ _ (sym c.thread_no.ensures ∙ ap (λ o. thread_number o) c.in-Some-Some.is-0) in
    let into = sym c.line_no-line.ensures.number ∙ ap (λ o. line_number o) c.in-Some-Some.is-1 in
    let free = idle (queue_at s.endpoints s.notifications) (g.L.Lines.line s.lines) (g.L.Lines.place s.lines) kept.lined_up c.args.thread c.in-Some-Some.number.0 who.0 (rw (← c.self.view_is) at c.requires.idle) in
    let low = who.1 in
    let few = c.in-Some-Some.ensures in
    let yes : c.join.result ≡ true = rw (kept.rooms_are, free) at c.join.ensures.answer ∙ grind (arith, common_steps, few, low) in
    record {
      endpoints = kept.endpoints;
      notifications = kept.notifications;
      lined_up = joined (number_of s.endpoints s.notifications) (queue_at s.endpoints s.notifications) iso (g.L.Lines.line s.lines) (g.L.Lines.line c.join.new.self) (g.L.Lines.place s.lines) (g.L.Lines.place c.join.new.self) c.args.thread c.in-Some-Some.number.0 c.args.priority.0 c.in-Some-Some.line.0 c.args.into who.0 into (rw yes at c.join.ensures.line) (rw yes at c.join.ensures.place) free who.1 kept.lined_up;
      rooms_are = c.join.ensures.rooms ∙ kept.rooms_are;
    }

pub returns : goal.returns
returns g c =
    let s = c.self.inside in
    let kept = c.self.invariant in
    let iso = numbering s.endpoints s.notifications kept.endpoints kept.notifications c.are_apart.ensures c.are_apart-2.ensures in
    let who = below _ _ (sym c.thread_no.ensures ∙ ap (λ o. thread_number o) c.in-Some-Some.is-0) in
    let into = sym c.line_no-line.ensures.number ∙ ap (λ o. line_number o) c.in-Some-Some.is-1 in
    let free = idle (queue_at s.endpoints s.notifications) (g.L.Lines.line s.lines) (g.L.Lines.place s.lines) kept.lined_up c.args.thread c.in-Some-Some.number.0 who.0 (rw (← c.self.view_is) at c.requires.idle) in
    let low = who.1 in
    let few = c.in-Some-Some.ensures in
    let yes : c.join.result ≡ true = rw (kept.rooms_are, free) at c.join.ensures.answer ∙ grind (arith, common_steps, few, low) in
    record {
      line = rw (← c.self.view_is) (joined-line (number_of s.endpoints s.notifications) (queue_at s.endpoints s.notifications) iso (g.L.Lines.line s.lines) (g.L.Lines.line c.join.new.self) (g.L.Lines.place s.lines) (g.L.Lines.place c.join.new.self) c.args.thread c.in-Some-Some.number.0 c.args.priority.0 c.in-Some-Some.line.0 c.args.into who.0 into (rw yes at c.join.ensures.line) (rw yes at c.join.ensures.place));
      queue = rw (← c.self.view_is) (joined-queue (number_of s.endpoints s.notifications) (queue_at s.endpoints s.notifications) iso (g.L.Lines.line s.lines) (g.L.Lines.line c.join.new.self) (g.L.Lines.place s.lines) (g.L.Lines.place c.join.new.self) c.args.thread c.in-Some-Some.number.0 c.args.priority.0 c.in-Some-Some.line.0 c.args.into who.0 into (rw yes at c.join.ensures.line) (rw yes at c.join.ensures.place));
      has = rw (← c.self.view_is) (λ q. refl);
      given = rw (← c.self.view_is) (λ k. refl);
      there = rw (← c.self.view_is) (λ k. refl);
    }
