use Rattle.std.proofs.Common.{◌∙◌}
use Rattle.mcs_state.proofs.state.State.copy.Goals as goal

pub invariant_of-result : goal.invariant_of-result
invariant_of-result g c =
    let kept = c.self.invariant.1 in
    let queues = c.in_ok-copy-5.ensures in
    rw (c.in_ok-copy_all.ensures, c.in_ok-copy.ensures, c.in_ok-copy-2.ensures, c.in_ok-copy-3.ensures, c.in_ok-copy-4.ensures, c.in_ok-copy-6.ensures, c.in_ok-copy-7.ensures) (
      c.self.invariant.0,
      record {
        few = kept.few;
        sound = kept.sound;
        threads = kept.threads;
        letters = kept.letters;
        contexts = kept.contexts;
        queues = record {
          made = λ k h. queues.given k ∙ kept.queues.made k h;
          there = λ k h. queues.there k ∙ kept.queues.there k h;
          line = λ q. queues.line q ∙ kept.queues.line q;
          queue = λ t. queues.queue t ∙ kept.queues.queue t;
          has = λ q. queues.has q ∙ kept.queues.has q;
        };
        replies = kept.replies;
        notifications = kept.notifications;
        slots = kept.slots;
        sent = kept.sent;
      },
    )
