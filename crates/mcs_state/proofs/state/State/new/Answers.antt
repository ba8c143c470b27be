use Rattle.std.proofs.Common.{refl, length, ap, arith}
use Rattle.mcs_book.specs.Logs.{Log}
use Rattle.mcs_book.specs.History.{log_of}
use Rattle.mcs_state.proofs.Opening.{blank-kept, log-empty}
use Rattle.mcs_state.proofs.state.State.new.Goals as goal

pub invariant_of-result : goal.invariant_of-result
invariant_of-result g c = (
  omega (arith, c.new-8.ensures.room, ap (λ (h : Log). length h) c.new-8.ensures.hand),
  rw (c.new-8.ensures.hand, ap (λ ls. length ls) c.new-8.ensures.lines)
      (blank-kept _ (log_of c.new-8.result.book) (log-empty c.new-8.result.book c.new-8.ensures.boot c.new-8.ensures.lines) (record {
        threads = c.in_ok-new-2.ensures.made;
        rows = c.in_ok-new-2.ensures.rows;
        mails = c.in_ok-new-2.ensures.mails;
        letters = c.in_ok-new-7.ensures;
        contexts = c.in_ok-new-3.ensures.counts;
        cores = c.in_ok-new-3.ensures.cores;
        holders = c.in_ok-new-3.ensures.holders;
        homes = c.in_ok-new-3.ensures.homes;
        line = c.in_ok-new-6.ensures.line;
        queue = c.in_ok-new-6.ensures.queue;
        has = c.in_ok-new-6.ensures.has;
        made = c.in_ok-new-6.ensures.given;
        there = c.in_ok-new-6.ensures.there;
        replies = c.in_ok-new-4.ensures.counts;
        has_reply = c.in_ok-new-4.ensures.there;
        receivers = c.in_ok-new-4.ensures.receivers;
        owed = c.in_ok-new-4.ensures.owed;
        chains = c.in_ok-new-4.ensures.chains;
        notifications = c.in_ok-new-5.ensures.counts;
        has_notification = c.in_ok-new-5.ensures.there;
        words = c.in_ok-new-5.ensures.words;
        bound = c.in_ok-new-5.ensures.threads;
        homed = c.in_ok-new-5.ensures.homed;
        slots = c.in_ok-new.ensures;
        sent = refl;
      })),
)
