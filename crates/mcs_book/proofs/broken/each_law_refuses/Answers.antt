use Rattle.mcs_book.proofs.Small.BrokenBooks.{breaks-taken_once, breaks-whole, breaks-by_priority, breaks-in_order, breaks-not_deleted, breaks-not_cancelled, breaks-answered_once, breaks-answered_whole, breaks-none_beside}
use Rattle.mcs_book.proofs.broken.each_law_refuses.Goals as goal

pub returns : goal.returns
returns c = record {
  second_take = breaks-taken_once;
  wrong_badge = breaks-whole;
  not_the_first = breaks-by_priority;
  out_of_order = breaks-in_order;
  after_the_end = breaks-not_deleted;
  nothing_sent = breaks-not_cancelled;
  paid_twice = breaks-answered_once;
  kept_context = breaks-answered_whole;
  both_wait = breaks-none_beside;
}
