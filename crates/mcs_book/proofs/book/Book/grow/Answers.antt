use Rattle.std.proofs.Common.{rules, ◌≤◌, ◌+◌, ◌*◌, vec_len, vec_capacity, arith}
use Rattle.mcs_book.specs.declared.book.TheConstants.{HEAD_RECORDS, LINES_AHEAD, MOST_KEPT, MOST_RECORDS, MOST_WORDS}
use Rattle.mcs_book.proofs.book.Book.grow.Goals as goal

pub overflow_sub-self : goal.overflow_sub-self
overflow_sub-self c =
    let n = c.args.records + HEAD_RECORDS in
    let heads : vec_len c.reserve.new.self + LINES_AHEAD * n ≤ vec_capacity c.reserve.new.self = search rules in
    let packed : vec_len c.reserve-2.new.self + LINES_AHEAD * n ≤ vec_capacity c.reserve-2.new.self = search rules in
    let words : vec_len c.reserve-3.new.self + MOST_WORDS * (LINES_AHEAD * n) ≤ vec_capacity c.reserve-3.new.self = search rules in
    let wide : vec_len c.reserve-4.new.self + LINES_AHEAD * n ≤ vec_capacity c.reserve-4.new.self = search rules in
    let sent : vec_len c.reserve-5.new.self + LINES_AHEAD * n ≤ vec_capacity c.reserve-5.new.self = search rules in
    let few_packed : vec_len c.reserve-2.new.self ≤ MOST_KEPT = search rules in
    let few_words : vec_len c.reserve-3.new.self ≤ MOST_KEPT = search rules in
    let few_wide : vec_len c.reserve-4.new.self ≤ MOST_KEPT = search rules in
    let few : c.args.records ≤ MOST_RECORDS = search rules in
    c.space_of-space.ensures.most n (record {
      heads = omega (arith, heads);
      packed = omega (arith, packed);
      words = omega (arith, words);
      wide = omega (arith, wide);
      named = omega (arith, few_packed, few);
      named_words = omega (arith, few_words, few);
      named_wide = omega (arith, few_wide, few);
    }) (omega (arith, sent)) (omega (arith, few))
