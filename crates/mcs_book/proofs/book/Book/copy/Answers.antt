use Rattle.std.proofs.Common.{rules, ◌≡◌, ◌≤◌, vec_len, vec_capacity, length, ap, arith}
use Rattle.mcs_book.proofs.book.Book.copy.Goals as goal

pub invariant_of-result : goal.invariant_of-result
invariant_of-result c =
    let b = c.self.inside in
    let i = c.self.invariant in
    let heads : c.in_ok-copy_rows.field-0.items ≡ b.heads.items = search rules in
    let packed : c.in_ok-copy_rows-2.field-0.items ≡ b.packed.items = search rules in
    let words : c.in_ok-copy.field-0.words.items ≡ b.arena.words.items = search rules in
    let wide : c.in_ok-copy.field-0.wide.items ≡ b.arena.wide.items = search rules in
    let head_count : vec_len c.in_ok-copy_rows.field-0 ≡ vec_len b.heads = search rules in
    let packed_count : vec_len c.in_ok-copy_rows-2.field-0 ≡ vec_len b.packed = search rules in
    let head_room : vec_capacity b.heads ≤ vec_capacity c.in_ok-copy_rows.field-0 = search rules in
    let packed_room : vec_capacity b.packed ≤ vec_capacity c.in_ok-copy_rows-2.field-0 = search rules in
    let a = c.in_ok-copy.field-0 in
    let word_count : vec_len a.words ≡ vec_len b.arena.words = omega (arith, ap length words, a.words.ok.0, b.arena.words.ok.0) in
    let wide_count : vec_len a.wide ≡ vec_len b.arena.wide = omega (arith, ap length wide, a.wide.ok.0, b.arena.wide.ok.0) in
    let word_room : vec_capacity b.arena.words ≤ vec_capacity a.words = search rules in
    let wide_room : vec_capacity b.arena.wide ≤ vec_capacity a.wide = search rules in (
      rw (heads, words) i.0,
      rw (packed, words, wide) i.1,
      rw (heads, words) i.2,
      omega (arith, i.3, packed_count),
      λ z. c.in_ok-copy.ensures.room _ (i.4 z),
      λ z. omega (arith, i.5 z, packed_count, packed_room),
      λ z. omega (arith, i.6 z, head_count, head_room),
      λ z. omega (arith, i.7 z, packed_count),
      record {
        heads = omega (arith, i.8.heads, head_count, head_room);
        packed = omega (arith, i.8.packed, packed_count, packed_room);
        words = omega (arith, i.8.words, word_count, word_room);
        wide = omega (arith, i.8.wide, wide_count, wide_room);
        named = omega (arith, i.8.named, packed_count);
        named_words = omega (arith, i.8.named_words, word_count);
        named_wide = omega (arith, i.8.named_wide, wide_count);
      },
    )
