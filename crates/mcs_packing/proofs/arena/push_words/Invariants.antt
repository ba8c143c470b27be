use Rattle.std.proofs.Common.{◌≡◌, ◌+◌, ◌++◌, take, vec_len, vec_capacity}
use Rattle.mcs_packing.proofs.arena.push_words.Given as goal

abbrev pub invariant-loop-word : goal.invariant-loop-word
invariant-loop-word l = record {
  items : l.words.items ≡ l.initial.words.items ++ take l.word-index l.more;
  len : vec_len l.words ≡ vec_len l.initial.words + l.word-index;
  capacity : vec_capacity l.words ≡ vec_capacity l.initial.words;
}
