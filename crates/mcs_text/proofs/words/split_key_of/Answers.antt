use Rattle.std.proofs.Common.{◌<◌, length, refl, arith}
use Rattle.std.proofs.lemmas.List.{take_rest}
use Rattle.mcs_text.specs.Reading.{entry_at}
use Rattle.mcs_text.proofs.WordLaws.{words_of-word}
use Rattle.mcs_text.proofs.words.split_key_of.Goals as goal

pub returns : goal.returns
unfolding entry_at
returns c =
    let text = c.args.text.now in
    let lt : c.args.count < length text = omega arith in
    let split = words_of-word text c.args.count lt c.if-text-count-ne32.false c.in_ok-key.ensures.word in
    rw (take_rest, split, c.in_ok-key.ensures.key) refl
