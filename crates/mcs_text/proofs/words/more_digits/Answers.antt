use Rattle.std.proofs.Common.{◌≡◌, ◌+◌, true, take, get_or, [], ◌∷◌, ◌++◌, rules, refl}
use Rattle.std.proofs.lemmas.List.{take_more}
use Rattle.mcs_text.specs.Reading.{is_digit}
use Rattle.mcs_text.proofs.WordLaws.{all_digits-more, value-more, small-some}
use Rattle.mcs_text.proofs.words.more_digits.Goals as goal

pub loop-i-preserved : goal.loop-i-preserved
loop-i-preserved c =
    let at = c.loop-i.i in
    let s = c.args.text.now in
    let more : take (at + 1) s ≡ take at s ++ get_or s at 0 ∷ [] = take_more s at 0 c.loop-i-test.true in
    let digit : is_digit (get_or s at 0) ≡ true = search rules in
    let next = small-some _ _ c.in-Some.ensures in
    record {
      digits = rw more (all_digits-more (take at s) (get_or s at 0) c.loop-i.invariant.digits digit);
      so_far = rw more (rw (value-more 0 (take at s) (get_or s at 0), c.loop-i.invariant.so_far) (rw next.0 refl));
      fits = next.1;
    }
