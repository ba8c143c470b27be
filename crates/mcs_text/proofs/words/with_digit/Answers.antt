use Rattle.std.proofs.Common.{◌≡◌, ℕ, ◌+◌, ◌-◌, ◌*◌, ◌%◌, ◌<◌, ◌≤◌, ◌^◌, take, get_or, [], ◌∷◌, ◌++◌, arith}
use Rattle.std.proofs.lemmas.List.{take_more}
use Rattle.std.proofs.Math.Nat.{pow-le-pow_right}
use Rattle.mcs_text.specs.Reading.{value}
use Rattle.mcs_text.proofs.WordLaws.{all_digits-more, value-more, wrapped-low, wrapped-high, wrapped-is, digit-is}
use Rattle.mcs_text.proofs.words.with_digit.Goals as goal

pub overflow_mul-result : goal.overflow_mul-result
overflow_mul-result c =
    let few : c.args.count ≤ 17 = omega (arith, c.requires.sure) in
    let most : 10 ^ c.args.count ≤ 10 ^ 17 = pow-le-pow_right (omega arith) few in
    omega (arith, most, c.requires.below)

pub overflow_add-result : goal.overflow_add-result
overflow_add-result c =
    let few : c.args.count ≤ 17 = omega (arith, c.requires.sure) in
    let most : 10 ^ c.args.count ≤ 10 ^ 17 = pow-le-pow_right (omega arith) few in
    omega (arith, most, c.requires.below)

pub returns-clause-begins : goal.returns-clause-begins
returns-clause-begins c =
    let at = c.args.count in
    let s = c.args.text.now in
    let byte : ℕ = get_or s at 0 in
    let small : byte < 256 = omega (arith, c.type_inv.text at) in
    let digit : (byte + 18446744073709551568) % 18446744073709551616 ≤ 9 = omega arith in
    let low : 48 ≤ byte = wrapped-low byte small digit in
    let high : byte ≤ 57 = wrapped-high byte small digit in
    let read : (byte + 18446744073709551568) % 18446744073709551616 ≡ byte - 48 = wrapped-is byte small low in
    let more : take (at + 1) s ≡ take at s ++ byte ∷ [] = take_more s at 0 c.requires.within in
    let next : 10 * value (take at s) + (byte - 48) ≡ 10 * c.args.n + (byte + 18446744073709551568) % 18446744073709551616 = omega (arith, c.requires.begins.writes, read) in
    record {
      within = omega (arith, c.requires.within);
      digits = rw more (all_digits-more (take at s) byte c.requires.begins.digits (digit-is byte low high));
      writes = rw more (rw (value-more 0 (take at s) byte) next);
    }
