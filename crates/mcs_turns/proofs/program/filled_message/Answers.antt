use Rattle.std.proofs.Common.{◌≡◌, ◌<◌, ◌≤◌, ◌^◌, ◌++◌, ap, sym, subst, ◌∙◌, length}
use Rattle.std.specs.Option.{IsSome}
use Rattle.mcs_types.specs.Limits.{label_bits, word_limit}
use Rattle.mcs_turns.proofs.Settling.{words-length}
use Rattle.mcs_turns.proofs.program.filled_message.Goals as goal

pub filled_label-label-requires : goal.filled_label-label-requires
filled_label-label-requires c = subst (λ n. n < 2 ^ label_bits) (sym c.label.ensures) c.is_in_range.ensures.label

pub unreachable-requires : goal.unreachable-requires
unreachable-requires c =
    let given = c.args.message.now.words in
    let before : c.extend_from_slice.new.self.items ≡ given = c.in_ok-extend_from_slice.ensures.items ∙ ap (λ xs. xs ++ c.words.result.now) c.new-words.ensures.items ∙ c.words.ensures in
    let many : length c.deref.result.now ≡ length given =
    ap (λ ws. length ws) (c.deref.ensures.value ∙ c.put_words.ensures) ∙ words-length c.args.fills.now c.args.number c.args.saved c.extend_from_slice.new.self.items ∙ ap (λ ws. length ws) before in
    let few : length c.deref.result.now ≤ word_limit = subst (λ n. n ≤ word_limit) (sym many) c.is_in_range.ensures.few in
    let wrong = subst (λ o. IsSome o) c.in-None.is (c.in_ok-message.ensures.limits.1 (c.filled_label-label.ensures.range, few)) in
    absurd cc
