use Rattle.std.proofs.Common.{◌%◌, ◌^◌, ap, ◌∙◌}
use Rattle.mcs_cspace.proofs.MaskLaws.{none-in_front}
use Rattle.mcs_cspace.proofs.levels.bits_at.Goals as goal
use Rattle.mcs_cspace.proofs.levels.bits_at.Goals.{then-below-lt64, else-below-lt64}

pub returns-clause-value : goal.returns-clause-value
returns-clause-value c =
    c.low_bits.ensures.value ∙ ap (λ x. x % 2 ^ c.args.count) (elim c.if-below-lt64.branch [
      | then-below-lt64 w ↦ w.front-is
      | else-below-lt64 w ↦ w.front-is ∙ none-in_front c.args.word c.args.below c.ranges.word.fits c.requires.within w.if-below-lt64.false
    ])
