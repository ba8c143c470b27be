use Rattle.std.proofs.Common.{ℕ, ltb, refl}
use Rattle.std.proofs.lemmas.Simd.{zip2_splat_left}
use mathlib.Core.Bool.{cond}
use Rattle.mcs_text.proofs.Sixteen.{front-is}
use Rattle.mcs_text.proofs.words.digits_in_front.Goals as goal

pub returns : goal.returns
returns c =
    let above : ℕ → ℕ → ℕ = λ a b. cond (ltb a b) 255 0 in
    front-is c.args.less _ _ c.fits-less.0 c.fits-less.1 c.first_set.ensures (above 9) (zip2_splat_left above 9 16 c.args.less c.fits-less.0) refl
