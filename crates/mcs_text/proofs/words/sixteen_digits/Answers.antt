use Rattle.std.proofs.Common.{ℕ, refl}
use Rattle.std.proofs.lemmas.Simd.{zip2_splat, length-chunk}
use lib.Lanes.{chunk}
use Rattle.mcs_text.proofs.Sixteen.{put-low, all-counted, begins}
use Rattle.mcs_text.proofs.words.sixteen_digits.Goals as goal

pub number_of-requires : goal.number_of-requires
number_of-requires c =
    let text = c.args.text.now in
    put-low _ refl refl text _ c.moved_to_end.result c.digits_in_front-count.result 0 c.requires c.type_inv.text
    (zip2_splat {Y = ℕ} _ (chunk 0 16 text) 16 48 (length-chunk 0 16 text c.requires)) c.digits_in_front-count.ensures c.moved_to_end.ensures

pub returns-clause-begins : goal.returns-clause-begins
returns-clause-begins c =
    let text = c.args.text.now in
    begins _ refl refl text _ c.moved_to_end.result c.digits_in_front-count.result c.number_of.result c.requires c.type_inv.text
    (zip2_splat {Y = ℕ} _ (chunk 0 16 text) 16 48 (length-chunk 0 16 text c.requires)) c.digits_in_front-count.ensures c.moved_to_end.ensures c.number_of.ensures

pub returns-clause-all : goal.returns-clause-all
returns-clause-all c =
    let text = c.args.text.now in
    all-counted _ refl refl text _ c.moved_to_end.result c.digits_in_front-count.result 0 c.requires c.type_inv.text
    (zip2_splat {Y = ℕ} _ (chunk 0 16 text) 16 48 (length-chunk 0 16 text c.requires)) c.digits_in_front-count.ensures c.moved_to_end.ensures
