use Rattle.std.proofs.Common.{◌++◌, ◌-◌, take, drop, replicate, append-nil, ap, sym, ◌∙◌}
use Rattle.std.proofs.lemmas.Simd.{put_chunk_whole}
use lib.Lanes.{chunk}
use Rattle.mcs_text.proofs.Sixteen.{moved}
use Rattle.mcs_text.proofs.words.moved_to_end.Goals as goal

pub returns : goal.returns
returns c =
    let from = c.args.count in
    ap (λ l. chunk 0 16 (take (32 - from) (drop from (replicate 16 0 ++ l)))) (append-nil _ ∙ put_chunk_whole (replicate 16 0) c.args.bytes (sym c.fits-bytes.0))
    ∙ moved c.args.bytes from c.fits-bytes.0 c.requires
