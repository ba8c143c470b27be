use Rattle.mcs_text.proofs.KeyLaws.{first-digit-no-boot}
use Rattle.mcs_text.proofs.key.begins_no_boot_key.Goals as goal

pub returns-in-len1-up : goal.returns-in-len1-up
returns-in-len1-up c = first-digit-no-boot c.args.word.now c.in-len1-up.len_at_least
