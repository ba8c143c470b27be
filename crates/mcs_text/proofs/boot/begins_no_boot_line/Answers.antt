use Rattle.mcs_text.proofs.KeyLaws.{line-no-boot}
use Rattle.mcs_text.proofs.boot.begins_no_boot_line.Goals as goal

pub returns-in-len1-up : goal.returns-in-len1-up
returns-in-len1-up c = line-no-boot c.args.line.now c.in-len1-up.len_at_least
