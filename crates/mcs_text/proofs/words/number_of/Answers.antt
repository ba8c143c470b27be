use Rattle.mcs_text.proofs.Sixteen.{number-is}
use Rattle.mcs_text.proofs.words.number_of.Goals as goal

pub returns : goal.returns
returns c = number-is c.args.digits c.fits-digits.0 c.requires
