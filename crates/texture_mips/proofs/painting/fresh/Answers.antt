-- `fresh` writes the first record.
use Rattle.texture_mips.proofs.{Painted.fresh_is}
use Rattle.texture_mips.proofs.painting.fresh.Goals as goal

pub returns : goal.returns
returns c = search fresh_is
