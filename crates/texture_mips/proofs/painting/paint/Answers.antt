-- `paint` isolates, and the run takes the state.
use Rattle.texture_mips.proofs.{Painted.paint_is}
use Rattle.texture_mips.proofs.painting.paint.Goals as goal

pub returns : goal.returns
returns c = search paint_is
