-- `set_run` is a pass that nothing stops.
use Rattle.texture_mips.proofs.{Passing.{turn}, Painted.{set_all}}
use Rattle.texture_mips.proofs.painting.set_run.Goals as goal

pub loop-k-preserved : goal.loop-k-preserved
loop-k-preserved c = search turn

pub returns : goal.returns
returns c = search set_all
