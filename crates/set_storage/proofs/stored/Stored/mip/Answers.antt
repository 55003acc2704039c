-- `mip` lends the part that was found, whose first records are the ranges of the mip.
use Rattle.model.specs.Prelude.{arith}
use Rattle.set_storage.specs.Locate.{locates}
use Rattle.set_storage.specs.Stored.{mip_ready, run_is}
use Rattle.set_storage.proofs.stored.Stored.mip.Goals as goal

pub locate-found-requires : goal.locate-found-requires
locate-found-requires c = rw c.wide.ensures.0 (locates (mip_ready c.requires (omega arith)))

pub returns : goal.returns
returns c = run_is c.requires (omega arith) (rw c.wide.ensures.0 at c.locate-found.ensures)
