-- `mip` cuts out the part of a mip.
use Rattle.set_storage.specs.{Storage.numbers_of}
use Rattle.set_wellformed.proofs.Mips.{mip_read}
use Rattle.set_wellformed.proofs.half.Half.mip.Goals as goal

pub returns : goal.returns
returns c =
    let x = c.locate-found.ensures in let s = c.args.self.now in let t = s.table.now in let found = c.locate-found.result in
    mip_read (numbers_of t) s.at t s.ranges.now _ _ found.base found.end _ x.len x.base x.size (rw x.len c.requires.few)
