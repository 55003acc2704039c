-- `mip_fits` tests the ranges of a mip; a count past the room is no ranges.
use Rattle.model.specs.Prelude.{lt-leb}
use Rattle.set_storage.specs.Storage.{numbers_of}
use Rattle.set_wellformed.proofs.Mips.{mip_past}
use Rattle.set_wellformed.proofs.half.Half.mip_fits.Goals as goal

pub returns-else-self-i : goal.returns-else-self-i
returns-else-self-i c =
    let s = c.args.self.now in let t = s.table.now in
    rw (lt-leb _ _ c.if-self-i.false)
    (mip_past _ _ (numbers_of t) s.at t s.ranges.now c.args.i c.args.m c.requires.texture.some c.if-self-i.false)
