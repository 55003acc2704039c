-- `mip_known` tests the ranges of a mip that fits.
use Rattle.set_storage.specs.Storage.{flags_of}
use Rattle.set_wellformed.proofs.Mips.{mip_few}
use Rattle.set_wellformed.proofs.half.Half.mip_known.Goals as goal

pub mip-requires-clause-few : goal.mip-requires-clause-few
mip-requires-clause-few c =
    let s = c.args.self.now in let t = s.table.now in let q = c.requires in
    mip_few (flags_of t) s.at t s.ranges.now c.args.i c.args.m q.texture q.fit q.mip
