-- `fresh_mip`: the one range that `fresh` leaves in the part is the mip's.
use Rattle.set_storage.specs.Locate.{locates}
use Rattle.texture_merge.specs.Ready.{mip_left}
use Rattle.texture_merge.proofs.mip.fresh_mip.Goals as goal

pub locate-at-requires : goal.locate-at-requires
locate-at-requires c = locates c.requires

pub returns : goal.returns
returns c =
    let u = c.fresh.ensures in
    rw c.set_count.ensures (mip_left c.requires c.locate-at.ensures _ _ _ u.long u.fits u.seen)
