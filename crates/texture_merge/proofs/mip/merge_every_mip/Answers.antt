-- `merge_every_mip`: what `merge_every` leaves in the part is the mip's, and what it met is told.
use Rattle.model.specs.Texture.{merge_every}
use Rattle.set_storage.specs.Locate.{locates}
use Rattle.texture_merge.specs.Ready.{count_fits, lent_fits}
use Rattle.texture_merge.proofs.Laps.{mip_merged}
use Rattle.texture_merge.proofs.mip.merge_every_mip.Goals as goal

pub locate-at-requires : goal.locate-at-requires
locate-at-requires c = locates c.requires.ready

pub merge_every-r-requires : goal.merge_every-r-requires
merge_every-r-requires c = lent_fits c.requires c.locate-at.ensures

pub set_count-requires : goal.set_count-requires
set_count-requires c = count_fits c.requires.ready c.locate-at.ensures _ c.merge_every-r.ensures.fits

pub returns : goal.returns
returns c =
    rw c.set_count.ensures (mip_merged c.requires c.locate-at.ensures (merge_every c.args.p c.args.new) c.merge_every-r.ensures)
