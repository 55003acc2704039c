-- `merge_mip`: what `merge_piece` leaves in the part is the mip's, and what it met is told.
use Rattle.texture_mips.specs.Merge.{merge_run}
use Rattle.set_storage.specs.Locate.{locates}
use Rattle.texture_merge.specs.Ready.{count_fits, lent_room}
use Rattle.texture_merge.proofs.Laps.{mip_merged}
use Rattle.texture_merge.proofs.mip.merge_mip.Goals as goal

pub locate-at-requires : goal.locate-at-requires
locate-at-requires c = locates c.requires.tiled.ready

pub merge_piece-r-requires : goal.merge_piece-r-requires
merge_piece-r-requires c = let p = c.requires in lent_room p.tiled c.locate-at.ensures _ _ _ p.order p.inside

pub set_count-requires : goal.set_count-requires
set_count-requires c = count_fits c.requires.tiled.ready c.locate-at.ensures _ c.merge_piece-r.ensures.fits

pub returns : goal.returns
returns c =
    let a = c.args in
    rw c.set_count.ensures (mip_merged c.requires.tiled c.locate-at.ensures (λ j. merge_run a.p j a.start a.end a.new)
    c.merge_piece-r.ensures)
