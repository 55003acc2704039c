-- `edit_mip`: the ranges that the edit leaves in the part are the mip's, and their count is written.
use Rattle.set_storage.specs.Locate.{locates}
use Rattle.texture_merge.specs.Ready.{count_fits, mip_left, lent_is, lent_room}
use Rattle.texture_merge.proofs.mip.edit_mip.Goals as goal

pub locate-at-requires : goal.locate-at-requires
locate-at-requires g c = locates c.requires.tiled.ready

pub edit-n-requires : goal.edit-n-requires
edit-n-requires g c = let p = c.requires in lent_room p.tiled c.locate-at.ensures _ _ _ p.order p.inside

pub set_count-requires : goal.set_count-requires
set_count-requires g c = count_fits c.requires.tiled.ready c.locate-at.ensures _ c.edit-n.ensures.fits

pub returns : goal.returns
returns g c =
    let q = c.requires in
    let l = c.locate-at.ensures in
    let u = c.edit-n.ensures in
    rw c.set_count.ensures (mip_left q.tiled.ready l _ _ _ u.long u.fits (rw (lent_is q.tiled l) at u.seen))
