-- `learn_mip`: the ranges that `learn` leaves in the start's part are its mip, and their count is written.
use Rattle.texture_merge.specs.Ready.{lent_is, lent_fits, mip_left}
use Rattle.texture_update.proofs.Lessons.{lesson_room}
use Rattle.texture_update.proofs.both.learn_mip.Goals as goal

pub learn-n-requires-clause-to_in_bounds : goal.learn-n-requires-clause-to_in_bounds
learn-n-requires-clause-to_in_bounds c = lent_fits c.requires.end c.locate-by.ensures

pub learn-n-requires-clause-learn_room : goal.learn-n-requires-clause-learn_room
learn-n-requires-clause-learn_room c = lesson_room c.requires c.locate-at.ensures c.locate-by.ensures _ _

pub returns : goal.returns
returns c = let p = c.requires in let l = c.locate-at.ensures in let k = c.locate-by.ensures in let u = c.learn-n.ensures in
    rw c.set_count.ensures (mip_left p.start.ready l _ _ _ u.long u.fits (rw (lent_is p.start l, lent_is p.end k) at u.seen))
