-- `update_both_mip`: what `learn_update` leaves in the two parts are the mips, and their counts are written.
use Rattle.texture_update.proofs.Turns.{pair_room, pair_put}
use Rattle.texture_update.proofs.both.update_both_mip.Goals as goal

pub learn_update-n-requires : goal.learn_update-n-requires
learn_update-n-requires c =
    let p = c.requires in let w = pair_room p.pair_tiled c.locate-at.ensures c.locate-by.ensures _ _ _ _ p.start_lt_end.0
    p.start_lt_end.1 in record { isolate_room = w.0; learn_room = w.1 }

pub returns : goal.returns
returns c = let p = c.requires in
    rw (c.set_count-2.ensures, c.set_count.ensures)
    (pair_put p.pair_tiled c.locate-at.ensures c.locate-by.ensures _ _ _ _ p.start_lt_end.0 p.start_lt_end.1 c.learn_update-n.ensures)
