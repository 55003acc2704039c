-- `edit_mips`: each mip of the selector is edited.
use Rattle.texture_merge.proofs.Laps.{selector_start, selector_piece, edit_turn, edit_end}
use Rattle.texture_merge.proofs.every.edit_mips.Goals as goal

pub loop-m-init : goal.loop-m-init
loop-m-init g c = let p = c.requires in rw c.wide-m.ensures.0 (selector_start p.half_tiled p.selects _)

pub edit_mip-requires : goal.edit_mip-requires
edit_mip-requires g c = let p = c.requires in
    selector_piece p.half_tiled p.selects c.loop-m.invariant (rw c.wide-m-end.ensures.0 at c.loop-m-test.true)

pub loop-m-preserved : goal.loop-m-preserved
loop-m-preserved g c = let p = c.requires in
    edit_turn p.half_tiled p.selects c.loop-m.invariant (rw c.wide-m-end.ensures.0 at c.loop-m-test.true) c.edit_mip.ensures

pub returns : goal.returns
returns g c = let p = c.requires in
    edit_end p.half_tiled p.selects c.loop-m.invariant (rw c.wide-m-end.ensures.0 at c.loop-m-test.false)
