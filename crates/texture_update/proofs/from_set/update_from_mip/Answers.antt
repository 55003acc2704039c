-- `update_from_mip`: each lap gives one range, and what is left decides.
use Rattle.model.specs.Prelude.{arith}
use Rattle.texture_update.proofs.Takes.{range_small, range_selects, range_turn, range_done}
use Rattle.texture_update.proofs.from_set.update_from_mip.Goals as goal

pub on_mip-q-requires : goal.on_mip-q-requires
on_mip-q-requires c = let p = c.requires in omega (arith, range_small p.pair_ready p.given_mip)

pub update_piece-requires-clause-selects : goal.update_piece-requires-clause-selects
update_piece-requires-clause-selects c = let p = c.requires in
    rw c.on_mip-q.ensures (range_selects p.pair_ready p.given_mip c.loop-k.invariant c.loop-k-test.true c.get-r.ensures)

pub loop-k-preserved : goal.loop-k-preserved
loop-k-preserved c = let p = c.requires in
    range_turn p.pair_ready p.given_mip c.loop-k.invariant c.loop-k-test.true c.get-r.ensures
    (rw c.on_mip-q.ensures at c.update_piece.ensures)

pub returns : goal.returns
returns c = let p = c.requires in range_done p.pair_ready p.given_mip c.loop-k.invariant c.loop-k-test.false
