-- `update_both_mips`: each lap changes the next mip of the selector in both halves.
use Rattle.model.specs.Prelude.{arith}
use Rattle.texture_update.proofs.Turns.{turn_start, turn_tiled, turn_on, turn_end}
use Rattle.texture_update.proofs.both.update_both_mips.Goals as goal

pub loop-m-init : goal.loop-m-init
loop-m-init c = let p = c.requires in rw c.wide-m.ensures.0 (turn_start _ _ p.both_ready p.selects)

pub update_both_mip-requires-clause-pair_tiled : goal.update_both_mip-requires-clause-pair_tiled
update_both_mip-requires-clause-pair_tiled c = let p = c.requires in
    turn_tiled _ _ p.both_ready p.selects c.loop-m.invariant (omega (arith, c.loop-m-test.true, c.wide-m-end.ensures.0))

pub loop-m-preserved : goal.loop-m-preserved
loop-m-preserved c = let p = c.requires in turn_on _ _ p.both_ready p.selects c.loop-m.invariant
    (omega (arith, c.loop-m-test.true, c.wide-m-end.ensures.0)) c.update_both_mip.ensures

pub returns : goal.returns
returns c = let p = c.requires in
    turn_end _ _ p.both_ready p.selects c.loop-m.invariant (omega (arith, c.loop-m-test.false, c.wide-m-end.ensures.0))
