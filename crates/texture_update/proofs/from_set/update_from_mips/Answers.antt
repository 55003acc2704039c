-- `update_from_mips`: each lap gives one mip, and what is left decides.
use Rattle.texture_update.proofs.Takes.{mip_given, mip_turn, mip_done}
use Rattle.texture_merge.proofs.Given.{mip_ready}
use Rattle.texture_update.proofs.from_set.update_from_mips.Goals as goal

pub mip-requires : goal.mip-requires
mip-requires c = mip_ready c.requires.given_texture _ c.loop-m-test.true

pub update_from_mip-requires-clause-given_mip : goal.update_from_mip-requires-clause-given_mip
update_from_mip-requires-clause-given_mip c = let p = c.requires in
    mip_given p.pair_ready p.given_texture c.loop-m.invariant c.loop-m-test.true c.mip.ensures

pub loop-m-preserved : goal.loop-m-preserved
loop-m-preserved c = let p = c.requires in
    mip_turn p.pair_ready p.given_texture c.loop-m.invariant c.loop-m-test.true c.mip.ensures c.update_from_mip.ensures

pub returns : goal.returns
returns c = let p = c.requires in mip_done p.pair_ready p.given_texture c.loop-m.invariant c.loop-m-test.false
