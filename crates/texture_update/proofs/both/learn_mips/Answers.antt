-- `learn_mips`: each lap lets the next mip of the start learn.
use Rattle.model.specs.Prelude.{arith}
use Rattle.texture_update.proofs.Lessons.{lesson_tiled, lesson_turn, lesson_end}
use Rattle.texture_update.proofs.both.learn_mips.Goals as goal

pub learn_mip-requires : goal.learn_mip-requires
learn_mip-requires c = let p = c.requires in
    lesson_tiled _ _ p.both_ready c.loop-m.invariant (omega (arith, c.loop-m-test.true, p.mips_value))

pub loop-m-preserved : goal.loop-m-preserved
loop-m-preserved c = let p = c.requires in
    lesson_turn _ _ p.both_ready c.loop-m.invariant (omega (arith, c.loop-m-test.true, p.mips_value)) c.learn_mip.ensures

pub returns : goal.returns
returns c = let p = c.requires in lesson_end _ _ p.both_ready c.loop-m.invariant (omega (arith, c.loop-m-test.false, p.mips_value))
