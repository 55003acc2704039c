-- `log_mips` takes the mips one by one, each with the same step.
use Rattle.texture_barrier.specs.Taking.{taking_room, taking_turn, taking_end}
use Rattle.texture_barrier.proofs.Remaining.{mips_left_lem, mips_done}
use Rattle.texture_barrier.proofs.many.log_mips.Goals as goal

pub log_each-requires-clause-room_for : goal.log_each-requires-clause-room_for
log_each-requires-clause-room_for g c =
    rw c.mip.ensures
    (taking_room g.met.K.Sink.laws c.loop-m.invariant c.requires.room_for (mips_left_lem _ _ _ _ c.loop-m-test.true))

pub loop-m-preserved : goal.loop-m-preserved
loop-m-preserved g c =
    taking_turn g.met.K.Sink.laws c.loop-m.invariant c.requires.room_for (mips_left_lem _ _ _ _ c.loop-m-test.true)
    c.loop-m-test.true (rw c.mip.ensures at c.log_each.ensures)

pub returns : goal.returns
returns g c = taking_end g.met.K.Sink.laws c.loop-m.invariant c.loop-m-test.false (mips_done _ _ _ _)
