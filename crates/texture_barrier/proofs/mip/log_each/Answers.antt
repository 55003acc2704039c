-- `log_each` takes the run's ranges one by one.
use Rattle.texture_barrier.specs.Taking.{taking_room, taking_turn}
use Rattle.texture_barrier.proofs.Remaining.{run_next}
use Rattle.texture_barrier.proofs.mip.log_each.Goals as goal

pub log-requires-clause-room_for : goal.log-requires-clause-room_for
log-requires-clause-room_for g c =
    taking_room g.met.K.Sink.laws c.loop-k.invariant c.requires.room_for
    (run_next _ _ _ _ c.args.run.inside c.loop-k-test.true c.get.ensures)

pub loop-k-preserved : goal.loop-k-preserved
loop-k-preserved g c =
    taking_turn g.met.K.Sink.laws c.loop-k.invariant c.requires.room_for
    (run_next _ _ _ _ c.args.run.inside c.loop-k-test.true c.get.ensures) c.loop-k-test.true c.log.ensures
