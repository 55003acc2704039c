-- `log_each` takes the run's ranges one by one.
use Rattle.texture_barrier.specs.{Taking.Taking}
use Rattle.texture_barrier.proofs.Remaining.{run_left}
use Rattle.texture_barrier.proofs.mip.log_each.Given as goal

abbrev pub invariant-loop-k : goal.invariant-loop-k
invariant-loop-k g l =
    let left = run_left l.t.index.0 (g.S.Step.entries l.step l.t l.mip) l.run.records.now l.run.len in
    Taking g.K.Sink.takes l.initial.sink (left 0) left l.run.len l.k l.sink
