-- `log_mips` takes the mips one by one, each with the same step.
use Rattle.texture_barrier.specs.{Taking.Taking, Steps.step_entries}
use Rattle.set_storage.specs.Stored.{ranges_of}
use Rattle.texture_barrier.proofs.Remaining.{mips_left}
use Rattle.texture_barrier.proofs.many.log_mips.Given as goal

abbrev pub invariant-loop-m : goal.invariant-loop-m
invariant-loop-m g l =
    let left = mips_left l.t.index.0 (step_entries (g.S.Step.entries l.step l.t)) (ranges_of l.held) l.high in
    Taking g.K.Sink.takes l.initial.sink (left l.low) left l.high l.m l.sink
