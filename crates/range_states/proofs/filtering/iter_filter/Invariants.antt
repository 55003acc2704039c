-- `iter_filter` writes each overlap at the next record of the second run.
use Rattle.range_states.proofs.Overlaps.{Writing}
use Rattle.range_states.proofs.filtering.iter_filter.Given as goal

abbrev pub invariant-loop-k : goal.invariant-loop-k
invariant-loop-k l = Writing l.s l.len l.start l.end l.initial.out l.out l.w l.k
