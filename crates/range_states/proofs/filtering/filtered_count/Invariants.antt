-- `filtered_count` counts what is left to look at, record by record.
use Rattle.range_states.proofs.Overlaps.{Counting}
use Rattle.range_states.proofs.filtering.filtered_count.Given as goal

abbrev pub invariant-loop-k : goal.invariant-loop-k
invariant-loop-k l = Counting l.s l.len l.start l.end l.n l.k
