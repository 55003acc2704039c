-- `added` counts what the loop of `cover` would add, record by record.
use Rattle.range_isolate.proofs.Counting.{Counting}
use Rattle.range_isolate.proofs.isolation.added.Given as goal

abbrev pub invariant-loop-k : goal.invariant-loop-k
invariant-loop-k l = Counting l.s l.len l.pos l.at l.end l.n l.k l.a
