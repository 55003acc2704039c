-- `first_past` looks at one record after another.
use Rattle.range_isolate.proofs.Isolating.{Looking}
use Rattle.range_isolate.proofs.isolation.first_past.Given as goal

abbrev pub invariant-loop-k : goal.invariant-loop-k
invariant-loop-k l = Looking l.s l.len l.x l.k
