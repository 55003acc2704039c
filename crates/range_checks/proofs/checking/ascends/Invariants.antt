-- `ascends` is the definition's tests, range by range.
use Rattle.range_checks.proofs.{Ascending.{Testing}}
use Rattle.range_checks.proofs.checking.ascends.Given as goal

abbrev pub invariant-loop-k : goal.invariant-loop-k
invariant-loop-k l = Testing l.s l.len l.k l.from
