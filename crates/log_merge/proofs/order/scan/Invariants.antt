-- `scan` looks at every entry in turn, and ends at the first descent.
use Rattle.log_merge.proofs.Scanning.{Scanning}
use Rattle.log_merge.proofs.order.scan.Given as goal

abbrev pub invariant-loop-i : goal.invariant-loop-i
invariant-loop-i l = Scanning l.log l.limit l.i l.last l.below
