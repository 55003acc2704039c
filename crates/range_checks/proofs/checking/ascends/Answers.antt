-- `ascends` stops at the first range that starts too early or is empty.
use Rattle.range_checks.proofs.Ascending.{early, empty}
use Rattle.range_checks.proofs.checking.ascends.Goals as goal
use Rattle.range_checks.proofs.checking.ascends.Goals.{then-r-from-via-then-r-from, then-r-from-via-else-r-from+then-r}

pub returns-then-r-from : goal.returns-then-r-from
returns-then-r-from c =
    let j = c.loop-k.invariant in let t = c.loop-k-test.true in let g = c.get-r.ensures in
    elim c.then-r-from.branch [
      | then-r-from-via-then-r-from w ↦ early c.requires j t g w.if-r-from.true
      | then-r-from-via-else-r-from+then-r w ↦ empty c.requires j t g w.if-r-from.false w.if-r.true
    ]
