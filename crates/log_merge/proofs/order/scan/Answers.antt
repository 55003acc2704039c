-- `scan` looks at every entry in turn, and ends at the first descent.
use Rattle.model.specs.Prelude.{arith, ◌∙◌}
use Rattle.log_merge.proofs.Scanning.{scan_turn, scan_away, scan_end, one_is}
use Rattle.log_merge.proofs.order.scan.Goals as goal

pub returns-then-x-last : goal.returns-then-x-last
returns-then-x-last c = scan_away c.loop-i.invariant c.loop-i-test.true c.index_at-x.ensures c.if-x-last.true

pub loop-i-preserved : goal.loop-i-preserved
loop-i-preserved c =
    scan_turn c.loop-i.invariant c.loop-i-test.true c.index_at-x.ensures c.if-x-last.false
    (rw c.from.ensures at (c.from-below.ensures ∙ one_is _))

pub returns : goal.returns
returns c = scan_end c.loop-i.invariant (omega arith)
