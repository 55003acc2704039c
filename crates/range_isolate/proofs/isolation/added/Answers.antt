-- `added` counts what the loop of `cover` would add, record by record.
use Rattle.model.specs.Prelude.{arith}
use Rattle.range_isolate.proofs.Counting.{stop, last, turn, finish, gap_is}
use Rattle.range_isolate.proofs.isolation.added.Goals as goal

pub returns-then-end-max : goal.returns-then-end-max
returns-then-end-max c =
    stop c.requires.len_in_bounds c.loop-k.invariant c.loop-k-test.true c.get-r.ensures (omega arith)

pub returns-then-end-r : goal.returns-then-end-r
returns-then-end-r c =
    last c.requires.len_in_bounds c.loop-k.invariant c.loop-k-test.true c.get-r.ensures (omega arith)
    c.if-end-r.true (gap_is _ _ c.from-n.ensures) (gap_is _ _ c.from.ensures)

pub loop-k-preserved : goal.loop-k-preserved
loop-k-preserved c =
    turn c.requires.len_in_bounds c.loop-k.invariant c.loop-k-test.true c.get-r.ensures (omega arith) c.if-end-r.false
    (gap_is _ _ c.from-n.ensures)

pub returns : goal.returns
returns c = search finish
