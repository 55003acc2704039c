-- `coalesce` reads up to the first record that joins, and from there on is the pass of `Joining`.
use Rattle.range_states.proofs.Joining.{all_apart, turn_yes, turn_no, finish, empty_run}
use Rattle.range_states.proofs.coalescing.coalesce.Goals as goal
use Rattle.range_states.proofs.coalescing.coalesce.Goals.{then-joins, else-joins}

pub returns-then-len-eq0 : goal.returns-then-len-eq0
returns-then-len-eq0 c = search empty_run

pub returns-then-first-len : goal.returns-then-first-len
returns-then-first-len c = all_apart c.requires c.first_join-first.ensures c.if-first-len.true

pub loop-i-preserved : goal.loop-i-preserved
loop-i-preserved c =
    let j = c.loop-i.invariant in let t = c.loop-i-test.true in let g = c.get-next.ensures in let q = c.joins.ensures in
    elim c.if-joins.branch [
      | then-joins w ↦ rw (w.s-is, w.w-is, w.cur-is) (turn_yes c.requires j t g q w.if-joins.true)
      | else-joins w ↦ rw (w.s-is, w.w-is, w.cur-is) (turn_no c.requires j t g q w.if-joins.false w.put.ensures)
    ]

pub returns : goal.returns
returns c = search finish
