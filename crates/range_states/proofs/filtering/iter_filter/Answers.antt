-- `iter_filter` writes each overlap at the next record of the second run.
use Rattle.model.specs.Prelude.{arith}
use Rattle.range_states.proofs.Overlaps.{write_fits, write_yes, write_no, write_end}
use Rattle.range_states.proofs.filtering.iter_filter.Goals as goal
use Rattle.range_states.proofs.filtering.iter_filter.Goals.{then-overlap, else-overlap}

pub put-requires : goal.put-requires
put-requires c =
    write_fits c.requires.len_in_bounds c.loop-k.invariant c.loop-k-test.true c.get-r.ensures
    c.overlap.ensures c.if-overlap.true

pub loop-k-preserved : goal.loop-k-preserved
loop-k-preserved c = elim c.if-overlap.branch [
  | then-overlap w ↦ rw (w.out-is, w.w-is) (write_yes c.requires.len_in_bounds c.loop-k.invariant c.loop-k-test.true c.get-r.ensures
      c.overlap.ensures w.if-overlap.true (rw w.clipped.ensures at w.put.ensures))
  | else-overlap w ↦ rw (w.out-is, w.w-is) (write_no c.requires.len_in_bounds c.loop-k.invariant c.loop-k-test.true c.get-r.ensures
      c.overlap.ensures w.if-overlap.false)
]

pub returns : goal.returns
returns c = write_end c.requires.len_in_bounds c.loop-k.invariant (omega arith)
