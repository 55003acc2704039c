-- `filtered_count` counts what is left to look at, record by record.
use Rattle.model.specs.Prelude.{arith}
use Rattle.range_states.proofs.Overlaps.{count_step, count_end}
use Rattle.range_states.proofs.filtering.filtered_count.Goals as goal

pub loop-k-preserved : goal.loop-k-preserved
loop-k-preserved c = count_step c.requires c.loop-k.invariant c.loop-k-test.true c.get.ensures c.overlap.ensures c.from-n.ensures

pub returns : goal.returns
returns c = count_end c.loop-k.invariant (omega arith)
