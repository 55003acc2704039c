-- `insert_record` opens a gap from the top down and writes the record there.
use Rattle.std.specs.Prelude.{◌+◌, ◌-◌, ◌≡◌}
use Rattle.model.specs.Prelude.{arith}
use Rattle.range_isolate.proofs.insert_record.Invariants.{start_of, turn, finish}
use Rattle.range_isolate.proofs.insert_record.Goals as goal

pub loop-k-init : goal.loop-k-init
loop-k-init c = search start_of

pub loop-k-preserved : goal.loop-k-preserved
loop-k-preserved c =
    let e : c.loop-k.k - 1 + 1 ≡ c.loop-k.k = omega arith in
    turn c.requires.len_in_bounds c.loop-k.invariant c.loop-k-test.true c.get.ensures (rw e at c.put.ensures)

pub returns : goal.returns
returns c = search finish
