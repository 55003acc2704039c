-- `join` takes one record in each turn; what is written stays behind what is read.
use Rattle.model.specs.Prelude.{arith, sym, ◌∙◌}
use Rattle.std.specs.Prelude.{◌-◌, ◌≡◌}
use Rattle.range_records.proofs.Laws.Loops.{joining_none, joining_more}
use Rattle.range_records.proofs.strips.join.Goals as goal

pub loop-i-preserved : goal.loop-i-preserved
loop-i-preserved c = record {
  behind = omega (arith, c.join_next-j.ensures.1.1);
  on = rw c.join_next-j.ensures.0
      (sym (joining_more c.args.n c.loop-i.i c.loop-i.len c.loop-i.last c.loop-i.run c.loop-i-test.true) ∙ c.loop-i.invariant.on);
}

pub returns : goal.returns
returns c =
    let none : c.args.n - c.loop-i.i ≡ 0 = omega arith in
    joining_none c.loop-i.i c.loop-i.len c.loop-i.last c.loop-i.run ∙ rw none at c.loop-i.invariant.on
