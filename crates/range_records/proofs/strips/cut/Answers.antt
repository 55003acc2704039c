-- `cut` writes the next piece in each turn, and no more records are left to read than were.
use Rattle.model.specs.Prelude.{arith, sym, ◌∙◌}
use Rattle.std.specs.Prelude.{◌≡◌}
use Rattle.range_records.proofs.Laws.Loops.{cutting_none, cutting_less}
use Rattle.range_records.proofs.strips.cut.Goals as goal

pub loop-w-preserved : goal.loop-w-preserved
loop-w-preserved c = record {
  inside = omega (arith, c.next_piece-p.ensures.1);
  on = rw (c.next_piece-p.ensures.0, c.saturating_sub.ensures)
      (sym (cutting_less c.loop-w.w c.loop-w.i c.loop-w.edge c.args.start c.args.end c.args.default c.loop-w.run c.loop-w-test.true)
      ∙ c.loop-w.invariant.on);
}

pub returns : goal.returns
returns c =
    let none : c.loop-w.w ≡ 0 = omega arith in
    sym (cutting_none c.loop-w.i c.loop-w.edge c.args.start c.args.end c.args.default c.loop-w.run) ∙ rw none at c.loop-w.invariant.on
