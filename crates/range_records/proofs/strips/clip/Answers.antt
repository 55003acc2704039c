-- `clip` writes one record more in each turn.
use Rattle.range_records.proofs.Laws.Loops.{clipping_none, clipping_more}
use Rattle.range_records.proofs.strips.clip.Goals as goal

pub loop-w-init : goal.loop-w-init
loop-w-init c = clipping_none c.args.first c.args.start c.args.end c.args.run.now c.args.out.now

pub loop-w-preserved : goal.loop-w-preserved
loop-w-preserved c =
    rw (c.clipped.ensures, c.loop-w.invariant)
    (clipping_more c.loop-w.w c.args.n c.args.first c.args.start c.args.end c.args.run.now c.args.out.now c.loop-w-test.true)
