-- `weigh` goes through the items from the last to the first: what it has found is true of those that are gone through.
use Rattle.plan_file.specs.WritingLaws.{Weighing}
use Rattle.plan_file.proofs.writer.weigh.Given as goal

abbrev pub invariant-loop-item : goal.invariant-loop-item
invariant-loop-item l = Weighing l.items l.item-iterator.iter.rest.now l.level l.deepest l.total
