-- `lay` lays the file out from its end: the bytes of the items gone through stand from p on, and where the open groups end is known.
use Rattle.plan_file.proofs.Laying.{LayingAt}
use Rattle.plan_file.proofs.writer.lay.Given as goal

abbrev pub invariant-loop-item : goal.invariant-loop-item
invariant-loop-item l = LayingAt l.items l.item-iterator.iter.rest.now l.total l.fn.file l.level l.p l.longest l.ends l.file
