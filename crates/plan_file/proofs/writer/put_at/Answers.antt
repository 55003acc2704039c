-- `put_at` writes the bytes at p if they fit.
use Rattle.plan_file.specs.WritingLaws.{put_at_is, put_at_past}
use Rattle.plan_file.proofs.writer.put_at.Goals as goal

pub returns-then-end-file : goal.returns-then-end-file
returns-then-end-file c = put_at_is _ _ _ c.if-end-file.true c.copy_from_slice.ensures.after

pub returns-else-end-file : goal.returns-else-end-file
returns-else-end-file c = put_at_past _ _ _ c.if-end-file.false
