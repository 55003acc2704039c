-- `put` writes the k-th item if there is room for it.
use Rattle.plan_file.proofs.Readers.{put_is, put_past}
use Rattle.plan_file.proofs.reader.put.Goals as goal

pub returns-then-k-items : goal.returns-then-k-items
returns-then-k-items c = put_is _ _ _ c.if-k-items.true c.copy_from_slice.ensures.len c.copy_from_slice.ensures.after

pub returns-else-k-items : goal.returns-else-k-items
returns-else-k-items c = put_past _ _ _ c.if-k-items.false
