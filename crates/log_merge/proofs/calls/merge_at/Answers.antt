-- `merge_at` merges where no check fails, and otherwise tells which does, and the empty end of the second log.
use Rattle.log_merge.proofs.Merging.{away, weavable, merges}
use Rattle.log_merge.proofs.calls.merge_at.Goals as goal

pub weave-rest-requires : goal.weave-rest-requires
weave-rest-requires c = weavable _ _ _ _ c.in-Ok.ensures

pub returns-in-Ok : goal.returns-in-Ok
returns-in-Ok c = rw c.moved_on-head.ensures (merges _ _ _ _ c.in-Ok.ensures c.weave-rest.ensures)

pub returns-in-Err : goal.returns-in-Err
returns-in-Err c = away _ _ _ c.args.head _ c.in-Err.ensures
