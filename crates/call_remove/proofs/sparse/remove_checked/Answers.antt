-- `remove_checked`: 15 where the entries do not fit; otherwise they are written, and both sets change.
use Rattle.call_remove.specs.Logs.{logs_listed}
use Rattle.call_remove.proofs.sparse.remove_checked.Goals as goal

pub log_all-requires-clause-ready : goal.log_all-requires-clause-ready
log_all-requires-clause-ready c = let q = c.requires.listing in logs_listed q.tracker q.scope q.passed
