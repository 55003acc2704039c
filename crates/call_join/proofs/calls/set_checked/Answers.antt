-- `set_checked`: 15 where the entries do not fit; otherwise they are written, and the textures change.
use Rattle.log_head.specs.Called.{written}
use Rattle.call_join.proofs.Logs.{logs_set}
use Rattle.call_join.proofs.calls.set_checked.Goals as goal

pub log_all-requires-clause-ready : goal.log_all-requires-clause-ready
log_all-requires-clause-ready c = rw c.wide-n.ensures.0 (logs_set c.requires.joins)

pub returns : goal.returns
returns c =
    let w = rw (c.flags_of-p.ensures, c.wide-n.ensures.0) at c.in_ok-after.ensures in
    let z = c.set_slots.ensures in record { change = written w z.view; frame = z.frame }
