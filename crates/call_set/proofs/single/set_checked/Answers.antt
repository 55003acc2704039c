-- `set_checked`: 15 where the entries do not fit; otherwise they are written, and the texture changes.
use Rattle.log_head.specs.Called.{written}
use Rattle.call_set.proofs.Uses.{used}
use Rattle.call_set.proofs.single.set_checked.Goals as goal

pub returns : goal.returns
returns c =
    let w = rw c.flags_of-p.ensures at c.in_ok-after.ensures in
    let set = rw c.flags_of-p.ensures at c.set_use_at.ensures in
    used _ _ _ _ _ _ c.requires.both_ready set (written w)
