-- `merge_every` is a merge of a run that is all of the mip.
use Rattle.texture_mips.proofs.{Walking.{every_met, every_done}}
use Rattle.texture_mips.proofs.uniting.merge_every.Goals as goal

pub returns-then-k-len : goal.returns-then-k-len
returns-then-k-len c =
    every_met _ _ c.requires c.merge_run-k.ensures c.if-k-len.true c.get.ensures

pub returns : goal.returns
returns c =
    every_done _ _ c.requires c.merge_run-k.ensures c.if-k-len.false c.coalesce.ensures
