-- `count_of` has counted the uses among all items.
use Rattle.std.proofs.Common.{take_all}
use Rattle.plan_file.specs.UsesLaws.{count_is}
use Rattle.plan_file.proofs.lister.count_of.Goals as goal

pub returns : goal.returns
returns c = rw (count_is c.args.items.now) (rw (take_all _ _ c.loop-item-test.false) at c.loop-item.invariant)
