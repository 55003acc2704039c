-- `uses` lists the uses from the first item on: those of the items gone through stand at the front of the list.
use Rattle.plan_file.specs.UsesLaws.{Listing}
use Rattle.plan_file.proofs.lister.uses.Given as goal

abbrev pub invariant-loop-item : goal.invariant-loop-item
invariant-loop-item l = Listing l.items l.fn.list l.item-index l.at l.list
